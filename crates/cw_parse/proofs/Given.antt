-- What a call says of what it gave, whatever is read.
use Rattle.std.proofs.Common.{◌≡◌, Result, Ok, Err, refl}
use Rattle.std.specs.Prelude.{◌≢◌, IfOk, IfErr}
use Rattle.cw_expressions.specs.declared.refusal.Refusal.{Refusal}
use Rattle.cw_expressions.specs.declared.refusal.Refusal.TheVariants as refusal
use Rattle.cw_expressions.specs.Cursor.{Fails, Gives}

module _ {X Y : Type 0} (view : X → Y) (r : Result X Refusal) (read : Result Y Refusal) (given : Gives view r read) where
  pub gives_found : (P : Y → Type 0) → IfOk read P → IfOk r (λ x. P (view x))
  gives_found P h = by_result r given where
    by_result : (q : Result X Refusal) → Gives view q read → IfOk q (λ x. P (view x))
    by_result (Ok x) g = let p : IfOk read P = h in rw g at p
    by_result (Err e) g = tt

  -- where it refuses, there was nothing to be read, unless memory ran out
  pub gives_none : (P : Y → Type 0) → ((y : Y) → P y → read ≡ Ok y) → IfErr r (λ e. e ≢ refusal.NoMemory → (y : Y) → ¬ (P y))
  gives_none P reads = by_result r given where
    by_fault : (e : Refusal) → Fails e read → e ≢ refusal.NoMemory → (y : Y) → ¬ (P y)
    by_fault refusal.Syntax fails other y p = let found = reads y p in absurd (cc)
    by_fault refusal.TooDeep fails other y p = let found = reads y p in absurd (cc)
    by_fault refusal.NoMemory fails other y p = absurd (other refl)

    by_result : (q : Result X Refusal) → Gives view q read → IfErr q (λ e. e ≢ refusal.NoMemory → (y : Y) → ¬ (P y))
    by_result (Ok x) g = tt
    by_result (Err e) g = by_fault e g

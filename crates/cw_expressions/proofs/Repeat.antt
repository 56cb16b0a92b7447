-- What a loop does that goes on while tokens of some kind are next.
use Rattle.std.proofs.Common.{◌≡◌, ℕ, zero, suc, ◌<◌, Bool, true, false, List, length, Result, Ok, Err, refl, sym, ◌∙◌, arith}
use Rattle.std.specs.Prelude.{IfOk}
use Rattle.cw_grammar.specs.declared.terminals.Lexeme.{Lexeme}
use Rattle.cw_expressions.specs.declared.refusal.Refusal.{Refusal}
use Rattle.cw_expressions.specs.declared.refusal.Refusal.TheVariants as refusal
use Rattle.cw_expressions.specs.Cursor.{◌>>=◌, Fails, repeat}
use Rattle.cw_expressions.proofs.Steps.{if_bind, if_cond}

module _ {S : Type 0} (rest : S → List Lexeme) (goes : List Lexeme → Bool) (step : S → Result S Refusal) where
  pub repeat_ends : (k : ℕ) (x : S) → goes (rest x) ≡ false → repeat rest goes step (suc k) x ≡ Ok x
  unfolding repeat
  repeat_ends k x e = rw e refl

  pub repeat_goes : (k : ℕ) (x : S) → goes (rest x) ≡ true → repeat rest goes step (suc k) x ≡ (step x >>= λ y. repeat rest goes step k y)
  unfolding repeat
  repeat_goes k x e = rw e refl

  pub repeat_fails : (e : Refusal) (k : ℕ) (x : S) → goes (rest x) ≡ true → Fails e (step x) → Fails e (repeat rest goes step (suc k) x)
  repeat_fails refusal.NoMemory k x go h = tt
  repeat_fails refusal.Syntax k x go h = repeat_goes k x go ∙ rw h refl
  repeat_fails refusal.TooDeep k x go h = repeat_goes k x go ∙ rw h refl

  -- what each step keeps is kept
  pub repeat_keeps : (P : S → Type 0) → ((x : S) → goes (rest x) ≡ true → P x → IfOk (step x) P) → (k : ℕ) (x : S) → P x → IfOk (repeat rest goes step k x) P
  unfolding repeat
  repeat_keeps P keeps zero x p = tt
  repeat_keeps P keeps (suc k) x p =
      if_cond (goes (rest x)) _ _ _
      (λ go. if_bind (step x) _ _ _ (keeps x go p) (λ y q. repeat_keeps P keeps k y q))
      (λ stay. p)

  abbrev pub Shortens : Type 0
  Shortens = (x y : S) → goes (rest x) ≡ true → step x ≡ Ok y → length (rest y) < length (rest x)

  fuel_by_step : (j k : ℕ) (r : Result S Refusal) → ((y : S) → r ≡ Ok y → repeat rest goes step j y ≡ repeat rest goes step k y)
      → (r >>= λ y. repeat rest goes step j y) ≡ (r >>= λ y. repeat rest goes step k y)
  fuel_by_step j k (Err e) rec = refl
  fuel_by_step j k (Ok y) rec = rec y refl

  fuel_by_test : (j k : ℕ) (x : S) → ((y : S) → goes (rest x) ≡ true → step x ≡ Ok y → repeat rest goes step j y ≡ repeat rest goes step k y) → (b : Bool) → goes (rest x) ≡ b
      → repeat rest goes step (suc j) x ≡ repeat rest goes step (suc k) x
  fuel_by_test j k x rec true e = repeat_goes j x e ∙ fuel_by_step j k (step x) (λ y h. rec y e h) ∙ sym (repeat_goes k x e)
  fuel_by_test j k x rec false e = repeat_ends j x e ∙ sym (repeat_ends k x e)

  -- any fuel past the tokens will do
  pub repeat_fuel : Shortens → (j k : ℕ) (x : S) → length (rest x) < j → length (rest x) < k → repeat rest goes step j x ≡ repeat rest goes step k x
  repeat_fuel short zero k x p q = absurd (omega arith)
  repeat_fuel short (suc j) zero x p q = absurd (omega arith)
  repeat_fuel short (suc j) (suc k) x p q =
      fuel_by_test j k x (λ y go h. let s = short x y go h in repeat_fuel short j k y (omega (arith, s)) (omega (arith, s))) (goes (rest x)) refl

  pub repeat_further : Shortens → (x y : S) → goes (rest x) ≡ true → step x ≡ Ok y → repeat rest goes step (suc (length (rest y))) y ≡ repeat rest goes step (suc (length (rest x))) x
  repeat_further short x y go h =
      let s = short x y go h in
      repeat_fuel short (suc (length (rest y))) (length (rest x)) y (omega arith) s
      ∙ sym (repeat_goes (length (rest x)) x go ∙ rw h refl)

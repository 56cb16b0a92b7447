-- A context is looked for in the list of its function.
use Rattle.std.proofs.Common.{◌≡◌, ℕ, ◌+◌, ◌≤◌, ◌∙◌, List, Bool, true, false, ◌&&◌, Some, length, refl, sym, ap, ap₂, arith, inl, inr}
use Rattle.std.specs.Prelude.{nat_eq, slice_get, Contains}
use Rattle.std.proofs.lemmas.Bool.{eq-eqb, false≢true}
use Rattle.std.proofs.lemmas.Bool.Decides.{leb_tells}
use Rattle.std.proofs.lemmas.Option.{same_Some, slice_get_within}
use Rattle.cw_solve.specs.declared.contexts.Context.{Context}
use Rattle.cw_solve.specs.declared.indices.Indices.{Indices}
use Rattle.cw_solve.specs.Contexts.{context}
use Rattle.cw_solve.specs.Indexed.{AreListed, AreOthers, numbers_of}
use Rattle.cw_solve.proofs.Still.{number_of}

-- a context that doesn't pass is another
pub is_other : (contexts : List Context) (f e n : ℕ) (x : Context) (passes : Bool) → slice_get contexts n ≡ Some x → passes ≡ (nat_eq x.function f && nat_eq x.promise e)
    → passes ≡ false → slice_get contexts n ≡ Some (context f e) → ⊥
is_other contexts f e n x passes here is fails there =
    let same : x ≡ context f e = same_Some x (context f e) (sym here ∙ there) in
    let as_its : (nat_eq x.function f && nat_eq x.promise e) ≡ (nat_eq f f && nat_eq e e) = ap (λ (y : Context). nat_eq y.function f && nat_eq y.promise e) same in
    let its : (nat_eq f f && nat_eq e e) ≡ true = ap₂ (λ a b. a && b) (eq-eqb f f refl) (eq-eqb e e refl) in
    false≢true (sym fails ∙ is ∙ as_its ∙ its)

module _ (contexts : List Context) (c : Context) (numbers : List ℕ) where
  -- behind all of them
  pub others_end : (many : ℕ) → length numbers ≤ many → AreOthers contexts c numbers many
  others_end many long = λ i n low there is. let z = slice_get_within numbers i n there in omega (arith, long, low, z)

  -- one more
  pub others_more : (at n : ℕ) → slice_get numbers at ≡ Some n → (slice_get contexts n ≡ Some c → ⊥) → AreOthers contexts c numbers (at + 1) → AreOthers contexts c numbers at
  others_more at n here other behind = λ i m low there is. elim (leb_tells i at) [
    | inl q ↦ let z : i ≡ at = omega (arith, q.1, low) in
        let k : n ≡ m = same_Some n m (sym here ∙ sym (ap (slice_get numbers) z) ∙ there) in
        other (ap (slice_get contexts) k ∙ is)
    | inr q ↦ behind i m (omega (arith, q.1)) there is
  ]

-- where each context is listed it would have been found
pub is_nowhere : (s : Indices) (contexts : List Context) (f e : ℕ) (numbers : List ℕ) → numbers ≡ numbers_of s f → AreOthers contexts (context f e) numbers 0 → AreListed s contexts
    → Contains contexts (context f e) → ⊥
is_nowhere s contexts f e numbers is others listed has =
    let at = number_of contexts (context f e) has in
    let i = listed at.0 (context f e) at.1 in
    others i.0 at.0 (omega arith) (ap (λ (ns : List ℕ). slice_get ns i.0) is ∙ i.1) at.1

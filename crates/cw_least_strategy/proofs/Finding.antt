-- Backs by the numbers of their keys, and a sum over a list's front.
use Rattle.std.proofs.Common.{◌≡◌, ℕ, zero, suc, ◌+◌, ◌≤◌, List, [], ◌∷◌, Some, map, take, refl, ap, arith}
use Rattle.std.specs.Prelude.{slice_get, sum_by}
use Rattle.std.proofs.lemmas.Option.{same_Some, none-some}
use Rattle.std.proofs.lemmas.List.Sums.{sum_by-cons}
use Rattle.cw_core.specs.declared.ids.StateId.{StateId}
use Rattle.cw_least_strategy.specs.declared.key.Key.{Key}
use Rattle.cw_least_strategy.proofs.Acting.{plain}
use Rattle.cw_least_strategy.specs.Strategies.{number}

abbrev pub plain_number : StateId × ℕ → ℕ × ℕ
plain_number b = (b.0.0, b.1)

abbrev pub numbered_by : List Key → StateId × Key → StateId × ℕ
numbered_by keys b = (b.0, number keys b.1)

abbrev pub numbers : List Key → ℕ × Key → ℕ × ℕ
numbers keys b = (b.0, number keys b.1)

-- the backs by their numbers
pub numbered_plain : (keys : List Key) (backs : List (StateId × Key)) → map plain_number (map (numbered_by keys) backs) ≡ map (λ (b : ℕ × Key). numbers keys b) (map plain backs)
numbered_plain keys [] = refl
numbered_plain keys (b ∷ backs) = ap (λ (l : List (ℕ × ℕ)). (b.0.0, number keys b.1) ∷ l) (numbered_plain keys backs)

-- a sum over the elements before one, and that one, is at most the sum over all
pub sum_past : {A : Type 0} (w : A → ℕ) (xs : List A) (i : ℕ) (x : A) → slice_get xs i ≡ Some x → sum_by w (take i xs) + w x ≤ sum_by w xs
sum_past w [] i x e = absurd (none-some x e)
sum_past w (y ∷ ys) zero x e =
    let a = sum_by-cons w y ys in
    let b : w y ≡ w x = ap w (same_Some y x e) in
    omega (arith, a, b)
sum_past w (y ∷ ys) (suc i) x e =
    let a = sum_by-cons w y ys in
    let b = sum_by-cons w y (take i ys) in
    let h = sum_past w ys i x e in
    omega (arith, a, b, h)

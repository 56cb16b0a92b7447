-- A sum over some of a list's elements, no two the same, is no more than that over all of them.
use Rattle.std.proofs.Common.{◌≡◌, ◌≢◌, ℕ, zero, suc, ◌+◌, ◌-◌, ◌<◌, ◌≤◌, List, [], ◌∷◌, ◌++◌, length, get_or, refl, sym, ap, ◌∙◌, subst, arith, inl, inr}
use Rattle.std.specs.Prelude.{sum_by, Contains, AllPairs, remove}
use Rattle.std.proofs.lemmas.Bool.{cases_lt, cases_eq}
use Rattle.std.proofs.lemmas.List.Edits.{length-remove, get_or-remove_below, get_or-remove_above}
use Rattle.std.proofs.lemmas.List.Sums.{sum_by-cons, sum_by-remove}
use Rattle.std.proofs.lemmas.List.Quantifiers.{all_pairs_push}
use Rattle.std.proofs.lemmas.List.{get_or_default}
use Rattle.std.proofs.lemmas.List.Elements.{Contains-append_cases}
use Rattle.cw_solve.specs.declared.contexts.Context.{Context}
use Rattle.cw_game.specs.Games.{Game}
use Rattle.cw_solve.specs.Contexts.{size, cells_of, IsNeeded, AreNeeded, AreTheNeeded, AreTooMany}

module _ {X : Type 0} (f : X → ℕ) where
  abbrev AreApart : List X → Type 0
  AreApart xs = AllPairs (λ a b. a ≢ b) xs

  tail_apart : (x : X) (xs : List X) → AreApart (x ∷ xs) → AreApart xs
  tail_apart x xs h i j d lt within = h (suc i) (suc j) d (omega (arith, lt)) (omega (arith, within))

  head_apart : (x c : X) (xs : List X) → AreApart (x ∷ xs) → Contains xs c → x ≡ c → ⊥
  head_apart x c xs h is e = h 0 (suc is.0) c (omega arith) (omega (arith, is.1)) (e ∙ sym is.2)

  -- an element that isn't the one taken out stays
  stays : (xs : List X) (i : ℕ) (x c : X) → i < length xs → get_or xs i x ≡ x → Contains xs c → (x ≡ c → ⊥) → Contains (remove xs i) c
  stays xs i x c lt e is ne =
      elim (cases_lt is.0 i) [
        | inl less ↦ let n = length-remove xs i lt in (is.0, omega (arith, n, less, lt), get_or-remove_below xs i c is.0 less lt ∙ is.2)
        | inr le ↦ elim (cases_eq is.0 i) [
          | inl same ↦ absurd (ne (sym e ∙ get_or_default xs i x c lt ∙ ap (λ k. get_or xs k c) (sym same) ∙ is.2))
          | inr other ↦
              let n = length-remove xs i lt in
              let back : is.0 - 1 + 1 ≡ is.0 = omega (arith, le, other) in
              (is.0 - 1, omega (arith, n, le, other, is.1), get_or-remove_above xs i c (is.0 - 1) (omega (arith, le, other)) lt ∙ ap (λ k. get_or xs k c) back ∙ is.2)
        ]
      ]

  pub sum_within : (xs ys : List X) → AreApart xs → ((c : X) → Contains xs c → Contains ys c) → sum_by f xs ≤ sum_by f ys
  sum_within [] ys h to = omega arith
  sum_within (x ∷ xs) ys h to =
      let i = to x (0, omega arith, refl) in
      let rest : sum_by f xs ≤ sum_by f (remove ys i.0) = sum_within xs (remove ys i.0) (tail_apart x xs h)
      (λ c is. stays ys i.0 x c i.1 i.2 (to c (suc is.0, omega (arith, is.1), is.2)) (head_apart x c xs h is)) in
      let all = sum_by-remove f ys i.0 x i.1 in
      let first = ap f i.2 in
      omega (arith, rest, all, first, sum_by-cons f x xs)

-- what needed contexts have of cells, no two of them the same, all that are needed have
pub cells_within : (g : Game) (some all : List Context) → AreNeeded g some → AreTheNeeded g all → cells_of g some ≤ cells_of g all
cells_within g some all s a = sum_within (λ c. size g c.function) some all s.distinct (λ c is. a.all c (s.needed c is))

pub too_many : (g : Game) (some all : List Context) → AreTooMany g some → AreTheNeeded g all → 4194304 < cells_of g all
too_many g some all s a = let le = cells_within g some all s.some a in omega (arith, le, s.many)

only_one : (c d : Context) (k : ℕ) → k < length (c ∷ []) → get_or (c ∷ []) k d ≡ d → c ≡ d
only_one c d zero lt e = e
only_one c d (suc k) lt e = absurd (omega (arith, lt))

-- one context more
pub needed_more : (g : Game) (contexts : List Context) (c : Context) → AreNeeded g contexts → IsNeeded g c → (Contains contexts c → ⊥) → AreNeeded g (contexts ++ c ∷ [])
needed_more g contexts c are need new = record {
  needed = λ d is. elim (Contains-append_cases contexts (c ∷ []) d is) [
    | inl old ↦ are.needed d old
    | inr one ↦ subst (λ (y : Context). IsNeeded g y) (only_one c d one.0 one.1 one.2) need
  ];
  distinct = all_pairs_push (λ a b. a ≢ b) contexts c are.distinct (λ k d lt e. new (k, lt, get_or_default contexts k c d lt ∙ e));
}

pub one_number : (g : Game) (some all : List Context) → AreTheNeeded g some → AreTheNeeded g all → cells_of g some ≡ cells_of g all
one_number g some all s a = omega (arith, cells_within g some all s.some a, cells_within g all some a.some s)

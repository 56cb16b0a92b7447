-- Sets of states: what the program's sets tell of the conditions.
use Rattle.std.proofs.Common.{◌≡◌, ℕ, zero, suc, ◌+◌, ◌^◌, ◌<◌, ◌≤◌, ◌↔◌, List, [], ◌∷◌, Bool, true, false, Some, option_map, map, not, ◌&&◌, ◌||◌, cond, min, nat_lt, nat_eq, eqb-true}
use Rattle.std.proofs.Common.{eq-eqb, refl, sym, ap, ◌∙◌, arith, ap₂, take, length, get_or, ◌==◌}
use Rattle.std.specs.Prelude.{IsTrue, is_some}
use Rattle.std.specs.List.{list_all, list_any, range_with_len, find}
use Rattle.std.specs.Cmp.{both_ways}
use Rattle.std.proofs.Math.Nat.{min-le_left, min-le_right, le-min}
use Rattle.std.proofs.lemmas.Bool.{ltb_from_iff, ltb-true, lt-ltb, ne_eqb}
use Rattle.std.proofs.lemmas.List.{take_all}
use Rattle.std.proofs.lemmas.List.Folds.{list_any_more}
use Rattle.std.proofs.lemmas.Bool.Decides.{nat_tests}
use Rattle.cw_core.specs.declared.ids.StateId.{StateId}
use Rattle.cw_core.specs.StateSet.{has as has_in, IsSubset, IsBelow}
use Rattle.cw_core.proofs.Sets.{IsBelow-lt, IsBelow_from_lt}
use Rattle.cw_certs.specs.Strategies.{back_of}
use Rattle.cw_game.specs.Pairs.{has}
use Rattle.cw_game.proofs.Members.{has_is}
use Rattle.cw_game.proofs.Truths.{or_parts}
use Rattle.std.proofs.lemmas.Bool.{and_parts, and_from as both, not-true as is_false}
use Rattle.cw_echeck.specs.Checks.{backs_of, is_for}
use Rattle.cw_lemmas.proofs.Lists.{all_range}

-- what has the numbers below m that another set hasn't
pub record IsRest (rest set m : ℕ) : Type 0 where
  pub members : (i : ℕ) → has_in rest i ≡ (nat_lt i m && not (has_in set i))

in_rest : (rest set m s : ℕ) → IsRest rest set m → s < m → has set s ≡ false → has_in rest s ≡ true
in_rest rest set m s r l h = r.members s ∙ both (nat_lt s m) (not (has_in set s)) (lt-ltb s m l) (ap not (has_is set s ∙ h))

of_rest : (rest set m s : ℕ) → IsRest rest set m → has_in rest s ≡ true → (s < m) × (has set s ≡ false)
of_rest rest set m s r h =
    let k = and_parts (nat_lt s m) (not (has_in set s)) (sym (r.members s) ∙ h) in
    (ltb-true s m k.0, sym (has_is set s) ∙ is_false (has_in set s) k.1)

-- a set of numbers below n, where all is the set of those that it can have
pub below_is : (set all none n : ℕ) (t : Bool) → IsBelow 1024 set → ((s : ℕ) → has_in none s ≡ false) → IsRest all none (min n 1024)
    → IsTrue t ↔ IsSubset set all → t ≡ nat_lt set (2 ^ n)
below_is set all none n t below empty rest told = ltb_from_iff (forth, back)
  where
    forth : t ≡ true → set < 2 ^ n
    forth e = IsBelow-lt n set (λ s h.
        let k = of_rest all none (min n 1024) s rest (told.0 e s h) in
        let m = min-le_left n 1024 in
        let l = k.0 in
        omega (arith, l, m))

    back : set < 2 ^ n → t ≡ true
    back l = told.1 (λ s h. in_rest all none (min n 1024) s rest (le-min (IsBelow_from_lt n set l s h) (below s h)) (sym (has_is none s) ∙ empty s))

range_all : (test : ℕ → Bool) (a n : ℕ) → ((x : ℕ) → a ≤ x → x < a + n → test x ≡ true) → list_all test (range_with_len a n) ≡ true
range_all test a zero h = refl
range_all test a (suc n) h =
    both (test a) (list_all test (range_with_len (a + 1) n)) (h a (omega arith) (omega arith))
    (range_all test (a + 1) n (λ x le l. h x (omega (arith, le)) (omega (arith, l))))

-- a member of the aim has a back
abbrev test_of : ℕ → List (ℕ × ℕ) → ℕ → Bool
test_of aim backs x = not (has aim x) || is_some (back_of backs x)

module _ (aim exits left none n : ℕ) (backs : List (ℕ × ℕ)) (t : Bool) (below : IsBelow 1024 aim) (are : (x : ℕ) → x < 1024
    → has exits x ≡ is_some (back_of backs x))
    (rest_left : IsRest left exits (min n 1024)) (rest_none : IsRest none aim (min n 1024)) (told : IsTrue t ↔ IsSubset left none) where
  there : (x : ℕ) (a b : Bool) → has aim x ≡ a → is_some (back_of backs x) ≡ b → x < n → t ≡ true → (not a || b) ≡ true
  there x false b ea eb l e = refl
  there x true true ea eb l e = refl
  there x true false ea eb l e =
      let small : x < 1024 = below x (has_is aim x ∙ ea) in
      let k = of_rest none aim (min n 1024) x rest_none
      (told.0 e x (in_rest left exits (min n 1024) x rest_left (le-min l small) (are x small ∙ eb))) in
      absurd (let z : true ≡ false = sym ea ∙ k.1 in cc)

  all_there : t ≡ true → list_all (test_of aim backs) (range_with_len 0 n) ≡ true
  all_there e = range_all (test_of aim backs) 0 n (λ x le l. there x (has aim x) (is_some (back_of backs x)) refl refl (omega (arith, l)) e)

  out : (x : ℕ) → test_of aim backs x ≡ true → x < 1024 → has exits x ≡ false → has aim x ≡ false
  out x h small e = by (has aim x) refl
    where
      by : (b : Bool) → has aim x ≡ b → b ≡ false
      by true ea = absurd (let z : true ≡ false = sym (or_parts (has aim x) (is_some (back_of backs x)) h ea) ∙ sym (are x small) ∙ e in cc)
      by false ea = refl

  all_out : list_all (test_of aim backs) (range_with_len 0 n) ≡ true → t ≡ true
  all_out h = told.1 (λ s is.
      let k = of_rest left exits (min n 1024) s rest_left is in
      let l = k.0 in
      let m1 = min-le_left n 1024 in
      let m2 = min-le_right n 1024 in
      in_rest none aim (min n 1024) s rest_none k.0
      (out s (all_range (test_of aim backs) 0 n h s (omega arith) (omega (arith, l, m1))) (omega (arith, l, m2)) k.1))

  -- each member of the aim below the count has a back, where exits are those that have one
  pub covered_is : t ≡ list_all (λ x. not (has aim x) || is_some (back_of backs x)) (range_with_len 0 n)
  covered_is = both_ways t (list_all (test_of aim backs) (range_with_len 0 n)) all_there all_out

-- whether an exit state has a back, by a pass over the program's backs
pub any_back : (backs : List (StateId × ℕ)) (x : ℕ) → list_any (is_for x) backs ≡ is_some (back_of (backs_of backs) x)
any_back [] x = refl
any_back (b ∷ backs) x = by (nat_eq b.0.0 x) refl (any_back backs x)
  where
    by : (t : Bool) → nat_eq b.0.0 x ≡ t → list_any (is_for x) backs ≡ is_some (back_of (backs_of backs) x)
        → (t || list_any (is_for x) backs) ≡ is_some
        (option_map (λ b. b.1) (cond t (Some (b.0.0, b.1)) (find (λ (b : ℕ × ℕ). nat_eq b.0 x) (backs_of backs))))
    by true e rec = refl
    by false e rec = rec

-- one more back: the exits so far, and this one
abbrev pub Among : ℕ → List (StateId × ℕ) → Type 0
Among exits backs = (x : ℕ) → x < 1024 → has exits x ≡ list_any (is_for x) backs

or_swapped : (a b : Bool) → (a || b) ≡ (b || a)
or_swapped true true = refl
or_swapped true false = refl
or_swapped false true = refl
or_swapped false false = refl

or_false : (a b : Bool) → b ≡ false → (a || b) ≡ a
or_false true b e = refl
or_false false b e = e

same_way : (a b : ℕ) → (a == b) ≡ nat_eq b a
same_way a b = grind (arith, nat_tests)

module _ (exits i : ℕ) (backs : List (StateId × ℕ)) (d : StateId × ℕ) (lt : i < length backs) (so_far : Among exits (take i backs)) where
  pub among_with : (more : ℕ) → ((x : ℕ) → has_in more x ≡ (x == (get_or backs i d).0.0 || has_in exits x)) → Among more (take (i + 1) backs)
  among_with more h x l =
      sym (has_is more x) ∙ h x ∙ or_swapped (x == (get_or backs i d).0.0) (has_in exits x)
      ∙ ap₂ (λ a b. a || b) (has_is exits x ∙ so_far x l) (same_way x (get_or backs i d).0.0) ∙ sym (list_any_more (is_for x) backs i d lt)

  pub among_without : 1024 ≤ (get_or backs i d).0.0 → Among exits (take (i + 1) backs)
  among_without le x l =
      let apart : nat_eq (get_or backs i d).0.0 x ≡ false = ne_eqb (get_or backs i d).0.0 x (omega (arith, le, l)) in
      so_far x l ∙ sym (or_false (list_any (is_for x) (take i backs)) (is_for x (get_or backs i d)) apart)
      ∙ sym (list_any_more (is_for x) backs i d lt)

pub among_all : (exits i : ℕ) (backs : List (StateId × ℕ)) → length backs ≤ i → Among exits (take i backs) → (x : ℕ) → x < 1024
    → has exits x ≡ is_some (back_of (backs_of backs) x)
among_all exits i backs le so_far x l = so_far x l ∙ ap (list_any (is_for x)) (take_all i backs le) ∙ any_back backs x

-- tests of the numbers of backs, on the program's data
pub named_is : (test : ℕ → Bool) (backs : List (StateId × ℕ))
    → list_all (λ (b : StateId × ℕ). test b.1) backs ≡ list_all test (map (λ (b : ℕ × ℕ). b.1) (backs_of backs))
named_is test [] = refl
named_is test (b ∷ backs) = ap (λ t. test b.1 && t) (named_is test backs)

pub exits_is : (test : ℕ → Bool) (backs : List (StateId × ℕ))
    → list_all (λ (b : StateId × ℕ). test b.0.0) backs ≡ list_all test (map (λ (b : ℕ × ℕ). b.0) (backs_of backs))
exits_is test [] = refl
exits_is test (b ∷ backs) = ap (λ t. test b.0.0 && t) (exits_is test backs)

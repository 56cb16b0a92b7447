-- A walk along a list of links, and along a row: what is left of it, and its next step.
use Rattle.std.proofs.Common.{◌≡◌, ◌≢◌, ◌+◌, ◌<◌, ◌≤◌, ℕ, suc, inl, inr, Bool, true, false, List, [], ◌∷◌, ◌++◌, eqb, Option, Some, length, refl, sym, ap, ◌∙◌, subst, arith}
use Rattle.std.specs.Prelude.{◌⊎◌, slice_get, if◌then◌else◌, Contains}
use Rattle.std.specs.List.{concat}
use Rattle.std.proofs.lemmas.Bool.{cases_eq, cases_lt, eq-eqb, ne_eqb, eqb-true}
use Rattle.std.proofs.lemmas.Option.{none-some, same_Some, slice_get_within}
use Rattle.cw_links.specs.Lists.{list_at, AreApart}
use Rattle.cw_links.specs.Rows.{has, Once}
use Rattle.cw_links.proofs.NodeRows.{Once-append_right, apart-append}
use Rattle.cw_linked.specs.Walks.{from, rest_of, IsFrom}
use Rattle.cw_links.proofs.CallerLemmas.{Once-from_IsDistinct}
use Rattle.cw_links.proofs.FlatRows.{stands_at}
use Rattle.cw_links.proofs.Stacks.{Once_at}

pub apart_once : (lists : List (List ℕ)) (cells l : ℕ) → AreApart lists cells → Once (list_at lists l)
apart_once lists cells l apart = Once_at lists l (Once-from_IsDistinct (concat lists) apart.once)

-- what is left begins with the cell, where it is in the list
pub split_at : (xs : List ℕ) (e : ℕ) → slice_get (from xs e) 0 ≡ Some e → (front : List ℕ) × (back : List ℕ) × (xs ≡ front ++ e ∷ back) × (from xs e ≡ e ∷ back)
split_at [] e h = absurd (none-some e h)
split_at (x ∷ xs) e h = by (split_at xs e) (eqb x e) refl h
  where
    by : (slice_get (from xs e) 0 ≡ Some e → (front : List ℕ) × (back : List ℕ) × (xs ≡ front ++ e ∷ back) × (from xs e ≡ e ∷ back))
        → (b : Bool) → eqb x e ≡ b → slice_get (if b then x ∷ xs else from xs e) 0 ≡ Some e
        → (front : List ℕ) × (back : List ℕ) × (x ∷ xs ≡ front ++ e ∷ back) × ((if b then x ∷ xs else from xs e) ≡ e ∷ back)
    by later true t k = let same = eqb-true x e t in ([], xs, ap (λ (y : ℕ). y ∷ xs) same, ap (λ (y : ℕ). y ∷ xs) same)
    by later false t k = let s = later k in (x ∷ s.0, s.1, ap (λ (ys : List ℕ). x ∷ ys) s.2, s.3)

from_here : (e : ℕ) (xs : List ℕ) → from (e ∷ xs) e ≡ e ∷ xs
from_here e xs = ap (λ (b : Bool). if b then e ∷ xs else from xs e) (eq-eqb e e refl)

from_next : (x e : ℕ) (xs : List ℕ) → x ≢ e → from (x ∷ xs) e ≡ from xs e
from_next x e xs ne = ap (λ (b : Bool). if b then x ∷ xs else from xs e) (ne_eqb x e ne)

has_not : (x e : ℕ) (xs : List ℕ) → has (x ∷ xs) e ≡ false → (x ≢ e) × (has xs e ≡ false)
has_not x e xs h = elim (cases_eq x e) [
  | inl same ↦ absurd (let z : true ≡ false = sym (ap (λ (b : Bool). if b then true else has xs e) (eq-eqb x e same)) ∙ h in cc)
  | inr ne ↦ (ne, sym (ap (λ (b : Bool). if b then true else has xs e) (ne_eqb x e ne)) ∙ h)
]

from_past : (front ys : List ℕ) (e : ℕ) → has front e ≡ false → from (front ++ ys) e ≡ from ys e
from_past [] ys e h = refl
from_past (x ∷ front) ys e h = let n = has_not x e front h in from_next x e (front ++ ys) n.0 ∙ from_past front ys e n.1

-- a step further, one cell less is left
pub rest_after : (xs front back : List ℕ) (e : ℕ) → Once xs → xs ≡ front ++ e ∷ back → rest_of xs (slice_get back 0) ≡ back
rest_after xs front [] e o is = refl
rest_after xs front (y ∷ back) e o is =
    let apart : Once (front ++ e ∷ y ∷ back) = subst Once is o in
    let here : has (e ∷ y ∷ back) y ≡ true = second in
    let before : has front y ≡ false = apart-append front (e ∷ y ∷ back) y apart here in
    let tail : Once (e ∷ y ∷ back) = Once-append_right front (e ∷ y ∷ back) apart in
    ap (λ (zs : List ℕ). from zs y) is ∙ from_past front (e ∷ y ∷ back) y before ∙ from_next e y (y ∷ back) (λ same. (has_not y e back tail.0).0 (sym same)) ∙ from_here y back
  where
    first : has (y ∷ back) y ≡ true
    first = ap (λ (b : Bool). if b then true else has back y) (eq-eqb y y refl)

    second : has (e ∷ y ∷ back) y ≡ true
    second = by (eqb e y)
      where
        by : (b : Bool) → (if b then true else has (y ∷ back) y) ≡ true
        by true = refl
        by false = first

-- a walk begins with the whole list
pub rest_whole : (xs : List ℕ) → rest_of xs (slice_get xs 0) ≡ xs
rest_whole [] = refl
rest_whole (x ∷ xs) = from_here x xs

pub walk_begins : (xs : List ℕ) (next : Option ℕ) → next ≡ slice_get xs 0 → (rest_of xs next ≡ xs) × (slice_get (rest_of xs next) 0 ≡ next)
walk_begins xs next is =
    let whole : rest_of xs next ≡ xs = ap (rest_of xs) is ∙ rest_whole xs in
    (whole, ap (λ (ys : List ℕ). slice_get ys 0) whole ∙ sym is)

-- a cell at which a walk stands is in its list
middle_in : (front : List ℕ) (e : ℕ) (back : List ℕ) → Contains (front ++ e ∷ back) e
middle_in [] e back = (0, omega arith, refl)
middle_in (x ∷ front) e back = let k = middle_in front e back in (suc k.0, omega (arith, k.1), k.2)

pub walk_in : (xs : List ℕ) (edge : ℕ) (now : Option ℕ) → now ≡ Some edge → slice_get (rest_of xs now) 0 ≡ now → Contains xs edge
walk_in xs edge now here at =
    let s = split_at xs edge (subst (λ (o : Option ℕ). slice_get (rest_of xs o) 0 ≡ o) here at) in
    subst (λ (ys : List ℕ). Contains ys edge) (sym s.2) (middle_in s.0 edge s.1)

-- a step of a walk that stands at a cell: what is left behind it, and with the next one
pub record StepsOn (xs : List ℕ) (edge : ℕ) (now next : Option ℕ) : Type 0 where
  pub back : List ℕ
  pub rest : rest_of xs now ≡ edge ∷ back
  pub left : rest_of xs next ≡ back
  pub at : slice_get (rest_of xs next) 0 ≡ next
  pub fewer : length (rest_of xs next) < length (rest_of xs now)

pub walk_steps : (lists : List (List ℕ)) (cells l edge : ℕ) (now next : Option ℕ) → now ≡ Some edge → slice_get (rest_of (list_at lists l) now) 0 ≡ now → AreApart lists cells
    → ((list : ℕ) (front back : List ℕ) → list_at lists list ≡ front ++ edge ∷ back → next ≡ slice_get back 0) → StepsOn (list_at lists l) edge now next
walk_steps lists cells l edge now next here at apart within =
    let xs = list_at lists l in
    let s = split_at xs edge (subst (λ (o : Option ℕ). slice_get (rest_of xs o) 0 ≡ o) here at) in
    let is = within l s.0 s.1 s.2 in
    let rest : rest_of xs now ≡ edge ∷ s.1 = ap (rest_of xs) here ∙ s.3 in
    let left : rest_of xs next ≡ s.1 = ap (rest_of xs) is ∙ rest_after xs s.0 s.1 edge (apart_once lists cells l apart) s.2 in
    let old = ap (λ (ys : List ℕ). length ys) rest in
    let new = ap (λ (ys : List ℕ). length ys) left in
    record { back = s.1; rest = rest; left = left; at = ap (λ (ys : List ℕ). slice_get ys 0) left ∙ sym is; fewer = omega (arith, old, new) }

-- the same, where the lists are those with which the walk began
pub walk_goes_on : (lists before : List (List ℕ)) → lists ≡ before → (cells l edge : ℕ) (now next : Option ℕ) → now ≡ Some edge → slice_get (rest_of (list_at before l) now) 0 ≡ now
    → AreApart lists cells → ((list : ℕ) (front back : List ℕ) → list_at lists list ≡ front ++ edge ∷ back → next ≡ slice_get back 0) → StepsOn (list_at before l) edge now next
walk_goes_on lists before same cells l edge now next here at apart within =
    subst (λ (ls : List (List ℕ)). StepsOn (list_at ls l) edge now next) same
    (walk_steps lists cells l edge now next here (subst (λ (ls : List (List ℕ)). slice_get (rest_of (list_at ls l) now) 0 ≡ now) (sym same) at) apart within)

-- A walk along a row begins with the whole row; what is left is the value at its number or behind it; and at last nothing is left.

pub row_whole : {T : Type 0} (row : List T) (v : T) → Contains row v → IsFrom row 0 v
row_whole row v h = (h.0, omega arith, stands_at row v h)

pub now_or_later : {T : Type 0} (row : List T) (n : ℕ) (v w : T) → slice_get row n ≡ Some v → IsFrom row n w → (v ≡ w) ⊎ IsFrom row (n + 1) w
now_or_later row n v w here (k, le, is) = elim (cases_lt n k) [
  | inl lt ↦ inr (k, omega (arith, lt), is)
  | inr ge ↦ let same : n ≡ k = omega (arith, le, ge) in inl (same_Some v w (sym here ∙ ap (slice_get row) same ∙ is))
]

pub row_done : {T : Type 0} (row : List T) (n : ℕ) (v : T) → length row ≤ n → IsFrom row n v → ⊥
row_done row n v past (k, le, is) = let lt = slice_get_within row k v is in omega (arith, past, le, lt)

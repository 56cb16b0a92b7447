-- Lists: what they contain, what stands at a place, what all or some of their items are.
use Rattle.std.proofs.Common.{◌≡◌, ℕ, zero, suc, ◌+◌, ◌<◌, ◌≤◌, Bool, true, false, ◌&&◌, ◌||◌, cond, List, [], ◌∷◌, ◌++◌, map, length, Option, None, Some, refl, sym, subst, ap, ◌∙◌, arith, ⊎_elim, nat_eq, eqb-true}
use Rattle.std.proofs.Common.{eq-eqb, set, take, get_or, ap₂, ◌⊎◌, inl, inr}
use Rattle.std.specs.Prelude.{slice_get, option_map}
use Rattle.std.specs.List.{Contains, list_any, list_all, range_with_len, take_while, AllByRecursion, filter_map, cons_option}
use Rattle.std.proofs.lemmas.Bool.{and_parts}
use Rattle.std.proofs.lemmas.List.{get_or-map, length-map, take_all}
use Rattle.std.proofs.lemmas.List.Elements.{Contains-append_right, Contains-append_cases, Contains-append_left, Contains-push, Contains-push_cases}
use Rattle.std.proofs.lemmas.List.Sums.{take_while-cons}
use Rattle.std.proofs.lemmas.Option.{none-some, same_Some, slice_get_within, get_or_from_slice_get, slice_get-map, slice_get-get_or}
use Rattle.std.proofs.lemmas.List.Folds.{list_all-map, list_all_more, list_all_at}

pub contains_none : {A : Type 0} (x : A) → Contains [] x → ⊥
contains_none x (k, l, e) = absurd (omega arith)

pub contains_one : {A : Type 0} (x y : A) → Contains (x ∷ []) y → x ≡ y
contains_one x y c = ⊎_elim (λ n. absurd (contains_none y n)) (λ e. e) (Contains-push_cases [] x y c)

-- of a list with one item in front
pub head_in : {A : Type 0} (x : A) (xs : List A) → Contains (x ∷ xs) x
head_in x xs = (0, omega arith, refl)

pub tail_in : {A : Type 0} (x : A) (xs : List A) (y : A) → Contains xs y → Contains (x ∷ xs) y
tail_in x xs y h = let lt = h.1 in (suc h.0, omega (arith, lt), h.2)

pub in_either : {A : Type 0} (x : A) (xs : List A) (y : A) → Contains (x ∷ xs) y → (x ≡ y) ⊎ Contains xs y
in_either x xs y (zero, lt, e) = inl e
in_either x xs y (suc k, lt, e) = inr (k, omega (arith, lt), e)

pub contains_map : {A B : Type 0} (f : A → B) (xs : List A) (x : A) → Contains xs x → Contains (map f xs) (f x)
contains_map f xs x (k, l, e) = let n = length-map xs f in (k, omega (arith, l, n), get_or-map f xs k x (f x) l ∙ ap f e)

pub map_contains : {A B : Type 0} (f : A → B) (xs : List A) (y : B) → Contains (map f xs) y → (x : A) × Contains xs x × (f x ≡ y)
map_contains f [] y c = absurd (contains_none y c)
map_contains f (x ∷ xs) y c = ⊎_elim (λ h. (x, Contains-append_left (x ∷ []) xs x (Contains-push [] x), contains_one (f x) y h))
    (λ h. let r = map_contains f xs y h in (r.0, Contains-append_right (x ∷ []) xs r.0 r.1, r.2)) (Contains-append_cases (f x ∷ []) (map f xs) y c)

-- below the length something stands
pub get_below : {A : Type 0} (xs : List A) (i : ℕ) → i < length xs → (x : A) × (slice_get xs i ≡ Some x)
get_below [] i h = absurd (omega arith)
get_below (x ∷ xs) zero h = (x, refl)
get_below (x ∷ xs) (suc i) h = get_below xs i (omega arith)

pub any_get : {A : Type 0} (p : A → Bool) (xs : List A) → list_any p xs ≡ true → (i : ℕ) × (x : A) × (slice_get xs i ≡ Some x) × (p x ≡ true)
any_get {A = A} p [] h = cc
any_get {A = A} p (x ∷ xs) h = by (p x) refl h (any_get p xs)
  where
    by : (b : Bool) → p x ≡ b → (b || list_any p xs) ≡ true → (list_any p xs ≡ true → (i : ℕ) × (y : A) × (slice_get xs i ≡ Some y) × (p y ≡ true))
        → (i : ℕ) × (y : A) × (slice_get (x ∷ xs) i ≡ Some y) × (p y ≡ true)
    by true e k rest = (0, x, refl, e)
    by false e k rest = let r = rest k in (suc r.0, r.1, r.2, r.3)

pub all_taken : (p : ℕ → Bool) (bs : List ℕ) → list_all p (take_while p bs) ≡ true
all_taken p [] = refl
all_taken p (b ∷ bs) = rw (take_while-cons p b bs) (by_test (take_while p bs) (all_taken p bs) (p b) refl)
  where
    by_test : (rest : List ℕ) → list_all p rest ≡ true → (t : Bool) → p b ≡ t → list_all p (cond t (b ∷ rest) []) ≡ true
    by_test rest all true e = rw (e, all) refl
    by_test rest all false e = refl

pub all_range : (test : ℕ → Bool) (a n : ℕ) → list_all test (range_with_len a n) ≡ true → (x : ℕ) → a ≤ x → x < a + n → test x ≡ true
all_range test a zero h x le lt = absurd (omega (arith, le, lt))
all_range test a (suc n) h x le lt = by (nat_eq a x) refl (all_range test (a + 1) n k.1 x)
  where
    k : (test a ≡ true) × (list_all test (range_with_len (a + 1) n) ≡ true)
    k = and_parts (test a) (list_all test (range_with_len (a + 1) n)) h

    by : (b : Bool) → nat_eq a x ≡ b → (a + 1 ≤ x → x < a + 1 + n → test x ≡ true) → test x ≡ true
    by true e rec = ap test (sym (eqb-true a x e)) ∙ k.0
    by false e rec =
        let ne : a ≡ x → ⊥ = λ y. let w : true ≡ false = sym (eq-eqb a x y) ∙ e in cc in
        let past : a + 1 ≤ x = omega (arith, le, ne) in
        rec past (omega (arith, lt))

-- what stands at a place: after a place is written, before what comes behind, and at the end
pub get_contains : {A : Type 0} (xs : List A) (i : ℕ) (x : A) → slice_get xs i ≡ Some x → Contains xs x
get_contains xs i x e = (i, slice_get_within xs i x e, get_or_from_slice_get xs i x x e)

pub get_set : {A : Type 0} (xs : List A) (i : ℕ) (old x : A) → slice_get xs i ≡ Some old → slice_get (set xs i x) i ≡ Some x
get_set [] i old x e = absurd (none-some old e)
get_set (y ∷ xs) zero old x e = refl
get_set (y ∷ xs) (suc i) old x e = get_set xs i old x e

pub get_other : {A : Type 0} (xs : List A) (i j : ℕ) (x : A) → (j ≡ i → ⊥) → slice_get (set xs i x) j ≡ slice_get xs j
get_other [] i j x n = refl
get_other (y ∷ xs) zero zero x n = absurd (n refl)
get_other (y ∷ xs) zero (suc j) x n = refl
get_other (y ∷ xs) (suc i) zero x n = refl
get_other (y ∷ xs) (suc i) (suc j) x n = get_other xs i j x (λ e. n (ap suc e))

pub get_front : {A : Type 0} (xs more : List A) (i : ℕ) (x : A) → slice_get xs i ≡ Some x → slice_get (xs ++ more) i ≡ Some x
get_front [] more i x e = absurd (none-some x e)
get_front (y ∷ xs) more zero x e = e
get_front (y ∷ xs) more (suc i) x e = get_front xs more i x e

pub get_last : {A : Type 0} (xs : List A) (x : A) → slice_get (xs ++ x ∷ []) (length xs) ≡ Some x
get_last [] x = refl
get_last (y ∷ xs) x = get_last xs x

-- an item that is read at a place stands there in the list that is mapped
pub get_mapped : {A B : Type 0} (f : A → B) (xs : List A) (i : ℕ) (x : A) → i < length xs → x ≡ get_or xs i x → slice_get (map f xs) i ≡ Some (f x)
get_mapped f xs i x lt e = slice_get-map f xs i ∙ ap (option_map f) (slice_get-get_or xs i x lt ∙ ap Some (sym e))

-- what all items have, of two lists and of one item more
pub all_append : {A : Type 0} (P : A → Type 0) (xs ys : List A) → AllByRecursion P xs → AllByRecursion P ys → AllByRecursion P (xs ++ ys)
all_append P [] ys h k = k
all_append P (x ∷ xs) ys h k = (h.0, all_append P xs ys h.1 k)

pub all_push : {A : Type 0} (P : A → Type 0) (xs : List A) (x : A) → AllByRecursion P xs → P x → AllByRecursion P (xs ++ x ∷ [])
all_push P [] x h k = (k, tt)
all_push P (y ∷ xs) x h k = (h.0, all_push P xs x h.1 k)

-- a test of what a function gives, as a loop makes it: at its end, where it fails, and one item further
pub all_done : {A B : Type 0} (test : B → Bool) (f : A → B) (xs : List A) (i : ℕ) → length xs ≤ i → list_all (λ x. test (f x)) (take i xs) ≡ true → list_all test (map f xs) ≡ true
all_done test f xs i le h = list_all-map test f xs ∙ ap (list_all (λ x. test (f x))) (sym (take_all i xs le)) ∙ h

pub all_not : {A B : Type 0} (test : B → Bool) (f : A → B) (xs : List A) (i : ℕ) (d : A) → i < length xs → test (f (get_or xs i d)) ≡ false → list_all test (map f xs) ≡ false
all_not test f xs i d lt h = list_all-map test f xs ∙ list_all_at (λ x. test (f x)) xs i d lt h

pub all_more : {A B : Type 0} (test : B → Bool) (f : A → B) (xs : List A) (i : ℕ) (d : A) → i < length xs → list_all (λ x. test (f x)) (take i xs) ≡ true
    → test (f (get_or xs i d)) ≡ true → list_all (λ x. test (f x)) (take (i + 1) xs) ≡ true
all_more test f xs i d lt h e = list_all_more (λ x. test (f x)) xs i d lt ∙ ap₂ (λ a b. a && b) h e

-- what a list maps to, where it does, and what of it does
pub from_kept : {A B : Type 0} (f : A → Option B) (xs : List A) (y : B) → Contains (filter_map f xs) y → (x : A) × Contains xs x × (f x ≡ Some y)
from_kept f [] y c = absurd (contains_none y c)
from_kept {A} {B} f (x ∷ xs) y c = by (f x) refl c (from_kept f xs y)
  where
    Is : Type 0
    Is = (z : A) × Contains (x ∷ xs) z × (f z ≡ Some y)

    by : (o : Option B) → f x ≡ o → Contains (cons_option o (filter_map f xs)) y → (Contains (filter_map f xs) y → (z : A) × Contains xs z × (f z ≡ Some y)) → Is
    by None e c rec = let r = rec c in (r.0, tail_in x xs r.0 r.1, r.2)
    by (Some v) e c rec = elim (in_either v (filter_map f xs) y c) [
      | inl s ↦ (x, head_in x xs, e ∙ ap Some s)
      | inr d ↦ let r = rec d in (r.0, tail_in x xs r.0 r.1, r.2)
    ]

pub to_kept : {A B : Type 0} (f : A → Option B) (xs : List A) (x : A) (y : B) → Contains xs x → f x ≡ Some y → Contains (filter_map f xs) y
to_kept f [] x y c e = absurd (contains_none x c)
to_kept {A} {B} f (z ∷ zs) x y c e = by (f z) refl (in_either z zs x c) (λ d. to_kept f zs x y d e)
  where
    by : (o : Option B) → f z ≡ o → (z ≡ x) ⊎ Contains zs x → (Contains zs x → Contains (filter_map f zs) y) → Contains (cons_option o (filter_map f zs)) y
    by None eo (inl s) rec = absurd (none-some y (sym eo ∙ ap f s ∙ e))
    by (Some v) eo (inl s) rec = let w : v ≡ y = same_Some v y (sym eo ∙ ap f s ∙ e) in subst (Contains (v ∷ filter_map f zs)) w (head_in v (filter_map f zs))
    by None eo (inr d) rec = rec d
    by (Some v) eo (inr d) rec = tail_in v (filter_map f zs) y (rec d)

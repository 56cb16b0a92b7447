-- What callers use of the words of `Lists` and `Heights`.
use Rattle.std.proofs.Common.{◌≡◌, ◌≢◌, ℕ, suc, zero, ◌<◌, true, false, not, eqb, List, [], ◌∷◌, length, set, Option, None, refl, sym, ap, ◌∙◌, arith, inl, inr, ⊎_elim, ◌⊎◌}
use Rattle.std.specs.List.{filter, Contains, concat, IsDistinct, AllByRecursion}
use Rattle.std.proofs.lemmas.Bool.{cases_eq, false≢true}
use Rattle.std.proofs.lemmas.Bool.Decides.{nat_tests}
use Rattle.std.proofs.lemmas.List.{get_or-set_same, get_or-set_other, length-set, length-map}
use Rattle.cw_links.specs.Lists.{list_at, without, with_front, AreApart}
use Rattle.cw_links.specs.Rows.{has, Once}
use Rattle.cw_links.specs.Heights.{height_at}
use Rattle.cw_links.proofs.NodeRows.{less, has-less_same, has-less_other, has-less_within, has_tail, has-append, apart-append, Once-append_right}
use Rattle.cw_links.proofs.Moves.{contains_from_has, has_index}
use Rattle.cw_lemmas.proofs.Truths.{cond_true as true_either}

-- lengths

pub length-without : (ls : List (List ℕ)) (c : ℕ) → length (without ls c) ≡ length ls
length-without ls c = length-map ls _

pub length-with_front : (ls : List (List ℕ)) (l c : ℕ) → length (with_front ls l c) ≡ length ls
length-with_front ls l c = length-set ls l _

-- lists

pub list_at-without : (ls : List (List ℕ)) (c h : ℕ) → list_at (without ls c) h ≡ filter (λ other. not (eqb other c)) (list_at ls h)
list_at-without [] c h = refl
list_at-without (xs ∷ ls) c zero = refl
list_at-without (xs ∷ ls) c (suc h) = list_at-without ls c h

pub list_at-with_front_same : (ls : List (List ℕ)) (l c : ℕ) → l < length ls → list_at (with_front ls l c) l ≡ c ∷ list_at ls l
list_at-with_front_same ls l c i = get_or-set_same ls l _ [] i

pub list_at-with_front_other : (ls : List (List ℕ)) (l c h : ℕ) → h ≢ l → list_at (with_front ls l c) h ≡ list_at ls h
list_at-with_front_other ls l c h ne = get_or-set_other ls l h _ [] ne

-- members

has_from_contains : (xs : List ℕ) (y : ℕ) → Contains xs y → has xs y ≡ true
has_from_contains xs y h = ap (λ w. has xs w) (sym h.2) ∙ has_index xs h.0 y h.1

pub Contains-without : (ls : List (List ℕ)) (c h y : ℕ) → Contains (list_at (without ls c) h) y → Contains (list_at ls h) y × (y ≢ c)
Contains-without ls c h y k =
    let at : has (less (list_at ls h) c) y ≡ true = ap (λ w. has w y) (sym (list_at-without ls c h)) ∙ has_from_contains _ y k in
    (contains_from_has (list_at ls h) y (has-less_within (list_at ls h) c y at), λ e. false≢true (sym (has-less_same (list_at ls h) c) ∙ (rw e at at)))

pub Contains-without_other : (ls : List (List ℕ)) (c h y : ℕ) → y ≢ c → Contains (list_at ls h) y → Contains (list_at (without ls c) h) y
Contains-without_other ls c h y ne k =
    contains_from_has _ y (ap (λ w. has w y) (list_at-without ls c h) ∙ has-less_other (list_at ls h) c y ne ∙ has_from_contains _ y k)

pub Contains-with_front : (ls : List (List ℕ)) (l c h y : ℕ) → l < length ls → Contains (list_at (with_front ls l c) h) y → ((h ≡ l) × (y ≡ c)) ⊎ Contains (list_at ls h) y
Contains-with_front ls l c h y i k = ⊎_elim
    (λ hl.
    let at : has (c ∷ list_at ls l) y ≡ true = ap (λ w. has w y) (sym (ap (λ w. list_at (with_front ls l c) w) hl ∙ list_at-with_front_same ls l c i)) ∙ has_from_contains _ y k in
    ⊎_elim
    (λ e. inl (hl, e))
    (λ ne. inr (contains_from_has (list_at ls h) y (ap (λ w. has (list_at ls w) y) hl ∙ has_tail c (list_at ls l) y at (λ e. ne (sym e)))))
    (cases_eq y c))
    (λ hl. inr (contains_from_has (list_at ls h) y (ap (λ w. has w y) (sym (list_at-with_front_other ls l c h hl)) ∙ has_from_contains _ y k)))
    (cases_eq h l)

-- a cell stands in one list

pub absent_all : (x : ℕ) (xs : List ℕ) → AllByRecursion (λ y. eqb x y ≡ false) xs → has xs x ≡ false
absent_all x [] a = refl
absent_all x (y ∷ ys) a = grind (arith, nat_tests, a.0, absent_all x ys a.1)

pub Once-from_IsDistinct : (xs : List ℕ) → IsDistinct eqb xs → Once xs
unfolding IsDistinct
Once-from_IsDistinct [] o = tt
Once-from_IsDistinct (x ∷ xs) o = (absent_all x xs o.0, Once-from_IsDistinct xs o.1)

pub has_concat_list : (ms : List (List ℕ)) (h y : ℕ) → has (list_at ms h) y ≡ true → has (concat ms) y ≡ true
has_concat_list [] h y k = absurd (false≢true k)
has_concat_list (xs ∷ ms) zero y k = has-append xs (concat ms) y ∙ rw k refl
has_concat_list (xs ∷ ms) (suc h) y k = has-append xs (concat ms) y ∙ true_either (has xs y) (has (concat ms) y) (has_concat_list ms h y k)

pub same_list : (ms : List (List ℕ)) (h k y : ℕ) → Once (concat ms) → has (list_at ms h) y ≡ true → has (list_at ms k) y ≡ true → h ≡ k
same_list [] h k y o p q = absurd (false≢true p)
same_list (xs ∷ ms) zero zero y o p q = refl
same_list (xs ∷ ms) zero (suc k) y o p q = absurd (false≢true (sym (apart-append xs (concat ms) y o (has_concat_list ms k y q)) ∙ p))
same_list (xs ∷ ms) (suc h) zero y o p q = absurd (false≢true (sym (apart-append xs (concat ms) y o (has_concat_list ms h y p)) ∙ q))
same_list (xs ∷ ms) (suc h) (suc k) y o p q = ap (λ w. suc w) (same_list ms h k y (Once-append_right xs (concat ms) o) p q)

pub one_list : (ls : List (List ℕ)) (cells h k y : ℕ) → AreApart ls cells → Contains (list_at ls h) y → Contains (list_at ls k) y → h ≡ k
one_list ls cells h k y a p q = same_list ls h k y (Once-from_IsDistinct (concat ls) a.once) (has_from_contains _ y p) (has_from_contains _ y q)

-- heights

pub height_at-set_same : (hs : List (Option ℕ)) (c : ℕ) (o : Option ℕ) → c < length hs → height_at (set hs c o) c ≡ o
height_at-set_same hs c o i = get_or-set_same hs c o None i

pub height_at-set_other : (hs : List (Option ℕ)) (c y : ℕ) (o : Option ℕ) → y ≢ c → height_at (set hs c o) y ≡ height_at hs y
height_at-set_other hs c y o ne = get_or-set_other hs c y o None ne

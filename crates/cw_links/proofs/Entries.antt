-- How many entries stand in the lists: one fewer where one is taken out, one more where one is put in front.
use Rattle.std.proofs.Common.{◌≡◌, ℕ, suc, zero, ◌+◌, ◌<◌, true, false, List, [], ◌∷◌, ◌++◌, length, replicate, refl, sym, ap, ◌∙◌, arith, inl, inr}
use Rattle.std.specs.Prelude.{Some, slice_get}
use Rattle.std.specs.List.{concat}
use Rattle.std.proofs.lemmas.Bool.{cases_eq, eq-eqb, ne_eqb, false≢true}
use Rattle.std.proofs.lemmas.List.{length-append}
use Rattle.cw_links.specs.Lists.{list_at, without, with_front, AreApart}
use Rattle.cw_links.specs.Rows.{has, Once}
use Rattle.cw_links.proofs.CallerLemmas.{length-without, has_concat_list, Once-from_IsDistinct}
use Rattle.cw_links.proofs.NodeRows.{less, less_absent, has-first, has_tail}

filter-append : (c : ℕ) (xs ys : List ℕ) → less (xs ++ ys) c ≡ less xs c ++ less ys c
filter-append c [] ys = refl
filter-append c (x ∷ xs) ys = elim (cases_eq x c) [
  | inl e ↦ rw (eq-eqb x c e) (filter-append c xs ys)
  | inr ne ↦ rw (ne_eqb x c ne) (ap (λ (zs : List ℕ). x ∷ zs) (filter-append c xs ys))
]

concat-without : (ls : List (List ℕ)) (c : ℕ) → concat (without ls c) ≡ less (concat ls) c
concat-without [] c = refl
concat-without (xs ∷ ls) c = ap (λ (zs : List ℕ). less xs c ++ zs) (concat-without ls c) ∙ sym (filter-append c xs (concat ls))

-- a node that stands once is one of them
length-less : (xs : List ℕ) (c : ℕ) → Once xs → has xs c ≡ true → length (less xs c) + 1 ≡ length xs
length-less [] c once there = absurd (false≢true there)
length-less (x ∷ xs) c once there = elim (cases_eq x c) [
  | inl e ↦ rw (eq-eqb x c e)
      (let absent : has xs c ≡ false = ap (λ (y : ℕ). has xs y) (sym e) ∙ once.0 in
      let same : length (less xs c) ≡ length xs = ap (λ (ys : List ℕ). length ys) (less_absent xs c absent) in
      omega (arith, same))
  | inr ne ↦ rw (ne_eqb x c ne) (let rest = length-less xs c once.1 (has_tail x xs c there ne) in omega (arith, rest))
]

-- an entry in front of one of the lists is one more
entries-with_front : (ls : List (List ℕ)) (l c : ℕ) → l < length ls → length (concat (with_front ls l c)) ≡ length (concat ls) + 1
entries-with_front [] l c within = absurd (omega (arith, within))
entries-with_front (xs ∷ ls) zero c within = omega (arith, length-append xs (concat ls), length-append (c ∷ xs) (concat ls))
entries-with_front (xs ∷ ls) (suc l) c within =
    let rest = entries-with_front ls l c (omega (arith, within)) in
    omega (arith, rest, length-append xs (concat ls), length-append xs (concat (with_front ls l c)))

-- empty lists more have none
concat-empties : (ls : List (List ℕ)) (k : ℕ) → concat (ls ++ replicate k []) ≡ concat ls
concat-empties [] zero = refl
concat-empties [] (suc k) = concat-empties [] k
concat-empties (xs ∷ ls) k = ap (λ (zs : List ℕ). xs ++ zs) (concat-empties ls k)

-- empty lists more leave how many entries there are
pub entries-empties : (ls : List (List ℕ)) (k : ℕ) → length (concat (ls ++ replicate k [])) ≡ length (concat ls)
entries-empties ls k = ap (λ (zs : List ℕ). length zs) (concat-empties ls k)

-- an entry that stands first in a list: the others are one fewer
pub others_of_first : (ls : List (List ℕ)) (cells l c : ℕ) → AreApart ls cells → slice_get (list_at ls l) 0 ≡ Some c → length (concat (without ls c)) + 1 ≡ length (concat ls)
others_of_first ls cells l c apart first =
    let there : has (concat ls) c ≡ true = has_concat_list ls l c (has-first (list_at ls l) c first) in
    let same : length (concat (without ls c)) ≡ length (less (concat ls) c) = ap (λ (zs : List ℕ). length zs) (concat-without ls c) in
    omega (arith, same, length-less (concat ls) c (Once-from_IsDistinct (concat ls) apart.once) there)

without_new : (ls : List (List ℕ)) (c : ℕ) → 0 < length ls → without (with_front ls 0 c) c ≡ without ls c
without_new [] c some = absurd (omega (arith, some))
without_new (xs ∷ ls) c some = rw (eq-eqb c c refl) refl

-- a new entry in front of the first list: the others are those that were there
pub others_of_new : (ls : List (List ℕ)) (c : ℕ) → 0 < length ls → without ls c ≡ ls → length (concat (without (with_front ls 0 c) c)) ≡ length (concat ls)
others_of_new ls c some out = ap (λ (ms : List (List ℕ)). length (concat ms)) (without_new ls c some ∙ out)

-- an entry is moved to a list: where the others are one fewer than all, none is lost
pub entries_of_moved : (ls : List (List ℕ)) (k l c n : ℕ) → l < length (ls ++ replicate k []) → length (concat (without ls c)) + 1 ≡ n
    → length (concat (with_front (without (ls ++ replicate k []) c) l c)) ≡ n
entries_of_moved ls k l c n within others =
    let all = ls ++ replicate k [] in
    let same : length (concat (without all c)) ≡ length (concat (without ls c))
    = ap (λ (zs : List ℕ). length zs) (concat-without all c ∙ ap (λ (zs : List ℕ). less zs c) (concat-empties ls k) ∙ sym (concat-without ls c)) in
    omega (arith, others, same, entries-with_front (without all c) l c (omega (arith, within, length-without all c)))

-- .. where no list is added
pub entries_of_spared : (ls : List (List ℕ)) (c n : ℕ) → 0 < length ls → length (concat (without ls c)) + 1 ≡ n → length (concat (with_front (without ls c) 0 c)) ≡ n
entries_of_spared ls c n some others = omega (arith, others, entries-with_front (without ls c) 0 c (omega (arith, some, length-without ls c)))

-- How many rows a table has, against lists of row keys.
use Rattle.std.proofs.Common.{◌≡◌, ℕ, zero, suc, ◌+◌, ◌≤◌, List, [], ◌∷◌, ◌++◌, map, length, Bool, true, false, ◌&&◌, Option, Some, None, refl, sym, ap, ◌∙◌}
use Rattle.std.proofs.Common.{subst}
use Rattle.std.proofs.Common.{arith, inl, inr}
use Rattle.std.specs.Prelude.{slice_get, option_map}
use Rattle.std.specs.List.{sum_by, list_any, IsDistinct, AllByRecursion}
use Rattle.std.specs.Set.{is_member}
use Rattle.std.specs.Cmp.{IsEquivalence, both_ways}
use Rattle.std.proofs.lemmas.Option.{none-some, same_Some, slice_get-map}
use Rattle.std.proofs.lemmas.Bool.{and_parts, or_left, or_right, cases_Bool}
use Rattle.std.proofs.lemmas.List.{length-map}
use Rattle.std.proofs.lemmas.List.Concat.{length-flat_map}
use Rattle.std.proofs.lemmas.List.Folds.{list_any-append}
use Rattle.std.proofs.lemmas.Map.Keys.{IsDistinct-head, IsDistinct-tail, IsDistinct-cons, any_passes_from_place}
use Rattle.std.proofs.lemmas.Map.Made.{length-le_from_is_member}
use Rattle.cw_lemmas.proofs.Lists.{any_get, all_append}
use Rattle.cw_game.specs.Games.{Game}
use Rattle.cw_game.specs.Conditions.{first_failing}
use Rattle.cw_game.proofs.Goods.{taken, none_first}
use Rattle.std.specs.List.{enumerate_from}
use Rattle.cw_audit_table.specs.Tables.{PlainRow, PlainGroup, Audit}
use Rattle.cw_audit_table.specs.Conditions.{fault_at, is_after, key_of, pair_of, is_group, is_pair as stands_well, pairs, ranges}
use Rattle.cw_audit_table.proofs.Closing.{group_found, row_found}
use Rattle.cw_audit_search.specs.Ordered.{AscendAfter, AreInOrder}
use Rattle.cw_audit_search.specs.Counted.{row_count, RowKey, is_row_key, row_keys_of, HasRow}
use Rattle.cw_audit_search.proofs.Setting.{same_row, row_itself}
use Rattle.cw_audit_search.proofs.Ascending.{After, not_after, all_after, group_there, row_there}

pub row_key_same : (P : RowKey → Type 0) (k j : RowKey) → is_row_key k j ≡ true → P k → P j
row_key_same P k j e h = same_row (λ f q p x. P (f, q, p, x)) k.0 k.1 k.2 k.3 j.0 j.1 j.2 j.3 e h

row_key_itself : (k : RowKey) → is_row_key k k ≡ true
row_key_itself k = row_itself k.0 k.1 k.2 k.3

row_key_back : (k j : RowKey) → is_row_key k j ≡ true → is_row_key j k ≡ true
row_key_back k j e = row_key_same (λ i. is_row_key i k ≡ true) k j e (row_key_itself k)

pub row_keys_laws : IsEquivalence is_row_key
row_keys_laws = record {
  refl = row_key_itself;
  symm = λ k j. both_ways (is_row_key k j) (is_row_key j k) (row_key_back k j) (row_key_back j k);
  congr = λ k j i e. row_key_same (λ y. is_row_key k i ≡ is_row_key y i) k j e refl;
}

pub apart : (k j : RowKey) → (is_row_key k j ≡ true → ⊥) → is_row_key k j ≡ false
apart k j f = elim (cases_Bool (is_row_key k j)) [ inl h ↦ absurd (f h) | inr h ↦ h ]

abbrev pub key_of_row : PlainGroup → PlainRow → RowKey
key_of_row grp r = (grp.function, grp.entered, r.pos, r.state)

count_same : (groups : List PlainGroup) → length (row_keys_of groups) ≡ sum_by (λ grp. length grp.rows) groups
count_same groups =
    length-flat_map (λ (grp : PlainGroup). map (key_of_row grp) grp.rows) groups
    ∙ (λ i. sum_by (λ (grp : PlainGroup). length-map grp.rows (key_of_row grp) i) groups)

-- a row's row key is among the row keys
pub row_key_listed : (test : RowKey → Bool) (groups : List PlainGroup) (i n : ℕ) (grp : PlainGroup) (r : PlainRow) → slice_get groups i ≡ Some grp → slice_get grp.rows n ≡ Some r
    → test (key_of_row grp r) ≡ true → list_any test (row_keys_of groups) ≡ true
row_key_listed test [] i n grp r e er h = absurd (none-some grp e)
row_key_listed test (y ∷ groups) zero n grp r e er h =
    let s = same_Some y grp e in
    let here = any_passes_from_place test (map (key_of_row grp) grp.rows) n (key_of_row grp r) (slice_get-map (key_of_row grp) grp.rows n ∙ ap (option_map (key_of_row grp)) er) h in
    list_any-append test (map (key_of_row y) y.rows) (row_keys_of groups)
    ∙ or_left (list_any test (map (key_of_row y) y.rows)) (list_any test (row_keys_of groups)) (subst (λ (z : PlainGroup). list_any test (map (key_of_row z) z.rows) ≡ true) (sym s) here)
row_key_listed test (y ∷ groups) (suc i) n grp r e er h =
    list_any-append test (map (key_of_row y) y.rows) (row_keys_of groups)
    ∙ or_right (list_any test (map (key_of_row y) y.rows)) (list_any test (row_keys_of groups)) (row_key_listed test groups i n grp r e er h)

-- so is that of a row that is looked up
pub looked_row_key : (test : RowKey → Bool) (t : Audit) (k : RowKey) → HasRow t k.0 k.1 k.2 k.3 → test k ≡ true → list_any test (row_keys_of t.groups) ≡ true
looked_row_key test t k h e =
    let z = group_found t.groups k.0 k.1 h.0 h.1 in
    let y = row_found h.0.rows k.2 k.3 h.2.0 h.2.1 in
    let same : key_of_row h.0 y.0 ≡ k = λ i. (z.0 i, z.1 i, y.1 i, y.2 i) in
    row_key_listed test t.groups z.2.0 y.4.0 h.0 y.0 z.2.1 y.4.1 (ap test same ∙ e)

module _ {X : Type 0} (row_key : X → RowKey) where
  apart_mapped : (x : X) (xs : List X) → AllByRecursion (λ y. is_row_key (row_key x) (row_key y) ≡ false) xs → AllByRecursion (λ k. is_row_key (row_key x) k ≡ false) (map row_key xs)
  apart_mapped x [] h = tt
  apart_mapped x (y ∷ xs) h = (h.0, apart_mapped x xs h.1)

  distinct_mapped : (xs : List X) → IsDistinct (λ a b. is_row_key (row_key a) (row_key b)) xs → IsDistinct is_row_key (map row_key xs)
  unfolding IsDistinct
  distinct_mapped [] h = tt
  distinct_mapped (x ∷ xs) h =
      IsDistinct-cons is_row_key (row_key x) (map row_key xs) (apart_mapped x xs (IsDistinct-head (λ a b. is_row_key (row_key a) (row_key b)) x xs h))
      (distinct_mapped xs (IsDistinct-tail (λ a b. is_row_key (row_key a) (row_key b)) x xs h))

  -- Row keys of a table, none twice, are at most as many as its rows.
  pub rows_at_least : (t : Audit) (xs : List X) → IsDistinct (λ a b. is_row_key (row_key a) (row_key b)) xs
      → ((i : ℕ) (x : X) → slice_get xs i ≡ Some x → HasRow t (row_key x).0 (row_key x).1 (row_key x).2 (row_key x).3) → length xs ≤ row_count t
  rows_at_least t xs distinct there =
      let few = length-le_from_is_member row_keys_laws (map row_key xs) (row_keys_of t.groups) (distinct_mapped xs distinct) member in
      omega (arith, few, length-map xs row_key, count_same t.groups)
    where
      member : (q : RowKey) → is_member is_row_key (map row_key xs) q ≡ true → is_member is_row_key (row_keys_of t.groups) q ≡ true
      member q h =
          let a = any_get (is_row_key q) (map row_key xs) h in
          from a.0 a.1 a.3 (slice_get xs a.0) refl (sym (slice_get-map row_key xs a.0) ∙ a.2)
        where
          from : (i : ℕ) (k : RowKey) → is_row_key q k ≡ true → (o : Option X) → slice_get xs i ≡ o → option_map row_key (slice_get xs i) ≡ Some k
              → is_member is_row_key (row_keys_of t.groups) q ≡ true
          from i k e None eo ek = absurd (none-some k (sym (ap (option_map row_key) eo) ∙ ek))
          from i k e (Some x) eo ek =
              let s : row_key x ≡ k = same_Some (row_key x) k (sym (ap (option_map row_key) eo) ∙ ek) in
              looked_row_key (is_row_key q) t (row_key x) (there i x eo) (ap (is_row_key q) s ∙ e)

-- No row key of a table in order is there twice.
distinct_append : (xs ys : List RowKey) → IsDistinct is_row_key xs → IsDistinct is_row_key ys
    → ((k : RowKey) → list_any (is_row_key k) xs ≡ true → AllByRecursion (λ j. is_row_key k j ≡ false) ys)
    → IsDistinct is_row_key (xs ++ ys)
distinct_append [] ys h k f = k
distinct_append (x ∷ xs) ys h k f =
    IsDistinct-cons is_row_key x (xs ++ ys) (all_append (λ j. is_row_key x j ≡ false) xs ys (IsDistinct-head is_row_key x xs h) (f x (or_left (is_row_key x x) (list_any (is_row_key x) xs) (row_key_itself x))))
    (distinct_append xs ys (IsDistinct-tail is_row_key x xs h) k (λ j e. f j (or_right (is_row_key j x) (list_any (is_row_key j) xs) e)))

all_rows : (P : RowKey → Type 0) (grp : PlainGroup) (rows : List PlainRow) → ((n : ℕ) (r : PlainRow) → slice_get rows n ≡ Some r → P (key_of_row grp r))
    → AllByRecursion P (map (key_of_row grp) rows)
all_rows P grp [] h = tt
all_rows P grp (r ∷ rows) h = (h 0 r refl, all_rows P grp rows (λ n x e. h (suc n) x e))

-- each row key in the list has a property that each row's row key has
pub all_row_keys : (P : RowKey → Type 0) (groups : List PlainGroup)
    → ((i n : ℕ) (grp : PlainGroup) (r : PlainRow) → slice_get groups i ≡ Some grp → slice_get grp.rows n ≡ Some r → P (key_of_row grp r))
    → AllByRecursion P (row_keys_of groups)
all_row_keys P [] h = tt
all_row_keys P (grp ∷ groups) h =
    all_append P (map (key_of_row grp) grp.rows) (row_keys_of groups) (all_rows P grp grp.rows (λ n r e. h 0 n grp r refl e)) (all_row_keys P groups (λ i n x r e er. h (suc i) n x r e er))

pub all_at : (P : RowKey → Type 0) (xs : List RowKey) → AllByRecursion P xs → (i : ℕ) (x : RowKey) → slice_get xs i ≡ Some x → P x
all_at P [] h i x e = absurd (none-some x e)
all_at P (y ∷ xs) h zero x e = subst P (same_Some y x e) h.0
all_at P (y ∷ xs) h (suc i) x e = all_at P xs h.1 i x e

-- rows and groups that ascend have row keys that differ
rows_differ : (grp : PlainGroup) (a b : PlainRow) → After (pair_of a) (pair_of b) → is_row_key (key_of_row grp a) (key_of_row grp b) ≡ false
rows_differ grp a b h = apart (key_of_row grp a) (key_of_row grp b) (λ e.
    let same = row_key_same (λ k. (k.2 ≡ a.pos) × (k.3 ≡ a.state)) (key_of_row grp a) (key_of_row grp b) e (refl, refl) in
    not_after (pair_of a) (pair_of b) h same.0 same.1)

distinct_rows : (grp : PlainGroup) (last : Option (ℕ × ℕ)) (rows : List PlainRow) → AscendAfter last (map pair_of rows) → IsDistinct is_row_key (map (key_of_row grp) rows)
unfolding IsDistinct
distinct_rows grp last [] h = tt
distinct_rows grp last (r ∷ rows) h =
    IsDistinct-cons is_row_key (key_of_row grp r) (map (key_of_row grp) rows)
    (all_rows (λ k. is_row_key (key_of_row grp r) k ≡ false) grp rows (λ n x e. rows_differ grp r x (all_after pair_of (pair_of r) rows h.1 n x e)))
    (distinct_rows grp (Some (pair_of r)) rows h.1)

distinct_row_keys : (last : Option (ℕ × ℕ)) (groups : List PlainGroup) → AscendAfter last (map key_of groups)
    → ((i : ℕ) (grp : PlainGroup) → slice_get groups i ≡ Some grp → AscendAfter None (map pair_of grp.rows)) → IsDistinct is_row_key (row_keys_of groups)
unfolding IsDistinct
distinct_row_keys last [] h k = tt
distinct_row_keys last (grp ∷ groups) h k =
    distinct_append (map (key_of_row grp) grp.rows) (row_keys_of groups) (distinct_rows grp None grp.rows (k 0 grp refl))
    (distinct_row_keys (Some (key_of grp)) groups h.1 (λ i x e. k (suc i) x e)) other
  where
    other : (q : RowKey) → list_any (is_row_key q) (map (key_of_row grp) grp.rows) ≡ true → AllByRecursion (λ j. is_row_key q j ≡ false) (row_keys_of groups)
    other q e =
        let a = any_get (is_row_key q) (map (key_of_row grp) grp.rows) e in
        let own = all_at (λ k. (k.0 ≡ grp.function) × (k.1 ≡ grp.entered)) (map (key_of_row grp) grp.rows)
        (all_rows (λ k. (k.0 ≡ grp.function) × (k.1 ≡ grp.entered)) grp grp.rows (λ n r en. (refl, refl))) a.0 a.1 a.2 in
        let same = row_key_same (λ k. (k.0 ≡ grp.function) × (k.1 ≡ grp.entered)) a.1 q (row_key_back q a.1 a.3) own in
        all_row_keys (λ j. is_row_key q j ≡ false) groups (λ i n x r ex er. apart q (key_of_row x r) (λ eq.
        let there = row_key_same (λ k. (k.0 ≡ grp.function) × (k.1 ≡ grp.entered)) q (key_of_row x r) eq same in
        not_after (key_of grp) (key_of x) (all_after key_of (key_of grp) groups h.1 i x ex) there.0 there.1))

-- A table in order, all of whose rows stand in a list, has at most as many.
pub rows_at_most : {X : Type 0} (row_key : X → RowKey) (t : Audit) (xs : List X) → AreInOrder t.groups
    → ((k : RowKey) → HasRow t k.0 k.1 k.2 k.3 → (i : ℕ) × (x : X) × (slice_get xs i ≡ Some x) × (row_key x ≡ k)) → row_count t ≤ length xs
rows_at_most row_key t xs order there =
    let few = length-le_from_is_member row_keys_laws (row_keys_of t.groups) (map row_key xs) (distinct_row_keys None t.groups order.groups_ascend order.rows_ascend) member in
    omega (arith, few, length-map xs row_key, count_same t.groups)
  where
    looked : AllByRecursion (λ k. HasRow t k.0 k.1 k.2 k.3) (row_keys_of t.groups)
    looked = all_row_keys (λ k. HasRow t k.0 k.1 k.2 k.3) t.groups (λ i n grp r e er.
        (grp, group_there t.groups i grp grp.function grp.entered order.groups_ascend e refl refl, (r.inside, row_there grp.rows n r r.pos r.state (order.rows_ascend i grp e) er refl refl)))

    member : (q : RowKey) → is_member is_row_key (row_keys_of t.groups) q ≡ true → is_member is_row_key (map row_key xs) q ≡ true
    member q h =
        let a = any_get (is_row_key q) (row_keys_of t.groups) h in
        let w = there a.1 (all_at (λ k. HasRow t k.0 k.1 k.2 k.3) (row_keys_of t.groups) looked a.0 a.1 a.2) in
        any_passes_from_place (is_row_key q) (map row_key xs) w.0 (row_key w.1) (slice_get-map row_key xs w.0 ∙ ap (option_map row_key) w.2) (ap (is_row_key q) w.3 ∙ a.3)

-- a good table is in order
module _ (g : Game) (functions : ℕ) where
  row_keys_ascend : (f i m : ℕ) (last : Option (ℕ × ℕ)) (rows : List PlainRow) → first_failing (pairs g f i last (enumerate_from m rows)) ≡ None → AscendAfter last (map pair_of rows)
  row_keys_ascend f i m last [] h = tt
  row_keys_ascend f i m last (x ∷ rows) h =
      let k = taken (stands_well g f x && is_after last (pair_of x)) _ (fault_at i m 1) h in
      ((and_parts (stands_well g f x) (is_after last (pair_of x)) k.0).1, row_keys_ascend f i (m + 1) (Some (pair_of x)) rows k.1)

  pub ranges_ascend : (m : ℕ) (last : Option (ℕ × ℕ)) (groups : List PlainGroup) → first_failing (ranges g functions last (enumerate_from m groups)) ≡ None
      → AscendAfter last (map key_of groups) × ((i : ℕ) (grp : PlainGroup) → slice_get groups i ≡ Some grp → AscendAfter None (map pair_of grp.rows))
  ranges_ascend m last [] h = (tt, λ i grp e. absurd (none-some grp e))
  ranges_ascend m last (x ∷ groups) h =
      let k = taken (is_group g functions x && is_after last (key_of x)) _ (fault_at m 0 1) h in
      let z = none_first (pairs g x.function m None (enumerate_from 0 x.rows)) (ranges g functions (Some (key_of x)) (enumerate_from (m + 1) groups)) k.1 in
      let rest = ranges_ascend (m + 1) (Some (key_of x)) groups z.1 in (
        ((and_parts (is_group g functions x) (is_after last (key_of x)) k.0).1, rest.0),
        by (row_keys_ascend x.function m 0 None x.rows z.0) rest.1,
      )
    where
      by : AscendAfter None (map pair_of x.rows) → ((i : ℕ) (grp : PlainGroup) → slice_get groups i ≡ Some grp → AscendAfter None (map pair_of grp.rows))
          → (i : ℕ) (grp : PlainGroup) → slice_get (x ∷ groups) i ≡ Some grp → AscendAfter None (map pair_of grp.rows)
      by here k zero grp e = subst (λ (y : PlainGroup). AscendAfter None (map pair_of y.rows)) (same_Some x grp e) here
      by here k (suc i) grp e = k i grp e

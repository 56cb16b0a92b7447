-- Row keys in order, in groups, list the rows that were found.
use Rattle.std.proofs.Common.{◌≡◌, ℕ, zero, suc, ◌+◌, List, [], ◌∷◌, ◌++◌, map, Option, Some, None, refl, sym, ap, ◌∙◌, subst, arith, inl, inr, append-nil, append_assoc}
use Rattle.std.specs.Prelude.{slice_get, option_map}
use Rattle.std.specs.List.{AllByRecursion}
use Rattle.std.proofs.lemmas.Option.{none-some, same_Some, slice_get-map}
use Rattle.cw_lemmas.proofs.Lists.{all_push, get_front}
use Rattle.cw_audit_table.specs.Tables.{PlainRow, PlainGroup}
use Rattle.cw_audit_table.specs.Conditions.{is_before, key_of, pair_of}
use Rattle.cw_audit_search.specs.Searches.{Found}
use Rattle.cw_audit_search.specs.Settled.{IsRowBelow}
use Rattle.cw_audit_search.specs.Counted.{RowKey, row_keys_of}
use Rattle.cw_audit_search.specs.Ordered.{AscendAfter}
use Rattle.cw_audit_search.specs.Listing.{IsListed, AreListed}
use Rattle.cw_audit_search.specs.Grouped.{IsAfter, IsRowKeyAfter, Ascend, IsRowRight, IsRight, EndsBefore, AreApart, AreGrouped, AreBelow}
use Rattle.cw_audit_search.proofs.Ascending.{says_after}
use Rattle.cw_audit_search.proofs.Counting.{key_of_row, all_row_keys, all_at}

all_item : {X : Type 0} (P : X → Type 0) (xs : List X) → AllByRecursion P xs → (i : ℕ) (x : X) → slice_get xs i ≡ Some x → P x
all_item P [] h i x e = absurd (none-some x e)
all_item P (y ∷ xs) h zero x e = subst P (same_Some y x e) h.0
all_item P (y ∷ xs) h (suc i) x e = all_item P xs h.1 i x e

all_left : (P : RowKey → Type 0) (xs ys : List RowKey) → AllByRecursion P (xs ++ ys) → AllByRecursion P xs
all_left P [] ys h = tt
all_left P (x ∷ xs) ys h = (h.0, all_left P xs ys h.1)

ascend_left : (xs ys : List RowKey) → Ascend (xs ++ ys) → Ascend xs
ascend_left [] ys h = tt
ascend_left (x ∷ xs) ys h = (all_left (IsRowKeyAfter x) xs ys h.0, ascend_left xs ys h.1)

ascend_right : (xs ys : List RowKey) → Ascend (xs ++ ys) → Ascend ys
ascend_right [] ys h = h
ascend_right (x ∷ xs) ys h = ascend_right xs ys h.1

behind : (xs ys : List RowKey) (m : ℕ) (k : RowKey) → slice_get ys m ≡ Some k → (j : ℕ) × (slice_get (xs ++ ys) j ≡ Some k)
behind [] ys m k e = (m, e)
behind (x ∷ xs) ys m k e = let z = behind xs ys m k e in (suc z.0, z.1)

row_keys_more : (groups : List PlainGroup) (grp : PlainGroup) (rest : List RowKey) → row_keys_of (groups ++ grp ∷ []) ++ rest ≡ row_keys_of groups ++ (map (key_of_row grp) grp.rows ++ rest)
row_keys_more [] grp rest = ap (λ r. r ++ rest) (append-nil (map (key_of_row grp) grp.rows))
row_keys_more (x ∷ groups) grp rest =
    append_assoc (map (key_of_row x) x.rows) (row_keys_of (groups ++ grp ∷ [])) rest ∙ ap (λ r. map (key_of_row x) x.rows ++ r) (row_keys_more groups grp rest)
    ∙ sym (append_assoc (map (key_of_row x) x.rows) (row_keys_of groups) (map (key_of_row grp) grp.rows ++ rest))

-- of one group
pair_after : (grp : PlainGroup) (a b : PlainRow) → IsRowKeyAfter (key_of_row grp a) (key_of_row grp b) → IsAfter (pair_of a) (pair_of b)
pair_after grp a b h = elim h [
  | inl k ↦ absurd (elim k [ inl l ↦ omega (arith, l) | inr l ↦ let m = l.1 in omega (arith, m) ])
  | inr k ↦ k.1
]

-- the rows of a group ascend
rows_from : (grp : PlainGroup) (a : PlainRow) (rows : List PlainRow) → Ascend (key_of_row grp a ∷ map (key_of_row grp) rows) → AscendAfter (Some (pair_of a)) (map pair_of rows)
rows_from grp a [] h = tt
rows_from grp a (b ∷ rows) h = (says_after (pair_of a) (pair_of b) (pair_after grp a b h.0.0), rows_from grp b rows h.1)

rows_ascend : (grp : PlainGroup) (rows : List PlainRow) → Ascend (map (key_of_row grp) rows) → AscendAfter None (map pair_of rows)
rows_ascend grp [] h = tt
rows_ascend grp (a ∷ rows) h = (refl, rows_from grp a rows h)

key_after : (x y : PlainGroup) (a b : PlainRow) → IsRowKeyAfter (key_of_row x a) (key_of_row y b) → ((y.function ≡ x.function) → (y.entered ≡ x.entered) → ⊥)
    → IsAfter (key_of x) (key_of y)
key_after x y a b h other = elim h [ inl k ↦ k | inr k ↦ absurd (other (sym k.0.0) (sym k.0.1)) ]

module _ (s : Found) where
  abbrev Right : List PlainGroup → Type 0
  Right groups = AllByRecursion (IsRight s) groups

  first_of : (k j : RowKey) (xs ys : List RowKey) → AllByRecursion (IsRowKeyAfter k) (xs ++ (j ∷ ys)) → IsRowKeyAfter k j
  first_of k j [] ys h = h.0
  first_of k j (x ∷ xs) ys h = first_of k j xs ys h.1

  -- the groups behind one with this row ascend
  groups_from : (x : PlainGroup) (a : PlainRow) (xs : List RowKey) (groups : List PlainGroup) → Right groups → Ascend (key_of_row x a ∷ (xs ++ row_keys_of groups))
      → EndsBefore x (row_keys_of groups ++ []) → AreApart groups [] → AscendAfter (Some (key_of x)) (map key_of groups)
  groups_from x a xs [] right h ends apart = tt
  groups_from x a xs (y ∷ groups) right h ends apart =
      by y.rows right.0.some h ends (λ b ys k. groups_from y b ys groups right.1 k apart.0 apart.1)
    where
      by : (rows : List PlainRow) → (r : PlainRow) × (slice_get rows 0 ≡ Some r) → Ascend (key_of_row x a ∷ (xs ++ (map (key_of_row y) rows ++ row_keys_of groups)))
          → EndsBefore x ((map (key_of_row y) rows ++ row_keys_of groups) ++ [])
          → ((b : PlainRow) (ys : List RowKey) → Ascend (key_of_row y b ∷ (ys ++ row_keys_of groups)) → AscendAfter (Some (key_of y)) (map key_of groups))
          → AscendAfter (Some (key_of x)) (map key_of (y ∷ groups))
      by [] some h ends rest = absurd (none-some some.0 some.1)
      by (b ∷ rows) some h ends rest = (
        says_after (key_of x) (key_of y) (key_after x y a b (first_of (key_of_row x a) (key_of_row y b) xs (map (key_of_row y) rows ++ row_keys_of groups) h.0) ends),
        rest b (map (key_of_row y) rows) (ascend_right xs (key_of_row y b ∷ (map (key_of_row y) rows ++ row_keys_of groups)) h.1),
      )

  groups_ascend : (groups : List PlainGroup) → Right groups → Ascend (row_keys_of groups) → AreApart groups [] → AscendAfter None (map key_of groups)
  groups_ascend [] right h apart = tt
  groups_ascend (x ∷ groups) right h apart = (refl, by x.rows right.0.some h)
    where
      by : (rows : List PlainRow) → (r : PlainRow) × (slice_get rows 0 ≡ Some r) → Ascend (map (key_of_row x) rows ++ row_keys_of groups) → AscendAfter (Some (key_of x)) (map key_of groups)
      by [] some h = absurd (none-some some.0 some.1)
      by (a ∷ rows) some h = groups_from x a (map (key_of_row x) rows) groups right.1 h apart.0 apart.1

  each_ascend : (groups : List PlainGroup) → Ascend (row_keys_of groups) → (i : ℕ) (grp : PlainGroup) → slice_get groups i ≡ Some grp → AscendAfter None (map pair_of grp.rows)
  each_ascend [] h i grp e = absurd (none-some grp e)
  each_ascend (x ∷ groups) h zero grp e =
      subst (λ (y : PlainGroup). AscendAfter None (map pair_of y.rows)) (same_Some x grp e) (rows_ascend x x.rows (ascend_left (map (key_of_row x) x.rows) (row_keys_of groups) h))
  each_ascend (x ∷ groups) h (suc i) grp e = each_ascend groups (ascend_right (map (key_of_row x) x.rows) (row_keys_of groups) h) i grp e

  -- where a row key stands among the groups
  record IsAmong (groups : List PlainGroup) (k : RowKey) : Type 0 where
    pub index : ℕ
    pub number : ℕ
    pub group : PlainGroup
    pub row : PlainRow
    pub there : slice_get groups index ≡ Some group
    pub stands : slice_get group.rows number ≡ Some row
    pub same : key_of_row group row ≡ k

  among : (groups : List PlainGroup) (m : ℕ) (k : RowKey) → slice_get (row_keys_of groups) m ≡ Some k → IsAmong groups k
  among groups m k e = all_at (IsAmong groups) (row_keys_of groups)
      (all_row_keys (IsAmong groups) groups (λ i n grp r ei er. record { index = i; number = n; group = grp; row = r; there = ei; stands = er; same = refl })) m k e

  -- a row's row key stands among the row keys
  at_row_keys : (groups : List PlainGroup) (i n : ℕ) (grp : PlainGroup) (r : PlainRow) → slice_get groups i ≡ Some grp → slice_get grp.rows n ≡ Some r
      → (m : ℕ) × (slice_get (row_keys_of groups) m ≡ Some (key_of_row grp r))
  at_row_keys [] i n grp r e er = absurd (none-some grp e)
  at_row_keys (x ∷ groups) zero n grp r e er =
      subst (λ (y : PlainGroup). (m : ℕ) × (slice_get (map (key_of_row y) y.rows ++ row_keys_of groups) m ≡ Some (key_of_row grp r))) (sym (same_Some x grp e))
      (n, get_front (map (key_of_row grp) grp.rows) (row_keys_of groups) n (key_of_row grp r) (slice_get-map (key_of_row grp) grp.rows n ∙ ap (option_map (key_of_row grp)) er))
  at_row_keys (x ∷ groups) (suc i) n grp r e er =
      let z = at_row_keys groups i n grp r e er in behind (map (key_of_row x) x.rows) (row_keys_of groups) z.0 (key_of_row grp r) z.1

  module _ (D : Option ℕ) (row_keys : List RowKey) (groups : List PlainGroup) (ascend : Ascend row_keys) (below : AreBelow s D row_keys) (grouped : AreGrouped s row_keys [] groups) where
    all_there : row_keys ≡ row_keys_of groups
    all_there = grouped.whole ∙ append-nil (row_keys_of groups)

    right_at : (i : ℕ) (grp : PlainGroup) → slice_get groups i ≡ Some grp → IsRight s grp
    right_at i grp e = all_item (IsRight s) groups grouped.right i grp e

    row_below : (i n : ℕ) (grp : PlainGroup) (r : PlainRow) → slice_get groups i ≡ Some grp → slice_get grp.rows n ≡ Some r
        → IsRowBelow s D grp.function grp.entered grp.reach r.pos r.state r.inside
    row_below i n grp r e er =
        let at = at_row_keys groups i n grp r e er in
        let f = below.found at.0 (key_of_row grp r) (ap (λ ks. slice_get ks at.0) all_there ∙ at.1) in
        let right = right_at i grp e in
        let number = all_item (IsRowRight s grp) grp.rows right.rows n r er in
        let same_reach = same_Some f.0 grp.reach (sym f.2.0 ∙ right.reach) in
        let same_number = same_Some f.1 r.inside (sym f.2.1 ∙ number) in
        (right.reach, number, ap (λ n. is_before D n) (sym (λ i. same_reach i + same_number i)) ∙ f.2.2)

    row_listed : (f q r p x a : ℕ) → IsRowBelow s D f q r p x a → IsListed groups f q r p x a
    row_listed f q r p x a w =
        let m = below.whole f q r p x a w in
        let z = among groups m.0 (f, q, p, x) (ap (λ ks. slice_get ks m.0) (sym all_there) ∙ m.1) in
        let right = right_at z.index z.group z.there in
        let number = all_item (IsRowRight s z.group) z.group.rows right.rows z.number z.row z.stands in
        record {
          index = z.index;
          group = z.group;
          there = z.there;
          function = ap (λ (k : RowKey). k.0) z.same;
          entered = ap (λ (k : RowKey). k.1) z.same;
          reach = same_Some z.group.reach r (sym right.reach ∙ ap (λ (k : RowKey). s.reach k.0 k.1) z.same ∙ w.0);
          row_index = z.number;
          row = z.row;
          stands = z.stands;
          pos = ap (λ (k : RowKey). k.2) z.same;
          state = ap (λ (k : RowKey). k.3) z.same;
          inside = same_Some z.row.inside a (sym number ∙ ap (λ (k : RowKey). s.number k.0 k.1 k.2 k.3) z.same ∙ w.1);
        }

    -- Row keys in order, in groups, list the rows below the distance.
    pub grouped_listed : AreListed s D groups
    grouped_listed =
        let order = subst Ascend all_there ascend in
        record {
          groups_ascend = groups_ascend groups grouped.right order grouped.apart;
          rows_ascend = λ i grp e. each_ascend groups order i grp e;
          some = λ i grp e. (right_at i grp e).some;
          below = row_below;
          whole = row_listed;
        }

-- The empty front, and one group more.
pub grouped_none : (s : Found) (row_keys : List RowKey) → AreGrouped s row_keys row_keys []
grouped_none s row_keys = record { whole = refl; right = tt; apart = tt }

apart_more : (groups : List PlainGroup) (grp : PlainGroup) (rest : List RowKey) → AreApart groups (map (key_of_row grp) grp.rows ++ rest) → EndsBefore grp rest
    → AreApart (groups ++ grp ∷ []) rest
apart_more [] grp rest h k = (k, tt)
apart_more (x ∷ groups) grp rest h k = (subst (EndsBefore x) (sym (row_keys_more groups grp rest)) h.0, apart_more groups grp rest h.1 k)

pub grouped_more : (s : Found) (row_keys rest more : List RowKey) (groups : List PlainGroup) (grp : PlainGroup) → AreGrouped s row_keys rest groups → rest ≡ map (key_of_row grp) grp.rows ++ more
    → IsRight s grp → EndsBefore grp more → AreGrouped s row_keys more (groups ++ grp ∷ [])
grouped_more s row_keys rest more groups grp h e right ends = record {
  whole = h.whole ∙ ap (λ r. row_keys_of groups ++ r) e ∙ sym (row_keys_more groups grp more);
  right = all_push (IsRight s) groups grp h.right right;
  apart = apart_more groups grp more (subst (AreApart groups) e h.apart) ends;
}

-- The row keys that are kept: in order, and all that are below the bound.
use Rattle.std.proofs.Common.{◌≡◌, ℕ, zero, suc, ◌+◌, ◌<◌, List, [], ◌∷◌, ◌++◌, map, Bool, true, false, cond, Option}
use Rattle.std.proofs.Common.{Some, None, option_map, take, get_or, append-nil, refl, sym, ap, ◌∙◌, subst, arith, inl, inr, true≢false}
use Rattle.std.specs.Prelude.{slice_get, is_some}
use Rattle.std.specs.declared.cmp.Ordering.{Ordering}
use Rattle.std.specs.declared.cmp.Ordering.TheVariants.{Less, Equal, Greater}
use Rattle.std.specs.Ordering.{ordering_then, ordering_reverse, nat_cmp, is_lt}
use Rattle.std.specs.List.{AllByRecursion, IsDistinct, filter, list_any}
use Rattle.std.specs.List.Sorted.{IsPermutation, IsSorted, IsStrictlySortedBy}
use Rattle.indexmap.specs.IndexMap.{IsUnique, keys as keys_of}
use Rattle.std.specs.Prelude.{IfOk}
use Rattle.std.proofs.Common.{Result, Ok, Err, Vec, Global}
use Rattle.std.proofs.lemmas.Option.{none-some, same_Some, slice_get-map, slice_get_within, slice_get-get_or, get_or_from_slice_get}
use Rattle.std.proofs.lemmas.List.{get_or-map, length-map}
use Rattle.std.proofs.lemmas.Bool.{ltb-true, lt-ltb}
use Rattle.std.proofs.lemmas.List.Elements.{filter_more, All-from_recursion, recursion_from_All}
use Rattle.std.proofs.lemmas.List.Sorted.{All-permutation, Contains-permutation, IsPermutation-map, IsPermutation-sym, length_permutation}
use Rattle.std.proofs.lemmas.Map.Keys.{sorted_head, sorted_tail, sorted_from_all_adjacent, apart_from_distinct, IsDistinct-cons, IsDistinct-head, IsDistinct-tail, IsDistinct-IsPermutation}
use Rattle.std.proofs.lemmas.Map.Made.{is_some-lookup}
use Rattle.std.specs.FinMap.{nat_cmp-IsAntisymmetric}
use Rattle.cw_lemmas.proofs.Lists.{any_get}
use Rattle.cw_lemmas.proofs.Orders.{then_equal, nat_less, then_less}
use Rattle.cw_lemmas.proofs.Options.{option_map_some}
use Rattle.cw_audit_table.specs.Runs.{cut}
use Rattle.cw_audit_table.specs.Conditions.{is_before}
use Rattle.cw_audit_store.specs.declared.row_key.RowKey.{RowKey}
use Rattle.cw_audit_store.specs.declared.row_key.Entered.{Entered}
use Rattle.cw_audit_store.specs.declared.row_key.Row.{Row}
use Rattle.cw_audit_store.specs.declared.store.Store.{Store}
use Rattle.cw_audit_store.specs.Stores.{row_at, group_at, row_key_cmp, row_key_eq, entrance_cmp}
use Rattle.cw_audit_store.proofs.Orders.{row_key_total, eq_row_key, equal_row_keys}
use Rattle.cw_audit_store.specs.Finding.{found_of, row_key, entrance}
use Rattle.cw_audit_search.specs.Settled.{IsRowBelow}
use Rattle.cw_audit_search.specs.Counted.{RowKey as PlainRowKey, is_row_key}
use Rattle.cw_audit_search.specs.Grouped.{IsAfter, IsRowKeyAfter, Ascend}
use Rattle.cw_audit_search.proofs.Counting.{row_keys_laws}
use Rattle.cw_audit_listing.specs.Lists.{plain, IsKnown, is_below_by, is_below, IsLimit, AreAllBelow, AreOrdered}

-- by the orders of numbers, entrances and row keys
pair_less : (a b c d : ℕ) → ordering_then (nat_cmp a b) (nat_cmp c d) ≡ Less → IsAfter (a, c) (b, d)
pair_less a b c d e = elim (then_less (nat_cmp a b) (nat_cmp c d) e) [ inl h ↦ inl (nat_less a b h) | inr h ↦ inr (nat_cmp-IsAntisymmetric a b h.0, nat_less c d h.1) ]

row_key_less : (x y : RowKey) → row_key_cmp x y ≡ Less → IsRowKeyAfter (plain x) (plain y)
row_key_less x y e = elim (then_less (entrance_cmp x.entrance y.entrance) _ e) [
  | inl h ↦ inl (pair_less x.entrance.function y.entrance.function x.entrance.state.0 y.entrance.state.0 h)
  | inr h ↦ let z = then_equal (nat_cmp x.entrance.function y.entrance.function) (nat_cmp x.entrance.state.0 y.entrance.state.0) h.0 in
      inr ((nat_cmp-IsAntisymmetric x.entrance.function y.entrance.function z.0, nat_cmp-IsAntisymmetric x.entrance.state.0 y.entrance.state.0 z.1), pair_less x.pos.0 y.pos.0 x.state.0 y.state.0 h.1)
]

row_key_equal : (x y : RowKey) → row_key_cmp x y ≡ Equal → x ≡ y
row_key_equal x y e =
    let k = then_equal (entrance_cmp x.entrance y.entrance) _ e in
    let z = then_equal (nat_cmp x.entrance.function y.entrance.function) (nat_cmp x.entrance.state.0 y.entrance.state.0) k.0 in
    let w = then_equal (nat_cmp x.pos.0 y.pos.0) (nat_cmp x.state.0 y.state.0) k.1 in
    let f = nat_cmp-IsAntisymmetric x.entrance.function y.entrance.function z.0 in
    let q = nat_cmp-IsAntisymmetric x.entrance.state.0 y.entrance.state.0 z.1 in
    let p = nat_cmp-IsAntisymmetric x.pos.0 y.pos.0 w.0 in
    let s = nat_cmp-IsAntisymmetric x.state.0 y.state.0 w.1 in
    λ i. row_key (f i) (q i) (p i) (s i)

-- in order
mapped_after : (x : RowKey) (ys : List RowKey) → AllByRecursion (λ y. row_key_cmp x y ≡ Less) ys → AllByRecursion (IsRowKeyAfter (plain x)) (map plain ys)
mapped_after x [] h = tt
mapped_after x (y ∷ ys) h = (row_key_less x y h.0, mapped_after x ys h.1)

sorted_ascend : (xs : List RowKey) → IsStrictlySortedBy row_key_cmp xs → Ascend (map plain xs)
sorted_ascend [] h = tt
sorted_ascend (x ∷ xs) h = (mapped_after x xs (sorted_head row_key_cmp x xs h), sorted_ascend xs (sorted_tail row_key_cmp x xs h))

-- row keys that are apart stay so where some are left out
all_left : (test : RowKey → Bool) (x : RowKey) (ys : List RowKey) → AllByRecursion (λ y. row_key_eq x y ≡ false) ys
    → AllByRecursion (λ k. is_row_key (plain x) k ≡ false) (map plain (filter test ys))
all_left test x [] h = tt
all_left test x (y ∷ ys) h = by (test y) (all_left test x ys h.1)
  where
    by : (b : Bool) → AllByRecursion (λ k. is_row_key (plain x) k ≡ false) (map plain (filter test ys))
        → AllByRecursion (λ k. is_row_key (plain x) k ≡ false) (map plain (cond b (y ∷ filter test ys) (filter test ys)))
    by true rest = (sym (eq_row_key x y) ∙ h.0, rest)
    by false rest = rest

left_distinct : (test : RowKey → Bool) (xs : List RowKey) → IsDistinct row_key_eq xs → IsDistinct is_row_key (map plain (filter test xs))
unfolding IsDistinct
left_distinct test [] h = tt
left_distinct test (x ∷ xs) h = by (test x) (left_distinct test xs (IsDistinct-tail row_key_eq x xs h))
  where
    by : (b : Bool) → IsDistinct is_row_key (map plain (filter test xs)) → IsDistinct is_row_key (map plain (cond b (x ∷ filter test xs) (filter test xs)))
    by true rest = IsDistinct-cons is_row_key (plain x) (map plain (filter test xs)) (all_left test x xs (IsDistinct-head row_key_eq x xs h)) rest
    by false rest = rest

-- what is kept passes the test, and what passes it is kept
module _ (test : RowKey → Bool) where
  kept_pass : (xs : List RowKey) (i : ℕ) (x : RowKey) → slice_get (filter test xs) i ≡ Some x → test x ≡ true
  kept_pass [] i x e = absurd (none-some x e)
  kept_pass (y ∷ xs) i x e = by (test y) refl i e (λ j. kept_pass xs j x)
    where
      by : (b : Bool) → test y ≡ b → (i : ℕ) → slice_get (cond b (y ∷ filter test xs) (filter test xs)) i ≡ Some x
          → ((j : ℕ) → slice_get (filter test xs) j ≡ Some x → test x ≡ true)
          → test x ≡ true
      by true t zero e k = sym (ap test (same_Some y x e)) ∙ t
      by true t (suc i) e k = k i e
      by false t i e k = k i e

  pass_kept : (xs : List RowKey) (i : ℕ) (x : RowKey) → slice_get xs i ≡ Some x → test x ≡ true → (j : ℕ) × (slice_get (filter test xs) j ≡ Some x)
  pass_kept [] i x e t = absurd (none-some x e)
  pass_kept (y ∷ xs) zero x e t = (0, ap (λ b. slice_get (cond b (y ∷ filter test xs) (filter test xs)) 0) (ap test (same_Some y x e) ∙ t) ∙ e)
  pass_kept (y ∷ xs) (suc i) x e t = by (test y) refl (pass_kept xs i x e t)
    where
      by : (b : Bool) → test y ≡ b → (j : ℕ) × (slice_get (filter test xs) j ≡ Some x) → (j : ℕ) × (slice_get (cond b (y ∷ filter test xs) (filter test xs)) j ≡ Some x)
      by true e k = (suc k.0, k.1)
      by false e k = k

  all_kept : (P : RowKey → Type 0) → ((x : RowKey) → test x ≡ true → P x) → (xs : List RowKey) → AllByRecursion P (filter test xs)
  all_kept P h [] = tt
  all_kept P h (x ∷ xs) = by (test x) refl (all_kept P h xs)
    where
      by : (b : Bool) → test x ≡ b → AllByRecursion P (filter test xs) → AllByRecursion P (cond b (x ∷ filter test xs) (filter test xs))
      by true e k = (h x e, k)
      by false e k = k

-- what is below the bound has its group and its row
both_there : (bound : ℕ) (og : Option Entered) (ow : Option Row) → is_below_by bound og ow ≡ true
    → (e : Entered) × (r : Row) × (og ≡ Some e) × (ow ≡ Some r) × (cut (e.reach + r.inside) < bound)
both_there bound None ow h = cc
both_there bound (Some e) None h = cc
both_there bound (Some e) (Some r) h = (e, r, refl, refl, ltb-true (cut (e.reach + r.inside)) bound h)

module _ (s : Store) (bound : ℕ) where
  there : (at : RowKey) → is_below s bound at ≡ true
      → (e : Entered) × (r : Row) × (group_at s at.entrance ≡ Some e) × (row_at s at ≡ Some r) × (cut (e.reach + r.inside) < bound)
  there at h = both_there bound (group_at s at.entrance) (row_at s at) h

  is_known : (at : RowKey) → is_below s bound at ≡ true → IsKnown s at
  is_known at h =
      let z = there at h in
      ((z.0.reach, ap (option_map (λ (e : Entered). e.reach)) z.2), (z.1.inside, ap (option_map (λ (r : Row). r.inside)) z.3))

  before : (D : Option ℕ) → IsLimit bound D → (n : ℕ) → cut n < bound → is_before D n ≡ true
  before None l n h = refl
  before (Some d) l n h = lt-ltb (cut n) d (omega (arith, l, h))

  low : (D : Option ℕ) → IsLimit bound D → (n : ℕ) → is_before D n ≡ true → cut n < bound
  low None l n h = omega (arith, l)
  low (Some d) l n h = let k = ltb-true (cut n) d h in omega (arith, l, k)

  below_there : (e : Entered) (r : Row) (at : RowKey) → group_at s at.entrance ≡ Some e → row_at s at ≡ Some r → cut (e.reach + r.inside) < bound → is_below s bound at ≡ true
  below_there e r at eg er l =
      ap (λ o. is_below_by bound o (row_at s at)) eg ∙ ap (is_below_by bound (Some e)) er ∙ lt-ltb (cut (e.reach + r.inside)) bound l

  -- The row keys of the keys that are below the bound.
  pub all_below : (keys row_keys : List RowKey) → IsDistinct row_key_eq keys → ((q : RowKey) → is_some (row_at s q) ≡ list_any (row_key_eq q) keys)
      → row_keys ≡ filter (is_below s bound) keys → AreAllBelow s bound row_keys
  all_below keys row_keys unique has e = subst (AreAllBelow s bound) (sym e) (record {
    known = all_kept (is_below s bound) (IsKnown s) is_known keys;
    distinct = left_distinct (is_below s bound) keys unique;
    below = λ D l. record { found = found D l; whole = whole D l };
  })
    where
      found : (D : Option ℕ) → IsLimit bound D → (m : ℕ) (k : PlainRowKey) → slice_get (map plain (filter (is_below s bound) keys)) m ≡ Some k
          → (r : ℕ) × (a : ℕ) × IsRowBelow (found_of s) D k.0 k.1 r k.2 k.3 a
      found D l m k e =
          let z = option_map_some plain (slice_get (filter (is_below s bound) keys) m) k (sym (slice_get-map plain (filter (is_below s bound) keys) m) ∙ e) in
          let t = there z.0 (kept_pass (is_below s bound) keys m z.0 z.1) in
          subst (λ (k : PlainRowKey). (r : ℕ) × (a : ℕ) × IsRowBelow (found_of s) D k.0 k.1 r k.2 k.3 a) z.2
          (t.0.reach, t.1.inside, (ap (option_map (λ (e : Entered). e.reach)) t.2, ap (option_map (λ (r : Row). r.inside)) t.3, before D l (t.0.reach + t.1.inside) t.4))

      whole : (D : Option ℕ) → IsLimit bound D → (f q r p x a : ℕ) → IsRowBelow (found_of s) D f q r p x a
          → (m : ℕ) × (slice_get (map plain (filter (is_below s bound) keys)) m ≡ Some (f, q, p, x))
      whole D l f q r p x a w =
          let at = row_key f q p x in
          let g = option_map_some (λ (e : Entered). e.reach) (group_at s (entrance f q)) r w.0 in
          let n = option_map_some (λ (r : Row). r.inside) (row_at s at) a w.1 in
          let sum : cut (g.0.reach + n.0.inside) < bound = let k = low D l (r + a) w.2 in omega (arith, k, g.2, n.2) in
          let z = any_get (row_key_eq at) keys (sym (has at) ∙ ap is_some n.1) in
          let same = equal_row_keys at z.1 z.3 in
          let k = pass_kept (is_below s bound) keys z.0 at (z.2 ∙ ap (λ y. Some y) (sym same)) (below_there g.0 n.0 at g.1 n.1 sum) in
          (k.0, slice_get-map plain (filter (is_below s bound) keys) k.0 ∙ ap (option_map plain) k.1)

pub all_below_of : {E : Type 0} (s : Store) (bound : ℕ) (result : Result (Vec RowKey Global) E) → IsUnique row_key_eq s.rows
    → IfOk result (λ v. v.items ≡ filter (is_below s bound) (keys_of s.rows)) → IfOk result (λ v. AreAllBelow s bound v.items)
all_below_of s bound (Ok v) unique h = all_below s bound (keys_of s.rows) v.items unique (λ q. is_some-lookup (row_key_eq q) s.rows.entries) h
all_below_of s bound (Err x) unique h = tt

-- one row more
abbrev pub nowhere : RowKey
nowhere = row_key 0 0 0 0

module _ (s : Store) (bound i : ℕ) (at : RowKey) (row : Row) (is : Some (at, row) ≡ slice_get s.rows.entries i) (there : row_at s at ≡ Some row) where
  key_there : slice_get (keys_of s.rows) i ≡ Some at
  key_there = slice_get-map (λ (e : RowKey × Row). e.0) s.rows.entries i ∙ ap (option_map (λ (e : RowKey × Row). e.0)) (sym is)

  key_is : get_or (keys_of s.rows) i nowhere ≡ at
  key_is = get_or_from_slice_get (keys_of s.rows) i at nowhere key_there

  filtered : (b : Bool) → is_below_by bound (group_at s at.entrance) (Some row) ≡ b
      → filter (is_below s bound) (take (i + 1) (keys_of s.rows)) ≡ filter (is_below s bound) (take i (keys_of s.rows)) ++ cond b (at ∷ []) []
  filtered b t =
      filter_more (is_below s bound) (keys_of s.rows) i nowhere (slice_get_within (keys_of s.rows) i at key_there)
      ∙ ap (λ k. filter (is_below s bound) (take i (keys_of s.rows)) ++ cond (is_below s bound k) (k ∷ []) []) key_is
      ∙ ap (λ c. filter (is_below s bound) (take i (keys_of s.rows)) ++ cond c (at ∷ []) []) (ap (is_below_by bound (group_at s at.entrance)) there ∙ t)

  pub kept_more : (below after : List RowKey) → below ≡ filter (is_below s bound) (take i (keys_of s.rows)) → true ≡ is_below_by bound (group_at s at.entrance) (Some row)
      → after ≡ below ++ at ∷ [] → after ≡ filter (is_below s bound) (take (i + 1) (keys_of s.rows))
  kept_more below after e t w = w ∙ ap (λ ys. ys ++ at ∷ []) e ∙ sym (filtered true (sym t))

  pub kept_less : (below after : List RowKey) → below ≡ filter (is_below s bound) (take i (keys_of s.rows)) → false ≡ is_below_by bound (group_at s at.entrance) (Some row)
      → after ≡ below → after ≡ filter (is_below s bound) (take (i + 1) (keys_of s.rows))
  kept_less below after e t w = w ∙ e ∙ sym (append-nil (filter (is_below s bound) (take i (keys_of s.rows)))) ∙ sym (filtered false (sym t))

-- what is put in order
module _ (xs ys : List RowKey) (moved : IsPermutation xs ys) where
  plain_moved : IsPermutation (map plain xs) (map plain ys)
  plain_moved = IsPermutation-map plain xs ys moved

  goes : (us vs : List PlainRowKey) → IsPermutation us vs → (m : ℕ) (k : PlainRowKey) → slice_get us m ≡ Some k → (n : ℕ) × (slice_get vs n ≡ Some k)
  goes us vs p m k e =
      let c = Contains-permutation us vs k p (m, slice_get_within us m k e, get_or_from_slice_get us m k k e) in
      (c.0, slice_get-get_or vs c.0 k c.1 ∙ ap (λ x. Some x) c.2)

  pub order_kept : (s : Store) (bound : ℕ) → AreAllBelow s bound xs → AreAllBelow s bound ys
  order_kept s bound h = record {
    known = recursion_from_All (IsKnown s) ys (All-permutation (IsKnown s) xs ys moved (All-from_recursion (IsKnown s) xs h.known));
    distinct = IsDistinct-IsPermutation is_row_key row_keys_laws.symm (map plain xs) (map plain ys) plain_moved h.distinct;
    below = λ D l.
        let b = h.below D l in
        record {
          found = λ m k e. let z = goes (map plain ys) (map plain xs) (IsPermutation-sym (map plain xs) (map plain ys) plain_moved) m k e in b.found z.0 k z.1;
          whole = λ f q r p x a w. let z = b.whole f q r p x a w in goes (map plain xs) (map plain ys) plain_moved z.0 (f, q, p, x) z.1;
        };
  }

  less_of : (x y : RowKey) → is_lt (row_key_cmp y x) ≡ false → is_row_key (plain x) (plain y) ≡ false → row_key_cmp x y ≡ Less
  less_of x y not_less apart = by (row_key_cmp x y) refl
    where
      by : (o : Ordering) → row_key_cmp x y ≡ o → row_key_cmp x y ≡ Less
      by Less e = e
      by Equal e = let same = row_key_equal x y e in absurd (true≢false (sym (row_keys_laws.refl (plain x)) ∙ ap (λ z. is_row_key (plain x) (plain z)) same ∙ apart))
      by Greater e = absurd (true≢false (ap is_lt (sym (row_key_total.antisymm y x ∙ ap ordering_reverse e)) ∙ not_less))

  pub order_ascends : IsSorted row_key_cmp ys → (s : Store) (bound : ℕ) → AreAllBelow s bound xs → Ascend (map plain ys)
  order_ascends sorted s bound h =
      let apart = (order_kept s bound h).distinct in
      sorted_ascend ys (sorted_from_all_adjacent row_key_total ys nowhere (λ k low.
      less_of (get_or ys k nowhere) (get_or ys (k + 1) nowhere) (sorted k nowhere (omega arith) low)
      (let a = apart_from_distinct is_row_key (map plain ys) k (k + 1) (plain nowhere) apart (omega arith) (omega (arith, low, length-map ys plain)) in
      subst (λ z. is_row_key z (plain (get_or ys (k + 1) nowhere)) ≡ false) (get_or-map plain ys k nowhere (plain nowhere) (omega (arith, low)))
      (subst (λ z. is_row_key (get_or (map plain ys) k (plain nowhere)) z ≡ false) (get_or-map plain ys (k + 1) nowhere (plain nowhere) low) a))))

  pub are_ordered : IsSorted row_key_cmp ys → AreOrdered xs ys
  are_ordered sorted = record { many = length_permutation xs ys moved; below = order_kept; ascend = order_ascends sorted }

-- The first condition over the rows and groups of a table, from one of them on.
use Rattle.std.proofs.Common.{◌≡◌, ℕ, zero, suc, ◌+◌, ◌<◌, ◌≤◌, List, [], ◌∷◌, ◌++◌, Bool, true, false, cond, ◌&&◌, ◌||◌, nat_eq, nat_lt, Option, Some}
use Rattle.std.proofs.Common.{None, option_map, map, length, get_or, drop, sym, ap, ◌∙◌, subst, arith}
use Rattle.std.specs.List.{enumerate_from}
use Rattle.std.specs.List.Sorted.{IsStrictlySortedBy}
use Rattle.std.specs.Cmp.{IsTotalOrder}
use Rattle.std.specs.Ordering.{ordering_then, nat_cmp}
use Rattle.std.specs.declared.cmp.Ordering.TheVariants.{Less}
use Rattle.std.proofs.lemmas.Cmp.{on_total}
use Rattle.std.proofs.lemmas.Bool.Decides.{nat_tests}
use Rattle.cw_lemmas.proofs.Rising.{Rises, ascends_from}
use Rattle.cw_game.proofs.Goods.{taken, none_first}
use Rattle.std.proofs.lemmas.Bool.{and_parts}
use Rattle.cw_audit_check.specs.Checks.{row_cmp, group_cmp, IsInRange, AreInRange}
use Rattle.cw_audit_table.proofs.Closing.{pairs_at}
use Rattle.cw_audit_check.proofs.LookUps.{key_of as row_key, key_total, group_key, group_total as group_key_total}
use Rattle.std.specs.Prelude.{slice_get}
use Rattle.std.proofs.lemmas.Option.{none-some, same_Some, slice_get-map}
use Rattle.std.proofs.lemmas.Bool.{ltb-true}
use Rattle.std.proofs.Math.Seq.{drop-cons}
use Rattle.std.proofs.lemmas.List.{drop_all}
use Rattle.cw_core.specs.declared.ids.PosId.{PosId}
use Rattle.cw_core.specs.declared.ids.StateId.{StateId}
use Rattle.cw_game.specs.Games.{Game}
use Rattle.cw_game.specs.Conditions.{first_failing}
use Rattle.cw_game.proofs.Failing.{append_none, append_some}
use Rattle.cw_audit_table.specs.declared.table.Group.{Group}
use Rattle.cw_audit_table.specs.Tables.{row_of, group_of}
use Rattle.cw_audit_table.specs.Conditions.{GroupFault, fault_at, is_after, is_group, is_pair, key_of, pair_of, pairs, ranges}

abbrev pub ARow : Type 0
ARow = PosId × StateId × ℕ

module _ (g : Game) (f group : ℕ) (rows : List ARow) where
  -- what fails first from a row on, after this pair
  abbrev pub PairsFrom : Option (ℕ × ℕ) → ℕ → Option GroupFault
  PairsFrom last n = first_failing (pairs g f group last (enumerate_from n (map row_of (drop n rows))))

  step : (last : Option (ℕ × ℕ)) (n : ℕ) (d : ARow) → n < length rows
      → PairsFrom last n ≡ first_failing (pairs g f group last (enumerate_from n (map row_of (get_or rows n d ∷ drop (n + 1) rows))))
  step last n d lt =
      let next : suc n ≡ n + 1 = omega arith in
      ap (λ (rs : List ARow). first_failing (pairs g f group last (enumerate_from n (map row_of rs)))) (subst (λ k. drop n rows ≡ get_or rows n d ∷ drop k rows) next (drop-cons rows n d lt))

  pub pair_next : (last : Option (ℕ × ℕ)) (n : ℕ) (d : ARow) → n < length rows → (is_pair g f (row_of (get_or rows n d)) && is_after last (pair_of (row_of (get_or rows n d)))) ≡ true
      → PairsFrom last n ≡ PairsFrom (Some (pair_of (row_of (get_or rows n d)))) (n + 1)
  pair_next last n d lt e = step last n d lt ∙ ap (λ b. cond b (PairsFrom (Some (pair_of (row_of (get_or rows n d)))) (n + 1)) (Some (fault_at group n 1))) e

  pub pair_here : (last : Option (ℕ × ℕ)) (n : ℕ) (d : ARow) → n < length rows → (is_pair g f (row_of (get_or rows n d)) && is_after last (pair_of (row_of (get_or rows n d)))) ≡ false
      → PairsFrom last n ≡ Some (fault_at group n 1)
  pair_here last n d lt e = step last n d lt ∙ ap (λ b. cond b (PairsFrom (Some (pair_of (row_of (get_or rows n d)))) (n + 1)) (Some (fault_at group n 1))) e

  pub pair_end : (last : Option (ℕ × ℕ)) (n : ℕ) → length rows ≤ n → PairsFrom last n ≡ None
  pair_end last n le = ap (λ (rs : List ARow). first_failing (pairs g f group last (enumerate_from n (map row_of rs)))) (drop_all n rows le)

module _ (g : Game) (functions : ℕ) (groups : List Group) where
  abbrev pub RangesFrom : Option (ℕ × ℕ) → ℕ → Option GroupFault
  RangesFrom last n = first_failing (ranges g functions last (enumerate_from n (map group_of (drop n groups))))

  abbrev own : Group → Option (ℕ × ℕ) → Bool
  own x last = is_group g functions (group_of x) && is_after last (key_of (group_of x))

  abbrev rows_in : ℕ → Group → List (GroupFault × Bool)
  rows_in n x = pairs g x.function n None (enumerate_from 0 (map row_of x.rows.items))

  abbrev rest : ℕ → Group → List (GroupFault × Bool)
  rest n x = ranges g functions (Some (key_of (group_of x))) (enumerate_from (n + 1) (map group_of (drop (n + 1) groups)))

  step_group : (last : Option (ℕ × ℕ)) (n : ℕ) (x : Group) → n < length groups → x ≡ get_or groups n x
      → RangesFrom last n ≡ first_failing ((fault_at n 0 1, own x last) ∷ rows_in n x ++ rest n x)
  step_group last n x lt e =
      let next : suc n ≡ n + 1 = omega arith in
      ap (λ (gs : List Group). first_failing (ranges g functions last (enumerate_from n (map group_of gs))))
      (subst (λ k. drop n groups ≡ get_or groups n x ∷ drop k groups) next (drop-cons groups n x lt) ∙ ap (λ y. y ∷ drop (n + 1) groups) (sym e))

  pub group_row : (last : Option (ℕ × ℕ)) (n : ℕ) (x : Group) (fault : GroupFault) → n < length groups → x ≡ get_or groups n x → own x last ≡ true
      → first_failing (rows_in n x) ≡ Some fault → RangesFrom last n ≡ Some fault
  group_row last n x fault lt is e h =
      step_group last n x lt is ∙ ap (λ b. cond b (first_failing (rows_in n x ++ rest n x)) (Some (fault_at n 0 1))) e ∙ append_some (rows_in n x) (rest n x) fault h

  pub group_next : (last : Option (ℕ × ℕ)) (n : ℕ) (x : Group) → n < length groups → x ≡ get_or groups n x → own x last ≡ true
      → first_failing (rows_in n x) ≡ None → RangesFrom last n ≡ RangesFrom (Some (key_of (group_of x))) (n + 1)
  group_next last n x lt is e h =
      step_group last n x lt is ∙ ap (λ b. cond b (first_failing (rows_in n x ++ rest n x)) (Some (fault_at n 0 1))) e ∙ append_none (rows_in n x) (rest n x) h

abbrev pub no_row : ARow
no_row = (record { 0 = 0 }, record { 0 = 0 }, 0)

row_total : IsTotalOrder row_cmp
row_total = on_total row_key key_total

group_total : IsTotalOrder group_cmp
group_total = on_total group_key group_key_total

-- Where the first condition fails nowhere, each row and each group comes after the one before it.
after_less : (a b p x : ℕ) → (nat_lt a p || (nat_eq a p && nat_lt b x)) ≡ true → ordering_then (nat_cmp a p) (nat_cmp b x) ≡ Less
after_less a b p x h = grind (arith, nat_tests)

module _ (g : Game) where
  rises : (f group m : ℕ) (r : ARow) (rows : List ARow) → first_failing (pairs g f group (Some (pair_of (row_of r))) (enumerate_from m (map row_of rows))) ≡ None
      → Rises row_cmp (r ∷ rows) (length (r ∷ rows))
  rises f group m r [] h k d lt = absurd (omega (arith, lt))
  rises f group m r (x ∷ rows) h zero d lt =
      let t = taken (is_pair g f (row_of x) && is_after (Some (pair_of (row_of r))) (pair_of (row_of x))) _ (fault_at group m 1) h in
      after_less r.0.0 r.1.0 x.0.0 x.1.0 (and_parts (is_pair g f (row_of x)) _ t.0).1
  rises f group m r (x ∷ rows) h (suc k) d lt =
      let t = taken (is_pair g f (row_of x) && is_after (Some (pair_of (row_of r))) (pair_of (row_of x))) _ (fault_at group m 1) h in
      let next : suc (k + 1) ≡ suc k + 1 = omega arith in
      subst (λ n. row_cmp (get_or (r ∷ x ∷ rows) (suc k) d) (get_or (r ∷ x ∷ rows) n d) ≡ Less) next (rises f group (m + 1) x rows t.1 k d (omega (arith, lt)))

  pub rows_sorted : (f group : ℕ) (rows : List ARow) → first_failing (pairs g f group None (enumerate_from 0 (map row_of rows))) ≡ None → IsStrictlySortedBy row_cmp rows
  rows_sorted f group [] h = ascends_from row_total [] (λ k d lt. absurd (omega (arith, lt)))
  rows_sorted f group (x ∷ rows) h =
      let t = taken (is_pair g f (row_of x) && is_after None (pair_of (row_of x))) _ (fault_at group 0 1) h in
      ascends_from row_total (x ∷ rows) (rises f group 1 x rows t.1)

  group_rises : (functions m : ℕ) (x : Group) (groups : List Group) → first_failing (ranges g functions (Some (key_of (group_of x))) (enumerate_from m (map group_of groups))) ≡ None
      → Rises group_cmp (x ∷ groups) (length (x ∷ groups))
  group_rises functions m x [] h k d lt = absurd (omega (arith, lt))
  group_rises functions m x (y ∷ groups) h zero d lt =
      let t = taken (is_group g functions (group_of y) && is_after (Some (key_of (group_of x))) (key_of (group_of y))) _ (fault_at m 0 1) h in
      after_less x.function x.entered.0 y.function y.entered.0 (and_parts (is_group g functions (group_of y)) _ t.0).1
  group_rises functions m x (y ∷ groups) h (suc k) d lt =
      let t = taken (is_group g functions (group_of y) && is_after (Some (key_of (group_of x))) (key_of (group_of y))) _ (fault_at m 0 1) h in
      let s = none_first (pairs g y.function m None (enumerate_from 0 (map row_of y.rows.items))) (ranges g functions (Some (key_of (group_of y))) (enumerate_from (m + 1) (map group_of groups)))
      t.1 in
      let next : suc (k + 1) ≡ suc k + 1 = omega arith in
      subst (λ n. group_cmp (get_or (x ∷ y ∷ groups) (suc k) d) (get_or (x ∷ y ∷ groups) n d) ≡ Less) next (group_rises functions (m + 1) y groups s.1 k d (omega (arith, lt)))

  pub groups_sorted : (functions : ℕ) (groups : List Group) → first_failing (ranges g functions None (enumerate_from 0 (map group_of groups))) ≡ None → IsStrictlySortedBy group_cmp groups
  groups_sorted functions [] h = ascends_from group_total [] (λ k d lt. absurd (omega (arith, lt)))
  groups_sorted functions (x ∷ groups) h =
      let t = taken (is_group g functions (group_of x) && is_after None (key_of (group_of x))) _ (fault_at 0 0 1) h in
      let s = none_first (pairs g x.function 0 None (enumerate_from 0 (map row_of x.rows.items))) (ranges g functions (Some (key_of (group_of x))) (enumerate_from 1 (map group_of groups))) t.1 in
      ascends_from group_total (x ∷ groups) (group_rises functions 1 x groups s.1)

  -- each group with its rows
  groups_at : (functions m : ℕ) (last : Option (ℕ × ℕ)) (groups : List Group) → first_failing (ranges g functions last (enumerate_from m (map group_of groups))) ≡ None
      → (i : ℕ) (x : Group) → slice_get groups i ≡ Some x → IsInRange g functions x
  groups_at functions m last [] h i x e = absurd (none-some x e)
  groups_at functions m last (y ∷ groups) h zero x e =
      let t = taken (is_group g functions (group_of y) && is_after last (key_of (group_of y))) _ (fault_at m 0 1) h in
      let s = none_first (pairs g y.function m None (enumerate_from 0 (map row_of y.rows.items))) (ranges g functions (Some (key_of (group_of y))) (enumerate_from (m + 1) (map group_of groups)))
      t.1 in
      let own = and_parts (nat_lt y.function functions) (nat_lt y.entered.0 g.states.count) (and_parts (is_group g functions (group_of y)) _ t.0).0 in
      subst (IsInRange g functions) (same_Some y x e)
      (record {
        there = ltb-true y.function functions own.0;
        pairs = λ n r er. pairs_at g y.function m 0 None (map row_of y.rows.items) s.0 n (row_of r) (slice_get-map row_of y.rows.items n ∙ ap (option_map row_of) er);
        ascend = rows_sorted y.function m y.rows.items s.0;
      })
  groups_at functions m last (y ∷ groups) h (suc i) x e =
      let t = taken (is_group g functions (group_of y) && is_after last (key_of (group_of y))) _ (fault_at m 0 1) h in
      let s = none_first (pairs g y.function m None (enumerate_from 0 (map row_of y.rows.items))) (ranges g functions (Some (key_of (group_of y))) (enumerate_from (m + 1) (map group_of groups)))
      t.1 in
      groups_at functions (m + 1) (Some (key_of (group_of y))) groups s.1 i x e

  pub in_range : (functions : ℕ) (groups : List Group) → first_failing (ranges g functions None (enumerate_from 0 (map group_of groups))) ≡ None → AreInRange g functions groups
  in_range functions groups h = record { ascend = groups_sorted functions groups h; each = groups_at functions 0 None groups h }

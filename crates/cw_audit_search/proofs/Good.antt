-- The table that lists a settled search meets the conditions.
use Rattle.std.proofs.Common.{◌≡◌, ℕ, suc, ◌+◌, List, [], ◌∷◌, ◌++◌, map, length, Bool, true, ◌&&◌, Option, Some, None, is_some, nat_eq}
use Rattle.std.proofs.Common.{eq-eqb, refl}
use Rattle.std.specs.Prelude.{slice_get}
use Rattle.std.specs.List.{list_all, enumerate_from}
use Rattle.std.proofs.lemmas.Bool.{and_from as both}
use Rattle.cw_game.specs.Games.{Game}
use Rattle.cw_game.specs.Conditions.{first_failing}
use Rattle.cw_game.proofs.Failing.{none_append, none_mapped, none_more}
use Rattle.cw_audit_table.specs.Tables.{PlainRow, PlainGroup, Audit, group_at}
use Rattle.cw_audit_table.specs.Conditions.{fault_at, is_after, key_of, pair_of, is_group, is_pair, pairs, ranges}
use Rattle.cw_audit_table.specs.Conditions.{begins, is_good, moves_on, calls_on, row_conditions, row_faults, group_faults}
use Rattle.cw_audit_table.specs.Conditions.{IsGoodAudit}
use Rattle.cw_audit_search.specs.Ordered.{AscendAfter}

-- where a test holds of each item it holds of all
pub all_true : {A : Type 0} (test : A → Bool) (xs : List A) → ((i : ℕ) (x : A) → slice_get xs i ≡ Some x → test x ≡ true) → list_all test xs ≡ true
all_true test [] h = refl
all_true test (x ∷ xs) h = both (test x) (list_all test xs) (h 0 x refl) (all_true test xs (λ i y e. h (suc i) y e))

module _ (g : Game) (functions : ℕ) where
  -- condition 1, of rows in order
  row_keys_none : (f i m : ℕ) (last : Option (ℕ × ℕ)) (rows : List PlainRow) → AscendAfter last (map pair_of rows)
      → ((n : ℕ) (r : PlainRow) → slice_get rows n ≡ Some r → is_pair g f r ≡ true) → first_failing (pairs g f i last (enumerate_from m rows)) ≡ None
  row_keys_none f i m last [] h k = refl
  row_keys_none f i m last (x ∷ rows) h k =
      none_more (is_pair g f x && is_after last (pair_of x)) _ (fault_at i m 1) (both (is_pair g f x) (is_after last (pair_of x)) (k 0 x refl) h.0)
      (row_keys_none f i (m + 1) (Some (pair_of x)) rows h.1 (λ n r e. k (suc n) r e))

  pub record IsInRange (grp : PlainGroup) : Type 0 where
    pub group : is_group g functions grp ≡ true
    pub ascend : AscendAfter None (map pair_of grp.rows)
    pub rows : (n : ℕ) (r : PlainRow) → slice_get grp.rows n ≡ Some r → is_pair g grp.function r ≡ true

  ranges_none : (m : ℕ) (last : Option (ℕ × ℕ)) (groups : List PlainGroup) → AscendAfter last (map key_of groups)
      → ((i : ℕ) (grp : PlainGroup) → slice_get groups i ≡ Some grp → IsInRange grp) → first_failing (ranges g functions last (enumerate_from m groups)) ≡ None
  ranges_none m last [] h k = refl
  ranges_none m last (x ∷ groups) h k =
      let z = k 0 x refl in
      none_more (is_group g functions x && is_after last (key_of x)) _ (fault_at m 0 1) (both (is_group g functions x) (is_after last (key_of x)) z.group h.0)
      (none_append (pairs g x.function m None (enumerate_from 0 x.rows)) (ranges g functions (Some (key_of x)) (enumerate_from (m + 1) groups))
      (row_keys_none x.function m 0 None x.rows z.ascend z.rows) (ranges_none (m + 1) (Some (key_of x)) groups h.1 (λ i grp e. k (suc i) grp e)))

  -- conditions 2 to 5
  module _ (t : Audit) where
    pub record RowIsGood (grp : PlainGroup) (r : PlainRow) : Type 0 where
      pub good : is_good g r (slice_get g.spots r.pos) ≡ true
      pub moves : moves_on g t.distance grp r (slice_get g.spots r.pos) ≡ true
      pub calls : calls_on g t grp r (slice_get g.spots r.pos) ≡ true

    row_none : (grp : PlainGroup) (r : PlainRow) → RowIsGood grp r → first_failing (row_conditions g t grp r (slice_get g.spots r.pos)) ≡ None
    row_none grp r h =
        let spot = slice_get g.spots r.pos in
        none_more (is_good g r spot) _ 3 h.good (none_more (moves_on g t.distance grp r spot) _ 4 h.moves (none_more (calls_on g t grp r spot) _ 5 h.calls refl))

    rows_none : (i m : ℕ) (grp : PlainGroup) (rows : List PlainRow) → ((n : ℕ) (r : PlainRow) → slice_get rows n ≡ Some r → RowIsGood grp r)
        → first_failing (row_faults g t i grp (enumerate_from m rows)) ≡ None
    rows_none i m grp [] k = refl
    rows_none i m grp (x ∷ rows) k =
        none_append (map (λ c. (fault_at i m c.0, c.1)) (row_conditions g t grp x (slice_get g.spots x.pos))) (row_faults g t i grp (enumerate_from (m + 1) rows))
        (none_mapped (fault_at i m) (row_conditions g t grp x (slice_get g.spots x.pos)) (row_none grp x (k 0 x refl))) (rows_none i (m + 1) grp rows (λ n r e. k (suc n) r e))

    pub record GroupIsGood (grp : PlainGroup) : Type 0 where
      pub begin : begins g grp ≡ true
      pub rows : (n : ℕ) (r : PlainRow) → slice_get grp.rows n ≡ Some r → RowIsGood grp r

    groups_none : (m : ℕ) (groups : List PlainGroup) → ((i : ℕ) (grp : PlainGroup) → slice_get groups i ≡ Some grp → GroupIsGood grp)
        → first_failing (group_faults g t (enumerate_from m groups)) ≡ None
    groups_none m [] k = refl
    groups_none m (x ∷ groups) k =
        let z = k 0 x refl in
        none_more (begins g x) _ (fault_at m 0 2) z.begin
        (none_append (row_faults g t m x (enumerate_from 0 x.rows)) (group_faults g t (enumerate_from (m + 1) groups)) (rows_none m 0 x x.rows z.rows)
        (groups_none (m + 1) groups (λ i grp e. k (suc i) grp e)))

    pub record AllIsGood : Type 0 where
      pub states : t.states ≡ g.states.count
      pub ascend : AscendAfter None (map key_of t.groups)
      pub ranges : (i : ℕ) (grp : PlainGroup) → slice_get t.groups i ≡ Some grp → IsInRange grp
      pub groups : (i : ℕ) (grp : PlainGroup) → slice_get t.groups i ≡ Some grp → GroupIsGood grp
      pub main : is_some (group_at t.groups g.main g.states.start) ≡ true

    pub all_none : AllIsGood → IsGoodAudit g functions t
    all_none h =
        none_more (nat_eq t.states g.states.count) _ (fault_at 0 0 1) (eq-eqb t.states g.states.count h.states)
        (none_append (ranges g functions None (enumerate_from 0 t.groups) ++ group_faults g t (enumerate_from 0 t.groups))
        ((fault_at (length t.groups) 0 2, is_some (group_at t.groups g.main g.states.start)) ∷ [])
        (none_append (ranges g functions None (enumerate_from 0 t.groups)) (group_faults g t (enumerate_from 0 t.groups)) (ranges_none 0 None t.groups h.ascend h.ranges)
        (groups_none 0 t.groups h.groups)) (none_more (is_some (group_at t.groups g.main g.states.start)) None (fault_at (length t.groups) 0 2) h.main refl))

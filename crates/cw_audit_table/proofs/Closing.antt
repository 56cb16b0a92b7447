-- The rows of a table that meets the conditions are closed.
use Rattle.std.proofs.Common.{◌≡◌, ℕ, zero, suc, ◌+◌, ◌<◌, ◌≤◌, List, [], ◌∷◌, ◌++◌, map, length, Bool, true, false, cond, not, ◌&&◌, ◌||◌, Option, Some}
use Rattle.std.proofs.Common.{None, is_some}
use Rattle.std.proofs.Common.{find, nat_eq, nat_lt, refl, sym, ap, ◌∙◌, subst, arith, eqb-true, eq-eqb}
use Rattle.std.specs.Prelude.{slice_get, nat_le}
use Rattle.std.specs.List.{list_all, enumerate_from}
use Rattle.std.proofs.Math.Nat.{min-le_left}
use Rattle.std.proofs.lemmas.Option.{none-some, same_Some}
use Rattle.std.proofs.lemmas.Bool.{ltb-true, lt-ltb, leb-true}
use Rattle.cw_certs.specs.declared.moves.Move.{Move}
use Rattle.cw_certs.specs.declared.moves.Move.TheVariants.{On, Left, Right, Opened, Failed}
use Rattle.cw_game.specs.declared.spots.Spot.TheVariants.{Call}
use Rattle.cw_game.specs.Games.{Game, Config, leads_in, bad_in}
use Rattle.cw_game.specs.Conditions.{first_failing, is_position, is_state}
use Rattle.cw_game.proofs.Goods.{taken, none_first, unmapped}
use Rattle.cw_game.proofs.Truths.{or_parts}
use Rattle.std.proofs.lemmas.Bool.{and_parts}
use Rattle.std.proofs.lemmas.Bool.{and_from as both}
use Rattle.std.proofs.lemmas.Bool.{not-true as is_false}
use Rattle.cw_lemmas.proofs.Options.{option_map_some}
use Rattle.cw_audit_table.specs.Runs.{is_step, skipped, cut}
use Rattle.cw_audit_table.specs.Tables.{PlainRow, PlainGroup, Audit, group_at, inside_at}
use Rattle.cw_audit_table.specs.Conditions.{GroupFault, fault_at, is_before, is_within, has_within, is_after, key_of, pair_of, is_free, is_group, is_pair, pairs, ranges}
use Rattle.cw_audit_table.specs.Conditions.{is_zero, is_mains, begins, is_good, is_inner, takes, moves_on, comes_back, enters, calls_on, row_conditions, row_faults, group_faults}
use Rattle.cw_audit_table.specs.Conditions.{IsGoodAudit, EndAlone}
use Rattle.cw_audit_table.proofs.Bounds.{IsClosedBy}

-- what is found is in the list, and is as it was asked for
pub found_at : {A : Type 0} (test : A → Bool) (xs : List A) (x : A) → find test xs ≡ Some x → (test x ≡ true) × ((i : ℕ) × (slice_get xs i ≡ Some x))
found_at test [] x e = absurd (none-some x e)
found_at test (y ∷ xs) x e = by (test y) refl e (found_at test xs x)
  where
    by : (b : Bool) → test y ≡ b → cond b (Some y) (find test xs) ≡ Some x → (find test xs ≡ Some x → (test x ≡ true) × ((i : ℕ) × (slice_get xs i ≡ Some x)))
        → (test x ≡ true) × ((i : ℕ) × (slice_get (y ∷ xs) i ≡ Some x))
    by true t e k = let s = same_Some y x e in (ap test (sym s) ∙ t, (0, e))
    by false t e k = let z = k e in (z.0, (suc z.1.0, z.1.1))

-- what holds of a row, and of a group with its rows, by the conditions
pub record RowHolds (g : Game) (t : Audit) (grp : PlainGroup) (r : PlainRow) : Type 0 where
  pub pair : is_pair g grp.function r ≡ true
  pub good : is_good g r (slice_get g.spots r.pos) ≡ true
  pub moves : moves_on g t.distance grp r (slice_get g.spots r.pos) ≡ true
  pub calls : calls_on g t grp r (slice_get g.spots r.pos) ≡ true

pub record GroupHolds (g : Game) (functions : ℕ) (t : Audit) (grp : PlainGroup) : Type 0 where
  pub group : is_group g functions grp ≡ true
  pub begins : begins g grp ≡ true
  pub rows : (n : ℕ) (r : PlainRow) → slice_get grp.rows n ≡ Some r → RowHolds g t grp r

module _ (g : Game) where
  pub pairs_at : (f i m : ℕ) (last : Option (ℕ × ℕ)) (rows : List PlainRow) → first_failing (pairs g f i last (enumerate_from m rows)) ≡ None
      → (n : ℕ) (r : PlainRow) → slice_get rows n ≡ Some r → is_pair g f r ≡ true
  pairs_at f i m last [] h n r e = absurd (none-some r e)
  pairs_at f i m last (x ∷ rows) h zero r e =
      let k = taken (is_pair g f x && is_after last (pair_of x)) _ (fault_at i m 1) h in
      subst (λ (y : PlainRow). is_pair g f y ≡ true) (same_Some x r e) (and_parts (is_pair g f x) _ k.0).0
  pairs_at f i m last (x ∷ rows) h (suc n) r e =
      let k = taken (is_pair g f x && is_after last (pair_of x)) _ (fault_at i m 1) h in
      pairs_at f i (m + 1) (Some (pair_of x)) rows k.1 n r e

module _ (g : Game) (functions : ℕ) (t : Audit) where
  ranges_at : (m : ℕ) (last : Option (ℕ × ℕ)) (groups : List PlainGroup) → first_failing (ranges g functions last (enumerate_from m groups)) ≡ None
      → (i : ℕ) (grp : PlainGroup) → slice_get groups i ≡ Some grp
      → (is_group g functions grp ≡ true) × ((n : ℕ) (r : PlainRow) → slice_get grp.rows n ≡ Some r → is_pair g grp.function r ≡ true)
  ranges_at m last [] h i grp e = absurd (none-some grp e)
  ranges_at m last (x ∷ groups) h zero grp e =
      let k = taken (is_group g functions x && is_after last (key_of x)) _ (fault_at m 0 1) h in
      let s = none_first (pairs g x.function m None (enumerate_from 0 x.rows)) (ranges g functions (Some (key_of x)) (enumerate_from (m + 1) groups)) k.1 in
      subst (λ (y : PlainGroup). (is_group g functions y ≡ true) × ((n : ℕ) (r : PlainRow) → slice_get y.rows n ≡ Some r → is_pair g y.function r ≡ true)) (same_Some x grp e)
      ((and_parts (is_group g functions x) _ k.0).0, pairs_at g x.function m 0 None x.rows s.0)
  ranges_at m last (x ∷ groups) h (suc i) grp e =
      let k = taken (is_group g functions x && is_after last (key_of x)) _ (fault_at m 0 1) h in
      let s = none_first (pairs g x.function m None (enumerate_from 0 x.rows)) (ranges g functions (Some (key_of x)) (enumerate_from (m + 1) groups)) k.1 in
      ranges_at (m + 1) (Some (key_of x)) groups s.1 i grp e

  abbrev Three : PlainGroup → PlainRow → Type 0
  Three grp r = (is_good g r (slice_get g.spots r.pos) ≡ true) × (moves_on g t.distance grp r (slice_get g.spots r.pos) ≡ true) × (calls_on g t grp r (slice_get g.spots r.pos) ≡ true)

  three : (grp : PlainGroup) (r : PlainRow) → first_failing (row_conditions g t grp r (slice_get g.spots r.pos)) ≡ None → Three grp r
  three grp r h =
      let spot = slice_get g.spots r.pos in
      let k3 = taken (is_good g r spot) _ 3 h in
      let k4 = taken (moves_on g t.distance grp r spot) _ 4 k3.1 in
      let k5 = taken (calls_on g t grp r spot) _ 5 k4.1 in
      (k3.0, k4.0, k5.0)

  rows_at : (i m : ℕ) (grp : PlainGroup) (rows : List PlainRow) → first_failing (row_faults g t i grp (enumerate_from m rows)) ≡ None
      → (n : ℕ) (r : PlainRow) → slice_get rows n ≡ Some r → Three grp r
  rows_at i m grp [] h n r e = absurd (none-some r e)
  rows_at i m grp (x ∷ rows) h zero r e =
      let k = none_first (map (λ c. (fault_at i m c.0, c.1)) (row_conditions g t grp x (slice_get g.spots x.pos))) (row_faults g t i grp (enumerate_from (m + 1) rows)) h in
      subst (Three grp) (same_Some x r e) (three grp x (unmapped (fault_at i m) (row_conditions g t grp x (slice_get g.spots x.pos)) k.0))
  rows_at i m grp (x ∷ rows) h (suc n) r e =
      let k = none_first (map (λ c. (fault_at i m c.0, c.1)) (row_conditions g t grp x (slice_get g.spots x.pos))) (row_faults g t i grp (enumerate_from (m + 1) rows)) h in
      rows_at i (m + 1) grp rows k.1 n r e

  groups_at : (m : ℕ) (groups : List PlainGroup) → first_failing (group_faults g t (enumerate_from m groups)) ≡ None
      → (i : ℕ) (grp : PlainGroup) → slice_get groups i ≡ Some grp → (begins g grp ≡ true) × ((n : ℕ) (r : PlainRow) → slice_get grp.rows n ≡ Some r → Three grp r)
  groups_at m [] h i grp e = absurd (none-some grp e)
  groups_at m (x ∷ groups) h zero grp e =
      let k = taken (begins g x) _ (fault_at m 0 2) h in
      let s = none_first (row_faults g t m x (enumerate_from 0 x.rows)) (group_faults g t (enumerate_from (m + 1) groups)) k.1 in
      subst (λ (y : PlainGroup). (begins g y ≡ true) × ((n : ℕ) (r : PlainRow) → slice_get y.rows n ≡ Some r → Three y r)) (same_Some x grp e) (k.0, rows_at m 0 x x.rows s.0)
  groups_at m (x ∷ groups) h (suc i) grp e =
      let k = taken (begins g x) _ (fault_at m 0 2) h in
      let s = none_first (row_faults g t m x (enumerate_from 0 x.rows)) (group_faults g t (enumerate_from (m + 1) groups)) k.1 in
      groups_at (m + 1) groups s.1 i grp e

  -- the conditions, part by part
  pub record Parts : Type 0 where
    pub states : nat_eq t.states g.states.count ≡ true
    pub ranges : first_failing (ranges g functions None (enumerate_from 0 t.groups)) ≡ None
    pub groups : first_failing (group_faults g t (enumerate_from 0 t.groups)) ≡ None
    pub main : is_some (group_at t.groups g.main g.states.start) ≡ true

  pub parts : IsGoodAudit g functions t → Parts
  parts h =
      let k = taken (nat_eq t.states g.states.count) _ (fault_at 0 0 1) h in
      let last : List (GroupFault × Bool) = (fault_at (length t.groups) 0 2, is_some (group_at t.groups g.main g.states.start)) ∷ [] in
      let a = none_first (ranges g functions None (enumerate_from 0 t.groups) ++ group_faults g t (enumerate_from 0 t.groups)) last k.1 in
      let b = none_first (ranges g functions None (enumerate_from 0 t.groups)) (group_faults g t (enumerate_from 0 t.groups)) a.0 in
      record {
        states = k.0;
        ranges = b.0;
        groups = b.1;
        main = (taken (is_some (group_at t.groups g.main g.states.start)) None (fault_at (length t.groups) 0 2) a.1).0;
      }

  pub holds_at : IsGoodAudit g functions t → (i : ℕ) (grp : PlainGroup) → slice_get t.groups i ≡ Some grp → GroupHolds g functions t grp
  holds_at h i grp e =
      let p = parts h in
      let r = ranges_at 0 None t.groups p.ranges i grp e in
      let c = groups_at 0 t.groups p.groups i grp e in
      record {
        group = r.0;
        begins = c.0;
        rows = λ n row en. record { pair = r.1 n row en; good = (c.1 n row en).0; moves = (c.1 n row en).1; calls = (c.1 n row en).2 };
      }

-- The rows of a table, by look-up.
pub record RowAt (t : Audit) (f q r p x a : ℕ) : Type 0 where
  pub group : PlainGroup
  pub there : group_at t.groups f q ≡ Some group
  pub reach : group.reach ≡ r
  pub inside : inside_at group.rows p x ≡ Some a

-- two numbers are these where both tests say so
both_are : (a b m n : ℕ) → (nat_eq a m && nat_eq b n) ≡ true → (a ≡ m) × (b ≡ n)
both_are a b m n h = let k = and_parts (nat_eq a m) (nat_eq b n) h in (eqb-true a m k.0, eqb-true b n k.1)

pub group_found : (groups : List PlainGroup) (f q : ℕ) (grp : PlainGroup) → group_at groups f q ≡ Some grp
    → (grp.function ≡ f) × (grp.entered ≡ q) × ((i : ℕ) × (slice_get groups i ≡ Some grp))
group_found groups f q grp e =
    let z = found_at (λ g. nat_eq g.function f && nat_eq g.entered q) groups grp e in
    let s = both_are grp.function grp.entered f q z.0 in
    (s.0, s.1, z.1)

-- the row itself
pub row_found : (rows : List PlainRow) (p x a : ℕ) → inside_at rows p x ≡ Some a
    → (r : PlainRow) × (r.pos ≡ p) × (r.state ≡ x) × (r.inside ≡ a) × ((n : ℕ) × (slice_get rows n ≡ Some r))
row_found rows p x a e =
    let s = option_map_some (λ r. r.inside) (find (λ r. nat_eq r.pos p && nat_eq r.state x) rows) a e in
    let z = found_at (λ r. nat_eq r.pos p && nat_eq r.state x) rows s.0 s.1 in
    let b = both_are s.0.pos s.0.state p x z.0 in
    (s.0, b.0, b.1, s.2, z.1)

module _ (g : Game) where
  within_some : (n : ℕ) (o : Option ℕ) → is_within n o ≡ true → (b : ℕ) × (o ≡ Some b) × (b ≤ n)
  within_some n None h = absurd (cc)
  within_some n (Some b) h = (b, refl, omega (arith, leb-true b (cut n) h, min-le_left n 65537))

  pub within_found : (rows : List PlainRow) (n p x : ℕ) → has_within g rows n p x ≡ true → (b : ℕ) × (inside_at rows (skipped g p) x ≡ Some b) × (b ≤ n)
  within_found rows n p x h = within_some n (inside_at rows (skipped g p) x) h

  each_move : (test : Move → Bool) (by : Move) → is_step by ≡ true → list_all test (On ∷ Left ∷ Right ∷ Opened ∷ Failed ∷ []) ≡ true → test by ≡ true
  each_move test by step h =
      let a = and_parts (test On) _ h in
      let b = and_parts (test Left) _ a.1 in
      let c = and_parts (test Right) _ b.1 in
      let d = and_parts (test Opened) _ c.1 in
      let e = and_parts (test Failed) _ d.1 in
      by_step by step a.0 b.0 c.0 d.0 e.0
    where
      by_step : (by : Move) → is_step by ≡ true → test On ≡ true → test Left ≡ true → test Right ≡ true → test Opened ≡ true → test Failed ≡ true → test by ≡ true
      by_step On s a b c d e = a
      by_step Left s a b c d e = b
      by_step Right s a b c d e = c
      by_step Opened s a b c d e = d
      by_step Failed s a b c d e = e
      by_step _ s a b c d e = cc

  taken_some : (rows : List PlainRow) (n : ℕ) (o : Option Config) (c : Config) → o ≡ Some c → takes g rows n o ≡ true → has_within g rows n c.pos c.state ≡ true
  taken_some rows n o c e h = sym (ap (takes g rows n) e) ∙ h

  every : {A : Type 0} (test : A → Bool) (xs : List A) (i : ℕ) (x : A) → list_all test xs ≡ true → slice_get xs i ≡ Some x → test x ≡ true
  every test [] i x h e = absurd (none-some x e)
  every test (y ∷ xs) zero x h e = sym (ap test (same_Some y x e)) ∙ (and_parts (test y) (list_all test xs) h).0
  every test (y ∷ xs) (suc i) x h e = every test xs i x (and_parts (test y) (list_all test xs) h).1 e

  zero_some : (o : Option ℕ) → is_zero o ≡ true → o ≡ Some 0
  zero_some None h = absurd (cc)
  zero_some (Some a) h = ap (λ n. Some n) (eqb-true a 0 h)

  pub before_lower : (D : Option ℕ) (m n : ℕ) → m ≤ n → is_before D n ≡ true → is_before D m ≡ true
  before_lower None m n le h = refl
  before_lower (Some T) m n le h = lt-ltb (cut m) T (omega (arith, ltb-true (cut n) T h))

  module _ (functions : ℕ) (t : Audit) (alone : EndAlone g functions) (h : IsGoodAudit g functions t) where
    -- a row that is looked up, with what holds of it and of its group
    record Seen (f q r p x a : ℕ) : Type 0 where
      pub group : PlainGroup
      pub there : group_at t.groups f q ≡ Some group
      pub holds : GroupHolds g functions t group
      pub function : group.function ≡ f
      pub entered : group.entered ≡ q
      pub reach : group.reach ≡ r
      pub row : PlainRow
      pub row_holds : RowHolds g t group row
      pub pos : row.pos ≡ p
      pub state : row.state ≡ x
      pub inside : row.inside ≡ a
      pub number : ℕ
      pub stands : slice_get group.rows number ≡ Some row

    seen : (f q r p x a : ℕ) → RowAt t f q r p x a → Seen f q r p x a
    seen f q r p x a w =
        let z = group_found t.groups f q w.group w.there in
        let k = holds_at g functions t h z.2.0 w.group z.2.1 in
        let y = row_found w.group.rows p x a w.inside in
        record {
          group = w.group;
          there = w.there;
          holds = k;
          function = z.0;
          entered = z.1;
          reach = w.reach;
          row = y.0;
          row_holds = k.rows y.4.0 y.0 y.4.1;
          pos = y.1;
          state = y.2;
          inside = y.3;
          number = y.4.0;
          stands = y.4.1;
        }

    -- a row of a group that was looked up
    pub row_in : (f q : ℕ) (grp : PlainGroup) (p x a : ℕ) → group_at t.groups f q ≡ Some grp → inside_at grp.rows p x ≡ Some a → RowAt t f q grp.reach p x a
    row_in f q grp p x a e i = record { group = grp; there = e; reach = refl; inside = i }

    -- the row behind a group's entry
    pub entry_row : (f q : ℕ) (grp : PlainGroup) → group_at t.groups f q ≡ Some grp → RowAt t f q grp.reach (skipped g (g.entry f)) q 0
    entry_row f q grp e =
        let z = group_found t.groups f q grp e in
        let k = holds_at g functions t h z.2.0 grp z.2.1 in
        let b = and_parts (not (is_mains g grp) || nat_eq grp.reach 0) _ k.begins in
        let i = zero_some (inside_at grp.rows (skipped g (g.entry grp.function)) grp.entered) b.1 in
        row_in f q grp (skipped g (g.entry f)) q 0 e
        (subst (λ q. inside_at grp.rows (skipped g (g.entry f)) q ≡ Some 0) z.1
        (subst (λ f. inside_at grp.rows (skipped g (g.entry f)) grp.entered ≡ Some 0) z.0 i))

    main_row : RowAt t g.main g.states.start 0 (skipped g (g.entry g.main)) g.states.start 0
    main_row = by (group_at t.groups g.main g.states.start) refl (parts g functions t h).main
      where
        zero_reach : (grp : PlainGroup) → group_at t.groups g.main g.states.start ≡ Some grp → grp.reach ≡ 0
        zero_reach grp e =
            let z = group_found t.groups g.main g.states.start grp e in
            let k = holds_at g functions t h z.2.0 grp z.2.1 in
            let b = and_parts (not (is_mains g grp) || nat_eq grp.reach 0) _ k.begins in
            eqb-true grp.reach 0 (or_parts (is_mains g grp) (nat_eq grp.reach 0) b.0
            (both (nat_eq grp.function g.main) (nat_eq grp.entered g.states.start) (eq-eqb grp.function g.main z.0) (eq-eqb grp.entered g.states.start z.1)))

        by : (o : Option PlainGroup) → group_at t.groups g.main g.states.start ≡ o → is_some o ≡ true → RowAt t g.main g.states.start 0 (skipped g (g.entry g.main)) g.states.start 0
        by None e s = absurd (cc)
        by (Some grp) e s =
            subst (λ r. RowAt t g.main g.states.start r (skipped g (g.entry g.main)) g.states.start 0) (zero_reach grp e) (entry_row g.main g.states.start grp e)

    record Paired (f p : ℕ) : Type 0 where
      pub free : is_free (slice_get g.spots p) ≡ true
      pub low : g.entry f ≤ p
      pub high : p ≤ g.exit f

    paired : (f : ℕ) (r : PlainRow) → is_pair g f r ≡ true → Paired f r.pos
    paired f r e =
        let a = and_parts (is_position g r.pos) _ e in
        let b = and_parts (is_state g r.state) _ a.1 in
        let c = and_parts (nat_le (g.entry f) r.pos) _ b.1 in
        let d = and_parts (nat_le r.pos (g.exit f)) _ c.1 in
        record { free = d.1; low = leb-true (g.entry f) r.pos c.0; high = leb-true r.pos (g.exit f) d.0 }

    pair_stands : (f q r p x a : ℕ) → RowAt t f q r p x a → Paired f p
    pair_stands f q r p x a w =
        let s = seen f q r p x a w in
        subst (λ p. Paired f p) s.pos (subst (λ f. Paired f s.row.pos) s.function (paired s.group.function s.row s.row_holds.pair))

    closed_steps : (f q r p x a : ℕ) (by : Move) (c : Config) → RowAt t f q r p x a → is_inner (slice_get g.spots p) ≡ true → is_before t.distance (r + a + 1) ≡ true
        → is_step by ≡ true
        → leads_in g p x [] (slice_get g.spots p) by ≡ Some c → (b : ℕ) × RowAt t f q r (skipped g c.pos) c.state b × (b ≤ a + 1)
    closed_steps f q r p x a by c w inner before step l =
        let s = seen f q r p x a w in
        let here = λ (p : ℕ). slice_get g.spots p in
        let test = λ (by : Move). takes g s.group.rows (s.row.inside + 1) (leads_in g s.row.pos s.row.state [] (slice_get g.spots s.row.pos) by) in
        let sum : r + a + 1 ≡ s.group.reach + s.row.inside + 1 = omega (arith, s.reach, s.inside) in
        let m1 = or_parts (is_inner (slice_get g.spots s.row.pos)) _ s.row_holds.moves (ap (λ p. is_inner (slice_get g.spots p)) s.pos ∙ inner) in
        let m2 = or_parts (is_before t.distance (s.group.reach + s.row.inside + 1)) _ m1 (sym (ap (is_before t.distance) sum) ∙ before) in
        let m3 = each_move test by step m2 in
        let l2 = ap (λ p. leads_in g p s.row.state [] (slice_get g.spots p) by) s.pos ∙ ap (λ x. leads_in g p x [] (slice_get g.spots p) by) s.state ∙ l in
        let k = within_found s.group.rows (s.row.inside + 1) c.pos c.state
        (taken_some s.group.rows (s.row.inside + 1) (leads_in g s.row.pos s.row.state [] (slice_get g.spots s.row.pos) by) c l2 m3) in
        (k.0, subst (λ r. RowAt t f q r (skipped g c.pos) c.state k.0) s.reach (row_in f q s.group (skipped g c.pos) c.state k.0 s.there k.1), omega (arith, k.2, s.inside))

    -- what condition 5 says of a call
    called : (f q r p x a j m k : ℕ) (s : Seen f q r p x a) → slice_get g.spots p ≡ Some (Call j m k) → is_before t.distance (r + a + 1) ≡ true
        → (callee : PlainGroup) × (group_at t.groups m x ≡ Some callee) × (callee.reach ≤ r + a + 1)
        × (list_all (comes_back g t.distance s.group s.row m k) callee.rows ≡ true)
    called f q r p x a j m k s e before =
        let sum : r + a + 1 ≡ s.group.reach + s.row.inside + 1 = omega (arith, s.reach, s.inside) in
        let e2 : slice_get g.spots s.row.pos ≡ Some (Call j m k) = ap (slice_get g.spots) s.pos ∙ e in
        let c1 = sym (ap (calls_on g t s.group s.row) e2) ∙ s.row_holds.calls in
        let c2 = or_parts (is_before t.distance (s.group.reach + s.row.inside + 1)) (enters g t.distance s.group s.row m k (group_at t.groups m s.row.state)) c1
        (sym (ap (is_before t.distance) sum) ∙ before) in
        by (group_at t.groups m s.row.state) (ap (group_at t.groups m) s.state) c2
      where
        by : (o : Option PlainGroup) → o ≡ group_at t.groups m x → enters g t.distance s.group s.row m k o ≡ true
            → (callee : PlainGroup) × (group_at t.groups m x ≡ Some callee) × (callee.reach ≤ r + a + 1)
            × (list_all (comes_back g t.distance s.group s.row m k) callee.rows ≡ true)
        by None eo h = absurd (cc)
        by (Some callee) eo h =
            let b = and_parts (nat_le callee.reach (cut (s.group.reach + s.row.inside + 1))) _ h in
            let low = leb-true callee.reach (cut (s.group.reach + s.row.inside + 1)) b.0 in
            let least = min-le_left (s.group.reach + s.row.inside + 1) 65537 in
            (callee, sym eo, omega (arith, low, least, s.reach, s.inside), b.1)

    closed_calls : (f q r p x a j m k : ℕ) → RowAt t f q r p x a → slice_get g.spots p ≡ Some (Call j m k) → is_before t.distance (r + a + 1) ≡ true
        → (r2 : ℕ) × RowAt t m x r2 (skipped g (g.entry m)) x 0 × (r2 ≤ r + a + 1)
    closed_calls f q r p x a j m k w e before =
        let c = called f q r p x a j m k (seen f q r p x a w) e before in
        (c.0.reach, entry_row m x c.0 c.1, c.2)

    closed_returns : (f q r p x a j m k r2 y b : ℕ) → RowAt t f q r p x a → slice_get g.spots p ≡ Some (Call j m k) → RowAt t m x r2 (g.exit m) y b
        → is_before t.distance (r + a + b + 2) ≡ true → (v : ℕ) × RowAt t f q r (skipped g k) y v × (v ≤ a + b + 2)
    closed_returns f q r p x a j m k r2 y b w e last before =
        let s = seen f q r p x a w in
        let z = seen m x r2 (g.exit m) y b last in
        let c = called f q r p x a j m k s e (before_lower t.distance (r + a + 1) (r + a + b + 2) (omega arith) before) in
        let same : z.group ≡ c.0 = same_Some z.group c.0 (sym z.there ∙ c.1) in
        let rows : slice_get c.0.rows z.number ≡ Some z.row = subst (λ (grp : PlainGroup). slice_get grp.rows z.number ≡ Some z.row) same z.stands in
        let sum : r + a + b + 2 ≡ s.group.reach + s.row.inside + z.row.inside + 2 = omega (arith, s.reach, s.inside, z.inside) in
        let b1 = every (comes_back g t.distance s.group s.row m k) c.0.rows z.number z.row c.3 rows in
        let b2 = or_parts (nat_eq z.row.pos (g.exit m)) _ b1 (eq-eqb z.row.pos (g.exit m) z.pos) in
        let b3 = or_parts (is_before t.distance (s.group.reach + s.row.inside + z.row.inside + 2)) _ b2 (sym (ap (is_before t.distance) sum) ∙ before) in
        let v = within_found s.group.rows (s.row.inside + z.row.inside + 2) k z.row.state b3 in (
          v.0,
          subst (λ y. RowAt t f q r (skipped g k) y v.0) z.state
              (subst (λ r. RowAt t f q r (skipped g k) z.row.state v.0) s.reach (row_in f q s.group (skipped g k) z.row.state v.0 s.there v.1)),
          omega (arith, v.2, s.inside, z.inside),
        )

    -- The rows of a good table are closed.
    pub closed : IsClosedBy g t.distance (RowAt t)
    closed = record {
      begins = main_row;
      free = λ f q r p x a w. (pair_stands f q r p x a w).free;
      ends = λ f q r p x a k w e.
          let s = seen f q r p x a w in
          let l = pair_stands f q r p x a w in
          let there = and_parts (nat_lt s.group.function functions) _ s.holds.group in
          alone f p k (subst (λ f. f < functions) s.function (ltb-true s.group.function functions there.0)) l.low l.high e;
      good = λ f q r p x a w.
          let s = seen f q r p x a w in
          subst (λ p. bad_in g x (slice_get g.spots p) ≡ false) s.pos
          (subst (λ x. bad_in g x (slice_get g.spots s.row.pos) ≡ false) s.state (is_false (bad_in g s.row.state (slice_get g.spots s.row.pos)) s.row_holds.good));
      steps = closed_steps;
      calls = closed_calls;
      returns = closed_returns;
    }

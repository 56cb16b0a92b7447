-- What meets the numbered conditions is closed.
use Rattle.std.proofs.Common.{◌≡◌, ℕ, zero, suc, ◌+◌, ◌<◌, List, [], ◌∷◌, ◌++◌, map, length, Bool, true, false, cond, not, ◌&&◌, ◌||◌, Option, Some, None, is_some, option_map}
use Rattle.std.proofs.Common.{find, nat_eq, nat_lt, refl, sym, ap, ap₂, ◌∙◌, subst, arith, eqb-true, eq-eqb}
use Rattle.std.specs.Prelude.{slice_get}
use Rattle.std.specs.List.{list_all, list_any, enumerate_from, range_with_len}
use Rattle.std.proofs.lemmas.Option.{none-some, same_Some}
use Rattle.std.proofs.lemmas.Bool.{ltb-true, lt-ltb}
use Rattle.cw_core.specs.declared.ids.StateId.{StateId}
use Rattle.cw_core.specs.declared.ids.PosId.{PosId}
use Rattle.cw_core.specs.declared.ids.MemId.{MemId}
use Rattle.cw_rights.specs.declared.capabilities.Primitive.{Primitive}
use Rattle.cw_rights.specs.declared.capabilities.Primitive.TheVariants.{Split}
use Rattle.cw_certs.specs.declared.moves.Move.{Move}
use Rattle.cw_certs.specs.declared.moves.Move.TheVariants.{Skip, Try, Grant, Refuse, On, Left, Right, Opened, Failed}
use Rattle.cw_certs.specs.declared.rows.TryRow.{TryRow}
use Rattle.cw_certs.specs.declared.rows.AtRow.{AtRow}
use Rattle.cw_certs.specs.declared.rows.OpenRow.{OpenRow}
use Rattle.cw_certs.specs.declared.rows.IntoRow.{IntoRow}
use Rattle.cw_certs.specs.declared.rows.BackRow.{BackRow}
use Rattle.cw_certs.specs.Tables.{Table, try_at, after_at, open_at, into_at, back_at}
use Rattle.cw_certs.specs.Strategies.{How, Bad, Out, Both, Go, Into, Row, Strategy, back_of}
use Rattle.cw_game.specs.declared.spots.Spot.{Spot}
use Rattle.cw_game.specs.declared.spots.Spot.TheVariants.{Visit, Asked, Step, Branch, Label, Open, Close, Call, SplitCall, Exit}
use Rattle.cw_game.specs.Games.{Game, can_stop_in, refuses_in, returned, Config, at_pair, leads_in, bad_in, weavers_in}
use Rattle.cw_game.specs.Pairs.{has, is_live, leads, leads_if, Called, call_in, is_call_in, is_exit_in, kept_at, IsAt}
use Rattle.cw_game.specs.Closed.{leads_where, asked_ok, row_leads, open_leads, back_leads, returns_in, returns_ok, enters as enters_ok, call_ok, row_ok_in, row_ok_by, rows_ok}
use Rattle.cw_game.specs.Closed.{is_closed_table, CallsIn, HowOk, IsClosedStrategy}
use Rattle.cw_game.specs.Conditions.{first_failing, is_position, is_memory, is_live_row, is_state, is_set, means_state, takes, takes_on, takes_answers, calls_on, begins_by, begins}
use Rattle.cw_game.specs.Conditions.{back_by, returns_by, all_return, promise_of, returns_on, is_good_pair, visits_on, answers_on, moves_on, keeps_promise, fault_at, in_range, ranges}
use Rattle.cw_game.specs.Conditions.{live_by, live_conditions, live_rows, is_header, IsGoodTable, named_by, is_row, is_exit, is_row_at, stands_after, enters, is_back, are_backs}
use Rattle.cw_game.specs.Conditions.{is_violated, ends_well, weaver_moves, environment_moves, callee_stands, backs_stand, row_conditions, fault_in, all_rows, is_start, IsGoodStrategy}
use Rattle.cw_game.specs.Conditions.{is_mem_row, is_try_row, is_at_row, is_open_row, is_into_row, is_back_row, InMems, InLive, InTries, InAts, InOpened, InClosed, InInto, InBack, Part}
use Rattle.cw_game.proofs.Truths.{or_parts, not_true, neither}
use Rattle.std.proofs.lemmas.Bool.{and_parts, and_from as both, not-true as is_false}
use Rattle.cw_lemmas.proofs.Lists.{all_range, any_get as any_at}

-- Where no condition fails each holds.
pub taken : {A : Type 0} (b : Bool) (rest : Option A) (a : A) → cond b rest (Some a) ≡ None → (b ≡ true) × (rest ≡ None)
taken true rest a h = (refl, h)
taken false rest a h = absurd (none-some a (sym h))

pub none_first : {A : Type 0} (xs ys : List (A × Bool)) → first_failing (xs ++ ys) ≡ None → (first_failing xs ≡ None) × (first_failing ys ≡ None)
none_first [] ys h = (refl, h)
none_first (c ∷ xs) ys h =
    let k = taken c.1 (first_failing (xs ++ ys)) c.0 h in
    let r = none_first xs ys k.1 in
    (ap (λ b. cond b (first_failing xs) (Some c.0)) k.0 ∙ r.0, r.1)

pub unmapped : {A B : Type 0} (f : A → B) (cs : List (A × Bool)) → first_failing (map (λ c. (f c.0, c.1)) cs) ≡ None → first_failing cs ≡ None
unmapped f [] h = refl
unmapped f (c ∷ cs) h =
    let k = taken c.1 (first_failing (map (λ c. (f c.0, c.1)) cs)) (f c.0) h in
    ap (λ b. cond b (first_failing cs) (Some c.0)) k.0 ∙ unmapped f cs k.1

pub all_in : {A : Type 0} (part : Part) (test : A → Bool) (n : ℕ) (rows : List A) → first_failing (map (λ r. (fault_at part r.0 1, test r.1)) (enumerate_from n rows)) ≡ None
    → list_all test rows ≡ true
all_in part test n [] h = refl
all_in part test n (r ∷ rows) h =
    let k = taken (test r) (first_failing (map (λ r. (fault_at part r.0 1, test r.1)) (enumerate_from (n + 1) rows))) (fault_at part n 1) h in
    both (test r) (list_all test rows) k.0 (all_in part test (n + 1) rows k.1)

-- the rows of each list are in range
pub record InRange (g : Game) (t : Table) : Type 0 where
  pub mems : list_all (is_mem_row g) t.mems ≡ true
  pub live : list_all (is_live_row g t) t.live ≡ true
  pub tries : list_all (is_try_row g t) t.tries ≡ true
  pub ats : list_all (is_at_row g t) t.ats ≡ true
  pub opened : list_all (is_open_row g t) t.opened ≡ true
  pub closed : list_all (is_at_row g t) t.closed ≡ true
  pub into : list_all (is_into_row g t) t.into ≡ true
  pub back : list_all (is_back_row g t) t.back ≡ true

pub in_ranges : (g : Game) (t : Table) → first_failing (ranges g t) ≡ None → InRange g t
in_ranges g t h =
    let mems = in_range InMems (is_mem_row g) t.mems in
    let live = in_range InLive (is_live_row g t) t.live in
    let tries = in_range InTries (is_try_row g t) t.tries in
    let ats = in_range InAts (is_at_row g t) t.ats in
    let opened = in_range InOpened (is_open_row g t) t.opened in
    let closed = in_range InClosed (is_at_row g t) t.closed in
    let into = in_range InInto (is_into_row g t) t.into in
    let back = in_range InBack (is_back_row g t) t.back in
    let seven = none_first (mems ++ live ++ tries ++ ats ++ opened ++ closed ++ into) back h in
    let six = none_first (mems ++ live ++ tries ++ ats ++ opened ++ closed) into seven.0 in
    let five = none_first (mems ++ live ++ tries ++ ats ++ opened) closed six.0 in
    let four = none_first (mems ++ live ++ tries ++ ats) opened five.0 in
    let three = none_first (mems ++ live ++ tries) ats four.0 in
    let two = none_first (mems ++ live) tries three.0 in
    let one = none_first mems live two.0 in
    record {
      mems = all_in InMems (is_mem_row g) 0 t.mems one.0;
      live = all_in InLive (is_live_row g t) 0 t.live one.1;
      tries = all_in InTries (is_try_row g t) 0 t.tries two.1;
      ats = all_in InAts (is_at_row g t) 0 t.ats three.1;
      opened = all_in InOpened (is_open_row g t) 0 t.opened four.1;
      closed = all_in InClosed (is_at_row g t) 0 t.closed five.1;
      into = all_in InInto (is_into_row g t) 0 t.into six.1;
      back = all_in InBack (is_back_row g t) 0 t.back seven.1;
    }

some_at : {A : Type 0} (xs : List A) (i : ℕ) → nat_lt i (length xs) ≡ true → (x : A) × (slice_get xs i ≡ Some x)
some_at [] i h = let lt : i < 0 = ltb-true i 0 h in absurd (omega (arith, lt))
some_at (x ∷ xs) zero h = (x, refl)
some_at (x ∷ xs) (suc i) h =
    let lt : suc i < length (x ∷ xs) = ltb-true (suc i) (length (x ∷ xs)) h in
    some_at xs i (lt-ltb i (length xs) (omega (arith, lt)))

module _ (g : Game) (t : Table) where
  -- what is asked
  takes_is : (e : ℕ) (m : Option MemId) (b : Bool) (c : Config) → takes t e m (cond b (Some c) None) ≡ (not b || leads_if t c.pos m c.state e)
  takes_is e m true c = refl
  takes_is e m false c = refl

  takes_on_is : (e : ℕ) (m : Option MemId) (b : Bool) (p q : ℕ) → takes_on t e m (cond b (Some (p, q)) None) ≡ (not b || leads_where t p m q e)
  takes_on_is e None true p q = refl
  takes_on_is e (Some m) true p q = refl
  takes_on_is e None false p q = refl
  takes_on_is e (Some m) false p q = refl

  asked_is : (grants refuses stops : Bool) (cg : Config) (p q e : ℕ) (r : TryRow)
      → (takes t e r.granted (cond grants (Some cg) None) && (takes t e r.refused (cond refuses (Some (at_pair p q [])) None) && takes_on t e r.refused (cond stops (Some (p, q)) None))) ≡ true
      → asked_ok grants refuses stops t cg.pos p cg.state q e (Some r) ≡ true
  asked_is grants refuses stops cg p q e r h =
      sym (ap₂ (λ x y. x && y) (takes_is e r.granted grants cg) (ap₂ (λ x y. x && y) (takes_is e r.refused refuses (at_pair p q [])) (takes_on_is e r.refused stops p q))) ∙ h

  asked_good : (p q e j i : ℕ) (a : Primitive) (m : ℕ) (o : Option TryRow) → takes_answers g t p q e (Some (Asked j i a)) o ≡ true → o ≡ try_at t j i m
      → row_ok_in g t p m q e (Some (Asked j i a)) ≡ true
  asked_good p q e j i a m None h eo = cc
  asked_good p q e j i Split m (Some r) h eo =
      subst (λ o. asked_ok (g.states.may_grant q Split) (refuses_in g q Split) (can_stop_in g q Split) t (p + 2) (p + 1) q q e o ≡ true) eo
      (asked_is (g.states.may_grant q Split) (refuses_in g q Split) (can_stop_in g q Split) (at_pair (p + 2) q []) (p + 1) q e r h)
  asked_good p q e j i a m (Some r) h eo =
      subst (λ o. asked_ok (g.states.may_grant q a) (refuses_in g q a) (can_stop_in g q a) t (p + 1) (p + 1) (g.states.granted q a) q e o ≡ true) eo
      (asked_is (g.states.may_grant q a) (refuses_in g q a) (can_stop_in g q a) (at_pair (p + 1) (g.states.granted q a) []) (p + 1) q e r h)

  -- rows of labels, closes and opens
  at_good : (n q e : ℕ) (o : Option AtRow) → takes t e (option_map (λ r. r.after) o) (Some (at_pair n q [])) ≡ row_leads t n q e o
  at_good n q e None = refl
  at_good n q e (Some r) = refl

  open_good : (n q1 q2 e : ℕ) (o : Option OpenRow) → takes t e (option_map (λ r. r.opened) o) (Some (at_pair n q1 [])) ≡ true
      → takes t e (option_map (λ r. r.failed) o) (Some (at_pair n q2 [])) ≡ true → open_leads t n q1 q2 e o ≡ true
  open_good n q1 q2 e None h k = cc
  open_good n q1 q2 e (Some r) h k = both (leads t n r.opened.0 q1 e) (leads t n r.failed.0 q2 e) h k

  -- calls
  back_is : (c : Called) (q e : ℕ) (o : Option BackRow) → back_by t c q e o ≡ back_leads t c.back q e o
  back_is c q e None = refl
  back_is c q e (Some r) = refl

  abbrev the_call : Bool → ℕ → ℕ → ℕ → Called
  the_call split j f n = record { seam = j; function = f; back = n; split = split }

  returns_is : (split : Bool) (j f n m q e promise : ℕ) (o : Option (StateId × ℕ)) → returns_by g t q m e (the_call split j f n) promise o ≡ returns_in g t j (kept_at split q) m n e promise o
  returns_is split j f n m q e promise None = refl
  returns_is true j f n m q e promise (Some r) = ap (λ b. not (nat_eq r.1 promise) || b) (back_is (the_call true j f n) (returned g.states (Some q) r.0.0) e (back_at t j true m r.0.0))
  returns_is false j f n m q e promise (Some r) = ap (λ b. not (nat_eq r.1 promise) || b) (back_is (the_call false j f n) (returned g.states None r.0.0) e (back_at t j false m r.0.0))

  returns_good : (split : Bool) (j f n m q e promise : ℕ) (rows : List (PosId × MemId))
      → list_all (λ r. not (nat_eq r.0.0 (g.exit f)) || returns_by g t q m e (the_call split j f n) promise (slice_get t.mems r.1.0)) rows ≡ true
      → returns_ok g t j (kept_at split q) m n (g.exit f) e promise rows ≡ true
  returns_good split j f n m q e promise [] h = refl
  returns_good split j f n m q e promise (r ∷ rows) h =
      let here = not (nat_eq r.0.0 (g.exit f)) || returns_by g t q m e (the_call split j f n) promise (slice_get t.mems r.1.0) in
      let k = and_parts here (list_all (λ r. not (nat_eq r.0.0 (g.exit f)) || returns_by g t q m e (the_call split j f n) promise (slice_get t.mems r.1.0)) rows) h in
      both (not (nat_eq r.0.0 (g.exit f)) || returns_in g t j (kept_at split q) m n e promise (slice_get t.mems r.1.0)) (returns_ok g t j (kept_at split q) m n (g.exit f) e promise rows)
      (sym (ap (λ b. not (nat_eq r.0.0 (g.exit f)) || b) (returns_is split j f n m q e promise (slice_get t.mems r.1.0))) ∙ k.0)
      (returns_good split j f n m q e promise rows k.1)

  enters_good : (split : Bool) (j f n m q e : ℕ) (r : IntoRow) (o : Option (StateId × ℕ)) → slice_get t.mems r.callee.0 ≡ o → begins_by g t q (the_call split j f n) (Some r) ≡ true
      → all_return g t q m e (the_call split j f n) (promise_of t (Some r)) ≡ true → enters_ok g t j (kept_at split q) m n f q e r.callee.0 (slice_get t.mems r.callee.0) ≡ true
  enters_good split j f n m q e r None eo h k = cc
  enters_good split j f n m q e r (Some r2) eo h k =
      let live = is_live t (g.entry f) r.callee.0 in
      let h2 : (nat_eq r2.0.0 q && live) ≡ true = sym (ap (λ o. means_state o q && live) eo) ∙ h in
      let w = and_parts (nat_eq r2.0.0 q) live h2 in
      let k2 = sym (ap (λ o. all_return g t q m e (the_call split j f n) (option_map (λ meant. meant.1) o)) eo) ∙ k in
      subst (λ o. enters_ok g t j (kept_at split q) m n f q e r.callee.0 o ≡ true) (sym eo)
      (both (nat_eq r2.0.0 q) (live && returns_ok g t j (kept_at split q) m n (g.exit f) e r2.1 t.live) w.0
      (both live (returns_ok g t j (kept_at split q) m n (g.exit f) e r2.1 t.live) w.1 (returns_good split j f n m q e r2.1 t.live k2)))

  call_good : (split : Bool) (j f n m q e : ℕ) (o : Option IntoRow) → begins_by g t q (the_call split j f n) o ≡ true → all_return g t q m e (the_call split j f n) (promise_of t o) ≡ true
      → call_ok g t j (kept_at split q) m n f q e o ≡ true
  call_good split j f n m q e None h k = cc
  call_good split j f n m q e (Some r) h k = enters_good split j f n m q e r (slice_get t.mems r.callee.0) refl h k

  -- a live row, by what stands at its position
  spot_good : (p m q e : ℕ) (s : Spot) → is_good_pair g q (Some s) ≡ true → visits_on t p m (Some s) ≡ true → answers_on g t p q m e (Some s) ≡ true → moves_on g t p q m e (Some s) ≡ true
      → calls_on g t q m (call_in (Some s)) ≡ true → returns_on g t q m e (call_in (Some s)) ≡ true → keeps_promise g q e (Some s) ≡ true → row_ok_in g t p m q e (Some s) ≡ true
  spot_good p m q e (Visit j i a) c3 c4 c5 c6 c7 c8 c9 = c4
  spot_good p m q e (Asked j i a) c3 c4 c5 c6 c7 c8 c9 = asked_good p q e j i a m (try_at t j i m) c5 refl
  spot_good p m q e (Step n) c3 c4 c5 c6 c7 c8 c9 = (and_parts _ _ (and_parts _ _ c6).0).1
  spot_good p m q e (Branch left right) c3 c4 c5 c6 c7 c8 c9 =
      let k = and_parts (leads t left m q e) _ c6 in
      let k2 = and_parts (leads t right m q e) _ k.1 in
      both (is_live t left m) (is_live t right m) (and_parts _ _ k.0).1 (and_parts _ _ k2.0).1
  spot_good p m q e (Label j l n) c3 c4 c5 c6 c7 c8 c9 =
      both (not (g.states.bad q l)) (row_leads t n (g.states.lettered q l) e (after_at t.ats j m)) c3 (sym (at_good n (g.states.lettered q l) e (after_at t.ats j m)) ∙ (and_parts _ _ c6).0)
  spot_good p m q e (Open j d n) c3 c4 c5 c6 c7 c8 c9 =
      let k = and_parts (takes t e (option_map (λ r. r.opened) (open_at t j m)) (Some (at_pair n (g.states.opened q d) []))) _ c6 in
      let k2 = and_parts (takes t e (option_map (λ r. r.failed) (open_at t j m)) (Some (at_pair n (g.states.closed q d) []))) _ k.1 in
      open_good n (g.states.opened q d) (g.states.closed q d) e (open_at t j m) k.0 k2.0
  spot_good p m q e (Close j d n) c3 c4 c5 c6 c7 c8 c9 = sym (at_good n (g.states.closed q d) e (after_at t.closed j m)) ∙ (and_parts _ _ c6).0
  spot_good p m q e (Call j f n) c3 c4 c5 c6 c7 c8 c9 = call_good false j f n m q e (into_at t j false m) c7 c8
  spot_good p m q e (SplitCall j f n) c3 c4 c5 c6 c7 c8 c9 = call_good true j f n m q e (into_at t j true m) c7 c8
  spot_good p m q e (Exit f) c3 c4 c5 c6 c7 c8 c9 = c9

  conditions_good : (p m q e : ℕ) (s : Spot) → first_failing (live_conditions g t p q m e (Some s)) ≡ None → row_ok_in g t p m q e (Some s) ≡ true
  conditions_good p m q e s h =
      let k3 = taken (is_good_pair g q (Some s)) _ 3 h in
      let k4 = taken (visits_on t p m (Some s)) _ 4 k3.1 in
      let k5 = taken (answers_on g t p q m e (Some s)) _ 5 k4.1 in
      let k6 = taken (moves_on g t p q m e (Some s)) _ 6 k5.1 in
      let k7 = taken (calls_on g t q m (call_in (Some s))) _ 7 k6.1 in
      let k8 = taken (returns_on g t q m e (call_in (Some s))) _ 8 k7.1 in
      let k9 = taken (keeps_promise g q e (Some s)) _ 9 k8.1 in
      spot_good p m q e s k3.0 k4.0 k5.0 k6.0 k7.0 k8.0 k9.0

  row_good : (p m : ℕ) (r : StateId × ℕ) (o : Option (StateId × ℕ)) → o ≡ Some r → nat_lt p (length g.spots) ≡ true → first_failing (live_by g t p m o) ≡ None → row_ok_by g t p m o ≡ true
  row_good p m r None eo lt h = absurd (none-some r eo)
  row_good p m r (Some r2) eo lt h =
      let s = some_at g.spots p lt in
      subst (λ o. first_failing (live_conditions g t p r2.0.0 m r2.1 o) ≡ None → row_ok_in g t p m r2.0.0 r2.1 o ≡ true) (sym s.1) (λ k. conditions_good p m r2.0.0 r2.1 s.0 k) h

  rows_good : (n : ℕ) (rows : List (PosId × MemId)) → list_all (is_live_row g t) rows ≡ true → first_failing (live_rows g t (enumerate_from n rows)) ≡ None → rows_ok g t rows ≡ true
  rows_good n [] lt h = refl
  rows_good n (r ∷ rows) lt h =
      let l = and_parts (is_live_row g t r) (list_all (is_live_row g t) rows) lt in
      let k = none_first (map (λ c. (fault_at InLive n c.0, c.1)) (live_by g t r.0.0 r.1.0 (slice_get t.mems r.1.0))) (live_rows g t (enumerate_from (n + 1) rows)) h in
      let w = and_parts (is_position g r.0.0) (is_memory t r.1) l.0 in
      let m = some_at t.mems r.1.0 w.1 in
      both (row_ok_by g t r.0.0 r.1.0 (slice_get t.mems r.1.0)) (rows_ok g t rows)
      (row_good r.0.0 r.1.0 m.0 (slice_get t.mems r.1.0) m.1 w.0 (unmapped (λ c. fault_at InLive n c) (live_by g t r.0.0 r.1.0 (slice_get t.mems r.1.0)) k.0))
      (rows_good (n + 1) rows l.1 k.1)

  -- A good table is closed.
  pub good_closed : IsGoodTable g t → is_closed_table g t ≡ true
  good_closed h =
      let k = taken (is_header g t) _ (fault_at InMems 0 1) h in
      let r = none_first (ranges g t) ((fault_at InLive 0 2, begins g t) ∷ live_rows g t (enumerate_from 0 t.live)) k.1 in
      let b = taken (begins g t) _ (fault_at InLive 0 2) r.1 in
      both (begins g t) (rows_ok g t t.live) b.0 (rows_good 0 t.live (in_ranges g t r.0).live b.1)

module _ (g : Game) (s : Strategy) where
  stands_at : (row p q e : ℕ) (r : Row) → slice_get s.rows row ≡ Some r → (nat_eq r.pos p && (nat_eq r.state q && nat_eq r.aim e)) ≡ true → IsAt s row p q e
  stands_at row p q e r er h =
      let k = and_parts (nat_eq r.pos p) (nat_eq r.state q && nat_eq r.aim e) h in
      let k2 = and_parts (nat_eq r.state q) (nat_eq r.aim e) k.1 in (
        r.how,
        er ∙ ap (λ (p : ℕ). Some (record { pos = p; state = r.state; aim = r.aim; how = r.how })) (eqb-true r.pos p k.0)
            ∙ ap₂ (λ (q e : ℕ). Some (record { pos = p; state = q; aim = e; how = r.how })) (eqb-true r.state q k2.0) (eqb-true r.aim e k2.1),
      )

  row_stands : (row p q e : ℕ) (o : Option Row) → slice_get s.rows row ≡ o → is_row_at p q e o ≡ true → IsAt s row p q e
  row_stands row p q e None eo h = cc
  row_stands row p q e (Some r) eo h = stands_at row p q e r eo h

  after_stands : (row e : ℕ) (o : Option Config) → stands_after s row e o ≡ true → (c : Config) × (o ≡ Some c) × IsAt s row c.pos c.state e
  after_stands row e None h = cc
  after_stands row e (Some c) h = (c, refl, row_stands row c.pos c.state e (slice_get s.rows row) refl h)

  exit_at : (o : Option Spot) → is_exit g o ≡ true → (f : ℕ) × (o ≡ Some (Exit f)) × (f ≡ g.main → ⊥)
  exit_at (Some (Exit f)) h = (f, refl, λ e. not_true (nat_eq f g.main) h (eq-eqb f g.main e))
  exit_at _ h = cc

  visit_at : (p q e skip tried : ℕ) (o : Option Spot) → weavers_in o ≡ true → stands_after s skip e (leads_in g p q [] o Skip) ≡ true
      → stands_after s tried e (leads_in g p q [] o Try) ≡ true → IsAt s skip (p + 2) q e × IsAt s tried (p + 1) q e
  visit_at p q e skip tried (Some (Visit j i a)) w h k = (row_stands skip (p + 2) q e (slice_get s.rows skip) refl h, row_stands tried (p + 1) q e (slice_get s.rows tried) refl k)
  visit_at p q e skip tried _ w h k = cc

  -- a move that calls nothing leaves the returns
  rets_of : (yes : Bool) (c d : Config) → cond yes (Some c) None ≡ Some d → c.rets ≡ [] → d.rets ≡ []
  rets_of true c d e r = ap (λ (c : Config). c.rets) (sym (same_Some c d e)) ∙ r
  rets_of false c d e r = absurd (none-some d e)

  rets_stay : (p q : ℕ) (o : Option Spot) (by : Move) (c : Config) → is_call_in o ≡ false → leads_in g p q [] o by ≡ Some c → c.rets ≡ []
  rets_stay p q (Some (Visit j i a)) Skip c y e = rets_of true (at_pair (p + 2) q []) c e refl
  rets_stay p q (Some (Visit j i a)) Try c y e = rets_of true (at_pair (p + 1) q []) c e refl
  rets_stay p q (Some (Asked j i Split)) Grant c y e = rets_of (g.states.may_grant q Split) (at_pair (p + 2) q []) c e refl
  rets_stay p q (Some (Asked j i a)) Grant c y e = rets_of (g.states.may_grant q _) (at_pair (p + 1) (g.states.granted q _) []) c e refl
  rets_stay p q (Some (Asked j i a)) Refuse c y e = rets_of (refuses_in g q a) (at_pair (p + 1) q []) c e refl
  rets_stay p q (Some (Step n)) On c y e = rets_of true (at_pair n q []) c e refl
  rets_stay p q (Some (Branch m n)) Left c y e = rets_of true (at_pair m q []) c e refl
  rets_stay p q (Some (Branch m n)) Right c y e = rets_of true (at_pair n q []) c e refl
  rets_stay p q (Some (Label j l n)) On c y e = rets_of true (at_pair n (g.states.lettered q l) []) c e refl
  rets_stay p q (Some (Open j d n)) Opened c y e = rets_of true (at_pair n (g.states.opened q d) []) c e refl
  rets_stay p q (Some (Open j d n)) Failed c y e = rets_of true (at_pair n (g.states.closed q d) []) c e refl
  rets_stay p q (Some (Close j d n)) On c y e = rets_of true (at_pair n (g.states.closed q d) []) c e refl
  rets_stay p q (Some (Call j f n)) by c y e = cc
  rets_stay p q (Some (SplitCall j f n)) by c y e = cc
  rets_stay p q _ _ c y e = absurd (none-some c e)

  -- the back for an exit state
  back_found : (test : ℕ × ℕ → Bool) (i : ℕ) (backs : List (ℕ × ℕ)) (x : ℕ) → list_all test backs ≡ true → list_all (λ n. nat_lt n i) (map (λ b. b.1) backs) ≡ true
      → is_some (back_of backs x) ≡ true → (b : ℕ) × (back_of backs x ≡ Some b) × (b < i) × (test (x, b) ≡ true)
  back_found test i [] x h l y = cc
  back_found test i (b ∷ backs) x h l y = by (nat_eq b.0 x) refl y (back_found test i backs x h2.1 l2.1)
    where
      h2 : (test b ≡ true) × (list_all test backs ≡ true)
      h2 = and_parts (test b) (list_all test backs) h

      l2 : (nat_lt b.1 i ≡ true) × (list_all (λ n. nat_lt n i) (map (λ b. b.1) backs) ≡ true)
      l2 = and_parts (nat_lt b.1 i) (list_all (λ n. nat_lt n i) (map (λ b. b.1) backs)) l

      by : (yes : Bool) → nat_eq b.0 x ≡ yes → is_some (option_map (λ b. b.1) (cond yes (Some b) (find (λ b. nat_eq b.0 x) backs))) ≡ true
          → (is_some (back_of backs x) ≡ true → (c : ℕ) × (back_of backs x ≡ Some c) × (c < i) × (test (x, c) ≡ true))
          → (c : ℕ) × (back_of (b ∷ backs) x ≡ Some c) × (c < i) × (test (x, c) ≡ true)
      by true e y rec = (b.1, ap (λ yes. option_map (λ b. b.1) (cond yes (Some b) (find (λ b. nat_eq b.0 x) backs))) e, ltb-true b.1 i l2.0, ap (λ x. test (x, b.1)) (sym (eqb-true b.0 x e)) ∙ h2.0)
      by false e y rec =
          let z = rec y in
          (z.0, ap (λ yes. option_map (λ b. b.1) (cond yes (Some b) (find (λ b. nat_eq b.0 x) backs))) e ∙ z.1, z.2, z.3)

  calls_at : (q : ℕ) (o : Option Spot) (c : Called) → call_in o ≡ Some c → CallsIn q o c.function c.back (kept_at c.split q)
  calls_at q (Some (Call j f n)) c e = subst (λ (c : Called). CallsIn q (Some (Call j f n)) c.function c.back (kept_at c.split q)) (same_Some _ c e) (refl, refl, refl)
  calls_at q (Some (SplitCall j f n)) c e = subst (λ (c : Called). CallsIn q (Some (SplitCall j f n)) c.function c.back (kept_at c.split q)) (same_Some _ c e) (refl, refl, refl)
  calls_at q _ c e = absurd (none-some c e)

  abbrev Entered : ℕ → ℕ → ℕ → ℕ → List (ℕ × ℕ) → Option Spot → Type 0
  Entered i q e callee backs spot =
      (f : ℕ) × (n : ℕ) × (kept : Option ℕ) × (aim : ℕ) × CallsIn q spot f n kept × IsAt s callee (g.entry f) q aim
      × ((x : ℕ) → x < g.states.count → has aim x ≡ true → (b : ℕ) × (back_of backs x ≡ Some b) × (b < i) × IsAt s b n (returned g.states kept x) e)

  into_good : (i q e callee : ℕ) (backs : List (ℕ × ℕ)) (spot : Option Spot) (o : Option Called) (r : Option Row) → call_in spot ≡ o → slice_get s.rows callee ≡ r
      → list_all (λ n. nat_lt n i) (map (λ b. b.1) backs) ≡ true → enters g q o r ≡ true → are_backs g s q e backs o r ≡ true → Entered i q e callee backs spot
  into_good i q e callee backs spot None r eo er l h k = cc
  into_good i q e callee backs spot (Some c) None eo er l h k = cc
  into_good i q e callee backs spot (Some c) (Some r) eo er l h k =
      let covered : ℕ → Bool = λ x. not (has r.aim x) || is_some (back_of backs x) in
      let w = and_parts (list_all covered (range_with_len 0 g.states.count)) (list_all (is_back g s q e c r.aim) backs) k in
      let z = and_parts (nat_eq r.pos (g.entry c.function)) (nat_eq r.state q) h in (
        c.function,
        c.back,
        kept_at c.split q,
        r.aim,
        calls_at q spot c eo,
        stands_at callee (g.entry c.function) q r.aim r er (both (nat_eq r.pos (g.entry c.function)) (nat_eq r.state q && nat_eq r.aim r.aim) z.0
            (both (nat_eq r.state q) (nat_eq r.aim r.aim) z.1 (eq-eqb r.aim r.aim refl))),
        λ x below member.
            let y = or_parts (has r.aim x) (is_some (back_of backs x)) (all_range covered 0 g.states.count w.0 x (omega arith) (omega (arith, below))) member in
            let b = back_found (is_back g s q e c r.aim) i backs x w.1 l y in (
              b.0,
              b.1,
              b.2,
              row_stands b.0 c.back (returned g.states (kept_at c.split q) x) e (slice_get s.rows b.0) refl
                  (and_parts (has r.aim x) (is_row_at c.back (returned g.states (kept_at c.split q) x) e (slice_get s.rows b.0)) b.3).1,
            ),
      )

  abbrev row_in : ℕ → ℕ → ℕ → How → Row
  row_in p q e how = record { pos = p; state = q; aim = e; how = how }

  -- the seven conditions of a row
  seven : (i p q e : ℕ) (how : How) → first_failing (row_conditions g s i (row_in p q e how) (slice_get g.spots p)) ≡ None
      → let spot = slice_get g.spots p in
      (list_all (λ n. nat_lt n i) (named_by how) ≡ true) × (is_violated g q spot how ≡ true) × (ends_well g q e spot how ≡ true) × (weaver_moves g s p q e spot how ≡ true)
      × (environment_moves g s p q e spot how ≡ true) × (callee_stands g s q (call_in spot) how ≡ true) × (backs_stand g s q e (call_in spot) how ≡ true)
  seven i p q e how h =
      let spot = slice_get g.spots p in
      let k1 = taken (is_row g i (row_in p q e how)) _ 1 h in
      let k2 = taken (is_violated g q spot how) _ 2 k1.1 in
      let k3 = taken (ends_well g q e spot how) _ 3 k2.1 in
      let k4 = taken (weaver_moves g s p q e spot how) _ 4 k3.1 in
      let k5 = taken (environment_moves g s p q e spot how) _ 5 k4.1 in
      let k6 = taken (callee_stands g s q (call_in spot) how) _ 6 k5.1 in
      let k7 = taken (backs_stand g s q e (call_in spot) how) _ 7 k6.1 in
      let a1 = and_parts (is_position g p) _ k1.0 in
      let a2 = and_parts (is_state g q) _ a1.1 in
      let a3 = and_parts (is_set g e) _ a2.1 in
      ((and_parts (list_all (λ n. nat_lt n i) (named_by how)) _ a3.1).0, k2.0, k3.0, k4.0, k5.0, k6.0, k7.0)

  first_named : (i n : ℕ) (ns : List ℕ) → list_all (λ n. nat_lt n i) (n ∷ ns) ≡ true → (n < i) × (list_all (λ n. nat_lt n i) ns ≡ true)
  first_named i n ns h = let k = and_parts (nat_lt n i) (list_all (λ n. nat_lt n i) ns) h in (ltb-true n i k.0, k.1)

  how_good : (i p q e : ℕ) (how : How) → first_failing (row_conditions g s i (row_in p q e how) (slice_get g.spots p)) ≡ None → HowOk g s i p q e how
  how_good i p q e Bad h = (seven i p q e Bad h).1
  how_good i p q e Out h =
      let k = and_parts (is_exit g (slice_get g.spots p)) (has e q) (seven i p q e Out h).2 in
      let x = exit_at (slice_get g.spots p) k.0 in
      (x.0, x.1, x.2, k.1)
  how_good i p q e (Both skip tried) h =
      let k = seven i p q e (Both skip tried) h in
      let spot = slice_get g.spots p in
      let n1 = first_named i skip (tried ∷ []) k.0 in
      let n2 = first_named i tried [] n1.1 in
      let w = and_parts (weavers_in spot) _ k.3 in
      let w2 = and_parts (stands_after s skip e (leads_in g p q [] spot Skip)) (stands_after s tried e (leads_in g p q [] spot Try)) w.1 in
      let z = visit_at p q e skip tried spot w.0 w2.0 w2.1 in
      (n1.0, n2.0, w.0, z.0, z.1)
  how_good i p q e (Go by row) h =
      let k = seven i p q e (Go by row) h in
      let spot = slice_get g.spots p in
      let n1 = first_named i row [] k.0 in
      let w = and_parts (not (weavers_in spot || (is_call_in spot || (is_exit_in spot || bad_in g q spot)))) (stands_after s row e (leads_in g p q [] spot by)) k.4 in
      let u1 = neither (weavers_in spot) _ w.0 in
      let u2 = neither (is_call_in spot) _ u1.1 in
      let u3 = neither (is_exit_in spot) (bad_in g q spot) u2.1 in
      let z = after_stands row e (leads_in g p q [] spot by) w.1 in
      let r = rets_stay p q spot by z.0 u2.0 z.1 in
      (n1.0, (u1.0, is_false (bad_in g q spot) u3.1, u2.0, u3.0), (z.0.pos, z.0.state, z.1 ∙ ap (λ rets. Some (at_pair z.0.pos z.0.state rets)) r, z.2))
  how_good i p q e (Into callee backs) h =
      let k = seven i p q e (Into callee backs) h in
      let n1 = first_named i callee (map (λ b. b.1) backs) k.0 in
      (n1.0, into_good i q e callee backs (slice_get g.spots p) (call_in (slice_get g.spots p)) (slice_get s.rows callee) refl refl n1.1 k.5 k.6)

  pub rows_hold : (n : ℕ) (rows : List Row) → first_failing (all_rows g s (enumerate_from n rows)) ≡ None → (i : ℕ) (r : Row) → slice_get rows i ≡ Some r
      → first_failing (row_conditions g s (n + i) r (slice_get g.spots r.pos)) ≡ None
  rows_hold n [] h i r e = absurd (none-some r e)
  rows_hold n (y ∷ rows) h zero r e =
      let k = none_first (map (λ c. (fault_in n c.0, c.1)) (row_conditions g s n y (slice_get g.spots y.pos))) (all_rows g s (enumerate_from (n + 1) rows)) h in
      let z = unmapped (λ c. fault_in n c) (row_conditions g s n y (slice_get g.spots y.pos)) k.0 in
      subst (λ (m : ℕ). first_failing (row_conditions g s m r (slice_get g.spots r.pos)) ≡ None) (omega arith)
      (subst (λ (y : Row). first_failing (row_conditions g s n y (slice_get g.spots y.pos)) ≡ None) (same_Some y r e) z)
  rows_hold n (y ∷ rows) h (suc i) r e =
      let k = none_first (map (λ c. (fault_in n c.0, c.1)) (row_conditions g s n y (slice_get g.spots y.pos))) (all_rows g s (enumerate_from (n + 1) rows)) h in
      subst (λ (m : ℕ). first_failing (row_conditions g s m r (slice_get g.spots r.pos)) ≡ None) (omega arith) (rows_hold (n + 1) rows k.1 i r e)

  pub parts : IsGoodStrategy g s → (first_failing (all_rows g s (enumerate_from 0 s.rows)) ≡ None) × (list_any (is_start g) s.rows ≡ true)
  parts h =
      let k = taken (nat_eq s.states g.states.count) _ (fault_in 0 1) h in
      let r = none_first (all_rows g s (enumerate_from 0 s.rows)) ((fault_in (length s.rows) 8, list_any (is_start g) s.rows) ∷ []) k.1 in
      (r.0, (taken (list_any (is_start g) s.rows) None (fault_in (length s.rows) 8) r.1).0)

  -- A good strategy is closed, and some row stands at the start with an empty aim.
  pub good_strategy_closed : IsGoodStrategy g s → IsClosedStrategy g s
  good_strategy_closed h i r e =
      let k = rows_hold 0 s.rows (parts h).0 i r e in
      how_good i r.pos r.state r.aim r.how (subst (λ (m : ℕ). first_failing (row_conditions g s m r (slice_get g.spots r.pos)) ≡ None) (omega arith) k)

  pub good_strategy_starts : IsGoodStrategy g s → (row : ℕ) × IsAt s row (g.entry g.main) g.states.start 0
  good_strategy_starts h =
      let z = any_at (is_start g) s.rows (parts h).1 in
      (z.0, stands_at z.0 (g.entry g.main) g.states.start 0 z.1 z.2 z.3)

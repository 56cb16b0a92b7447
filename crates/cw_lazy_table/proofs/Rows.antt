-- The conditions of the live rows of the lazy table: visits, calls and returns, and all of them.
use Rattle.std.proofs.Common.{◌≡◌, ◌⊎◌, inl, inr, ℕ, ◌+◌, List, [], ◌∷◌, map, Bool, true, false, cond, not, ◌||◌, Option, Some, None, is_some, option_map, nat_eq, refl, sym, ap}
use Rattle.std.proofs.Common.{◌∙◌, subst, eqb-true, eq-eqb}
use Rattle.std.specs.Prelude.{slice_get}
use Rattle.std.specs.List.{enumerate_from, Contains}
use Rattle.cw_core.specs.declared.ids.MemId.{MemId}
use Rattle.cw_core.specs.declared.ids.PosId.{PosId}
use Rattle.cw_certs.specs.declared.rows.IntoRow.{IntoRow}
use Rattle.cw_certs.specs.Tables.{Table, try_at, into_at, back_at}
use Rattle.cw_game.specs.declared.spots.Spot.{Spot}
use Rattle.cw_game.specs.declared.spots.Spot.TheVariants.{Visit}
use Rattle.cw_game.specs.Games.{Game, returned, IsLost}
use Rattle.cw_game.specs.Pairs.{has, all_states, is_live, Called, call_in, kept_at}
use Rattle.cw_game.specs.Conditions.{first_failing, visits_on, begins_by, calls_on, promise_of, means_state, returns_by, all_return, returns_on, back_by, live_conditions, live_by}
use Rattle.cw_game.specs.Conditions.{live_rows, fault_at, InLive, Part}
use Rattle.cw_game.proofs.Failing.{none_more, none_append, none_mapped}
use Rattle.std.proofs.lemmas.Bool.{and_from as both}
use Rattle.cw_lemmas.proofs.Truths.{implied}
use Rattle.cw_product.specs.Routed.{IsState, targets, AreRouted}
use Rattle.cw_solve.proofs.Still.{first_of_two}
use Rattle.cw_points.specs.Graphs.{seam_id}
use Rattle.cw_lazy_table.specs.Live.{IsFull, IsLive, skips, tries, calls, returns}
use Rattle.cw_lazy_table.specs.Lazy.{state_id, Means, IsLiveRow, IsCalled, IsLazyTable}
use Rattle.cw_lazy_table.specs.Staged.{AreStaged, IsKnown}
use Rattle.cw_lazy_table.proofs.Finding.{In, of_in}
use Rattle.cw_lazy_table.proofs.Keeping.{IsSafe, safe}
use Rattle.cw_lazy_table.proofs.Knowing.{full_there}
use Rattle.cw_lazy_table.proofs.Only.{tries_lost, called_is, into_is}
use Rattle.cw_lazy_table.proofs.Meeting.{all_pass, leads_to, asked_there, is_good, answers_good, moves_good, promise_good}
use Rattle.cw_lazy_table.proofs.Reading.{means_to, live_to, memory, into_to, back_of, back_to}
use Rattle.cw_lazy_table.specs.Rowing.{mem_id}

-- no condition fails
pub none_in_range : {A : Type 0} (part : Part) (test : A → Bool) (n : ℕ) (rows : List A) → ((r : A) → In rows r → test r ≡ true)
    → first_failing (map (λ r. (fault_at part r.0 1, test r.1)) (enumerate_from n rows)) ≡ None
none_in_range part test n [] h = refl
none_in_range part test n (r ∷ rows) h = none_more (test r) _ (fault_at part n 1) (h r (inl refl)) (none_in_range part test (n + 1) rows (λ x i. h x (inr i)))

module _ (g : Game) (functions : ℕ) (routed : AreRouted g functions) (staged : AreStaged g) (first : IsState g g.states.start)
    (start : IsLost g (g.entry g.main) g.states.start (has (all_states g)) → ⊥)
    (known : IsKnown g) (t : Table) (lazy : IsLazyTable g t) where
  -- 4
  visits_good : (p m q e : ℕ) → IsLive g p q e → Means t.mems m q e → (o : Option Spot) → slice_get g.spots p ≡ o → visits_on t p m o ≡ true
  visits_good p m q e live meant (Some (Visit j i a)) es = by (is_some (try_at t j i m)) refl
    where
      here : IsSafe g functions p q e
      here = safe g functions routed staged first start p q e live

      lost_on : IsLost g (p + 2) q (has e) → IsLive g (p + 1) q e
      lost_on l = tries p q e j i a live es l

      row : IsLost g (p + 2) q (has e) → is_some (try_at t j i m) ≡ true
      row l = let z = asked_there g functions routed staged first start known t lazy (p + 1) m q e (lost_on l) meant j i a (staged.behind p j i a es) in ap is_some z.1

      skip : is_some (try_at t j i m) ≡ false → IsLost g (p + 2) q (has e) ⊎ (IsLost g (p + 2) q (has e) → ⊥) → is_live t (p + 2) m ≡ true
      skip f (inl l) = let w : true ≡ false = sym (row l) ∙ f in cc
      skip f (inr n) = live_to g t lazy (p + 2) m q e (skips p q e j i a live es n) meant

      by : (b : Bool) → is_some (try_at t j i m) ≡ b → is_live t (cond (is_some (try_at t j i m)) (p + 1) (p + 2)) m ≡ true
      by true k = subst (λ b. is_live t (cond b (p + 1) (p + 2)) m ≡ true) (sym k)
          (live_to g t lazy (p + 1) m q e (lost_on (tries_lost g functions routed staged first start t lazy p m q e j i a
          (live_to g t lazy p m q e live meant, means_to (slice_get t.mems m) q e meant) es k)) meant)
      by false k = subst (λ b. is_live t (cond b (p + 1) (p + 2)) m ≡ true) (sym k)
          (skip k (known here.function (p + 2) q e here.needed
          (routed.stays here.function p (p + 2) here.below here.of (subst (λ o. Contains (targets p o) (p + 2)) (sym es) (first_of_two (p + 2) (p + 1)))) here.state))
  visits_good p m q e live meant _ es = refl

  -- the row of a call
  record IsEntered (p m q e : ℕ) (call : Called) : Type 0 where
    pub row : IntoRow
    pub is : into_at t call.seam call.split m ≡ Some row
    pub set : ℕ
    pub full : IsFull g call q e set
    pub callee : Means t.mems row.callee.0 q set

  abbrev called : (p m q e : ℕ) (call : Called) (set : ℕ) → IsLive g p q e → Means t.mems m q e → call_in (slice_get g.spots p) ≡ Some call → IsFull g call q e set
      → IsCalled g t.mems call.seam call.split m
  called p m q e call set live meant es f = record { pos = p; state = q; promise = e; call = call; set = set; live = live; is_call = es; seams = refl; modes = refl; meant = meant; full = f }

  entered : (p m q e : ℕ) → IsLive g p q e → Means t.mems m q e → (call : Called) → call_in (slice_get g.spots p) ≡ Some call → IsEntered p m q e call
  entered p m q e live meant call es =
      let f = full_there g functions routed known p q e call (safe g functions routed staged first start p q e live) es in
      let b = memory g t lazy (g.entry call.function) q f.0 (calls p q e f.0 call live es f.1) in
      let z = into_to g t lazy (record { seam = seam_id call.seam; split = call.split; mem = mem_id m; callee = mem_id b.0 })
      (record { called = called p m q e call f.0 live meant es f.1; callee = b.2 }) in
      let w = into_is g functions routed staged first start t lazy p m q e call z.0 meant es z.1 in
      record { row = z.0; is = z.1; set = w.0; full = w.1; callee = w.2 }

  -- 7
  calls_good : (p m q e : ℕ) → IsLive g p q e → Means t.mems m q e → (o : Option Called) → call_in (slice_get g.spots p) ≡ o → calls_on g t q m o ≡ true
  calls_good p m q e live meant None es = refl
  calls_good p m q e live meant (Some call) es =
      let z = entered p m q e live meant call es in
      subst (λ o. begins_by g t q call o ≡ true) (sym z.is)
      (both (means_state (slice_get t.mems z.row.callee.0) q) (is_live t (g.entry call.function) z.row.callee.0)
      (subst (λ o. means_state o q ≡ true) (sym z.callee) (eq-eqb q q refl))
      (live_to g t lazy (g.entry call.function) z.row.callee.0 q z.set (calls p q e z.set call live es z.full) z.callee))

  -- a way back
  back_good : (p m q e : ℕ) → IsLive g p q e → Means t.mems m q e → (call : Called) → call_in (slice_get g.spots p) ≡ Some call → (set x : ℕ) → IsFull g call q e set
      → IsLive g (g.exit call.function) x set
      → back_by t call (returned g.states (kept_at call.split q) x) e (back_at t call.seam call.split m x) ≡ true
  back_good p m q e live meant call es set x f ended =
      let to = returns p q e set x call live es f ended in
      let b = memory g t lazy call.back (returned g.states (kept_at call.split q) x) e to in
      let z = back_to g t lazy (record { seam = seam_id call.seam; split = call.split; mem = mem_id m; exit = state_id x; after = mem_id b.0 })
      (record { called = called p m q e call set live meant es f; ended = ended; after = b.2 }) in
      let y = back_of g t lazy call.seam call.split m x z.0 z.1 in
      let c = y.0.called in
      let i = called_is g functions routed staged first start t lazy p m q e call meant es z.0.seam.0 z.0.mem.0 z.0.split c y.1 y.2 y.3 in
      let w : Means t.mems z.0.after.0 (returned g.states (kept_at call.split q) x) e =
      subst (λ v. Means t.mems z.0.after.0 (returned g.states (kept_at call.split q) v) e) y.4
      (subst (λ v. Means t.mems z.0.after.0 (returned g.states (kept_at call.split q) z.0.exit.0) v) i.2
      (subst (λ v. Means t.mems z.0.after.0 (returned g.states (kept_at call.split v) z.0.exit.0) c.promise) i.1
      (subst (λ (v : Called). Means t.mems z.0.after.0 (returned g.states (kept_at v.split c.state) z.0.exit.0) c.promise) i.0 y.0.after))) in
      subst (λ o. back_by t call (returned g.states (kept_at call.split q) x) e o ≡ true) (sym z.1)
      (leads_to g functions routed staged first start known t lazy call.back z.0.after.0 (returned g.states (kept_at call.split q) x) e w to)

  -- 8
  returns_good : (p m q e : ℕ) → IsLive g p q e → Means t.mems m q e → (o : Option Called) → call_in (slice_get g.spots p) ≡ o → returns_on g t q m e o ≡ true
  returns_good p m q e live meant None es = refl
  returns_good p m q e live meant (Some call) es =
      subst (λ o. all_return g t q m e call (promise_of t o) ≡ true) (sym z.is)
      (subst (λ o. all_return g t q m e call (option_map (λ meant. meant.1) o) ≡ true) (sym z.callee)
      (all_pass (λ r. not (nat_eq r.0.0 (g.exit call.function)) || returns_by g t q m e call z.set (slice_get t.mems r.1.0)) t.live each))
    where
      z : IsEntered p m q e call
      z = entered p m q e live meant call es

      each : (r : PosId × MemId) → In t.live r → (not (nat_eq r.0.0 (g.exit call.function)) || returns_by g t q m e call z.set (slice_get t.mems r.1.0)) ≡ true
      each r n =
          let row = (lazy.live.1 r).0 (of_in t.live r n) in
          subst (λ o. (not (nat_eq r.0.0 (g.exit call.function)) || returns_by g t q m e call z.set o) ≡ true) (sym row.meant)
          (implied (nat_eq r.0.0 (g.exit call.function)) _ (λ ex. implied (nat_eq row.promise z.set) _ (λ ep.
          back_good p m q e live meant call es z.set row.state z.full
          (subst (λ y. IsLive g (g.exit call.function) row.state y) (eqb-true row.promise z.set ep)
          (subst (λ y. IsLive g y row.state row.promise) (eqb-true r.0.0 (g.exit call.function) ex) row.live)))))

  -- all conditions of a live row
  row_good : (p m q e : ℕ) → IsLive g p q e → Means t.mems m q e → first_failing (live_conditions g t p q m e (slice_get g.spots p)) ≡ None
  row_good p m q e live meant =
      none_more _ _ 3 (is_good g functions routed staged first start known t lazy p m q e live meant)
      (none_more _ _ 4 (visits_good p m q e live meant (slice_get g.spots p) refl)
      (none_more _ _ 5 (answers_good g functions routed staged first start known t lazy p m q e live meant (slice_get g.spots p) refl)
      (none_more _ _ 6 (moves_good g functions routed staged first start known t lazy p m q e live meant (slice_get g.spots p) refl)
      (none_more _ _ 7 (calls_good p m q e live meant (call_in (slice_get g.spots p)) refl)
      (none_more _ _ 8 (returns_good p m q e live meant (call_in (slice_get g.spots p)) refl)
      (none_more _ _ 9 (promise_good g functions routed staged first start known t lazy p m q e live meant (slice_get g.spots p) refl) refl))))))

  pub rows_good : (n : ℕ) (rows : List (PosId × MemId)) → ((r : PosId × MemId) → In rows r → IsLiveRow g t.mems r) → first_failing (live_rows g t (enumerate_from n rows)) ≡ None
  rows_good n [] h = refl
  rows_good n (r ∷ rows) h =
      let row = h r (inl refl) in
      none_append (map (λ c. (fault_at InLive n c.0, c.1)) (live_by g t r.0.0 r.1.0 (slice_get t.mems r.1.0))) (live_rows g t (enumerate_from (n + 1) rows))
      (none_mapped (λ c. fault_at InLive n c) (live_by g t r.0.0 r.1.0 (slice_get t.mems r.1.0))
      (subst (λ o. first_failing (live_by g t r.0.0 r.1.0 o) ≡ None) (sym row.meant) (row_good r.0.0 r.1.0 row.state row.promise row.live row.meant)))
      (rows_good (n + 1) rows (λ x i. h x (inr i)))

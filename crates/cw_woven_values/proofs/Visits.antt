-- A visit: what the weaver does in it, and what is answered.
use Rattle.std.proofs.Common.{◌≡◌, ◌≢◌, ℕ, suc, ◌+◌, ◌≤◌, List, [], true, false, Some, is_some, refl, sym, ap, ◌∙◌, subst}
use Rattle.std.specs.Prelude.{slice_get}
use Rattle.cw_rights.specs.declared.capabilities.Primitive.{Primitive}
use Rattle.cw_certs.specs.declared.moves.Move.{Move}
use Rattle.cw_certs.specs.declared.moves.Move.TheVariants.{Skip, Try, Stop as StopMove}
use Rattle.cw_certs.specs.Tables.{Table, try_at}
use Rattle.cw_model.specs.Boards.{Phase, Visit, Asked, Refused as RefusedPhase, Free, FreeSplit, Over, moved}
use Rattle.cw_model.specs.Runs.{State, WovenStep, stays_where, stays_unless}
use Rattle.cw_game.specs.declared.spots.Spot.TheVariants.{Visit as VisitSpot}
use Rattle.cw_product.specs.Product.{Held}
use Rattle.cw_run.specs.Walks.{Here, Wait, at_pos}
use Rattle.cw_run.proofs.Runs.{visited}
use Rattle.cw_value.specs.declared.values.Stop.TheVariants.{Refused}
use Rattle.cw_value.specs.Machines.{Source, Machine}
use Rattle.cw_value.specs.Runs.{Going, Ends, IsWeaving, IsFree, weaves, counted}
use Rattle.cw_agree.proofs.Paired.{Paired, Stays, weave_stays, stays_paired, weaving_on}
use Rattle.cw_agree.proofs.Invariants.{Inv, invariant}
use Rattle.cw_woven_values.specs.declared.visiting.Visited.{Visited}
use Rattle.cw_woven_values.specs.declared.visiting.Visited.TheVariants as visit
use Rattle.cw_woven_values.specs.Standing.{IsWoven, IsAsked, to_come, problem, policy, EndsAlike, Weaves}
use Rattle.cw_woven_values.specs.Visiting.{Goes, Visits}
use Rattle.cw_woven_values.proofs.Found.{g, p, names, held, is_game, caps_held, Moved, moved_by}
use Rattle.cw_woven_values.proofs.Seeing.{visit_seen, seen, sees_at, comes_on}
use Rattle.cw_woven_values.proofs.Passing.{skipped, tried}

-- what is asked isn't the program's step
asked_not_free : (phase : Phase) → IsAsked phase → IsFree phase → ⊥
asked_not_free (Asked i a later) k f = f
asked_not_free (Visit i a later) k f = k
asked_not_free (RefusedPhase i a later) k f = k
asked_not_free Free k f = k
asked_not_free FreeSplit k f = k
asked_not_free Over k f = k

module _ (h : Held) (s : Source) (t : Table) (w : IsWoven h s t) (plain : Going) where
  abbrev pub Beside : Going → Type 0
  Beside run = Paired s (problem h s t) (Some t) (Inv (policy h s t) s w.fits) (invariant (policy h s t) s w.fits) plain run

  -- the state behind a move that leaves the stack
  abbrev pub after : Going → State → List Move → ℕ → Going
  after run next tries tried = record run { woven = next; tries = tries; tried = tried }

  pub beside_after : (run : Going) (next : State) (tries : List Move) (tried : ℕ) → Beside run → run.woven.board.phase ≢ Over → Stays s (problem h s t) run.woven.board next.board
      → Beside (after run next tries tried)
  beside_after run next tries tried b o q = stays_paired s (problem h s t) (Some t) (Inv (policy h s t) s w.fits) (invariant (policy h s t) s w.fits) plain run next tries tried b o q

  woven_moves : (st next : State) (by : Move) → WovenStep (problem h s t) t st by next → moved (problem h s t) st.board st.board.phase by ≡ Some next.board
  woven_moves st next by k = k.0.1

  module _ (here : Here) (waits : List Wait) (left : List Move) (made : ℕ) (run : Going) (on : Weaves h s t w plain here waits left made run) where
    -- ---- a skip, and a try

    visit_phase : (j i : ℕ) (a : Primitive) → slice_get (g h s t w).spots here.pos ≡ Some (VisitSpot j i a) → (later : List Primitive) × (run.woven.board.phase ≡ Visit i a later)
    visit_phase j i a es =
        let k = seen h s t w run.woven here waits on.sits in
        visit_seen k.frame run.woven.board.phase (VisitSpot j i a) j i a refl (sees_at h s t w run.woven here k (VisitSpot j i a) es)

    is_weaving : (i : ℕ) (a : Primitive) (later : List Primitive) → run.woven.board.phase ≡ Visit i a later → IsWeaving run.woven.board.phase
    is_weaving i a later e = subst IsWeaving (sym e) tt

    weaver_step : (j i : ℕ) (a : Primitive) (by : Move) (to : Here) (move : Moved h s t w run.woven by to waits) (later : List Primitive) → run.woven.board.phase ≡ Visit i a later → by ≢ StopMove
        → (n : ℕ) → n ≡ counted by made → Weaves h s t w plain to waits left n (after run move.next run.tries (counted by run.tried))
    weaver_step j i a by to move later e ns n en = record {
      paired = beside_after run move.next run.tries (counted by run.tried) on.paired
          (weaving_on s (problem h s t) (Some t) (Inv (policy h s t) s w.fits) (invariant (policy h s t) s w.fits) run.woven.board.phase (is_weaving i a later e))
          (weave_stays s (problem h s t) run.woven.board move.next.board run.woven.board.phase by refl (is_weaving i a later e) ns (woven_moves run.woven move.next by move.step));
      sits = move.sits;
      comes = comes_on h s t w run.woven move.next by on.comes move.step;
      tries = on.tries;
      answers = on.answers;
      tried = ap (counted by) on.tried ∙ sym en;
    }

    weaver_ends : (i : ℕ) (a : Primitive) (by : Move) (next : State) (later : List Primitive) → run.woven.board.phase ≡ Visit i a later → by ≢ StopMove → WovenStep (problem h s t) t run.woven by next
        → EndsAlike h s t run (after run next run.tries (counted by run.tried))
    weaver_ends i a by next later e ns step = λ n v rest. weaves n run by next v (is_weaving i a later e) tt ns step rest

    skip_move : (j i : ℕ) (a : Primitive) → slice_get (g h s t w).spots here.pos ≡ Some (VisitSpot j i a) → is_some (try_at t j i here.mem) ≡ false
        → Moved h s t w run.woven Skip (at_pos (here.pos + 2) here) waits
    skip_move j i a es none =
        moved_by h s t w run.woven Skip [] (at_pos (here.pos + 2) here) waits
        (visited (names h s t w) (g h s t w) t (p h s t w).plan (is_game h s t w).states (is_game h s t w).laid (is_game h s t w).routines (held h s t w) (caps_held h s t w) run.woven (λ l. []) refl
        run.woven here waits j i a Skip (here.pos + 2) on.sits es refl (λ stage what later b. refl) (ap (λ y. stays_unless y here.mem) none))

    try_move : (j i : ℕ) (a : Primitive) → slice_get (g h s t w).spots here.pos ≡ Some (VisitSpot j i a) → is_some (try_at t j i here.mem) ≡ true
        → Moved h s t w run.woven Try (at_pos (here.pos + 1) here) waits
    try_move j i a es there =
        moved_by h s t w run.woven Try [] (at_pos (here.pos + 1) here) waits
        (visited (names h s t w) (g h s t w) t (p h s t w).plan (is_game h s t w).states (is_game h s t w).laid (is_game h s t w).routines (held h s t w) (caps_held h s t w) run.woven (λ l. []) refl
        run.woven here waits j i a Try (here.pos + 1) on.sits es refl (λ stage what later b. refl) (ap (λ y. stays_where y here.mem) there))

    pub skips : (j i : ℕ) (a : Primitive) → slice_get (g h s t w).spots here.pos ≡ Some (VisitSpot j i a) → is_some (try_at t j i here.mem) ≡ false
        → (now : Going) × Goes h s t w plain waits left made run (at_pos (here.pos + 2) here) now
    skips j i a es none =
        let move = skip_move j i a es none in
        let v = visit_phase j i a es in
        let past = skipped (problem h s t) run.woven.board move.next.board run.woven.board.phase (woven_moves run.woven move.next Skip move.step) in (
          after run move.next run.tries run.tried,
          record {
            weaves = weaver_step j i a Skip (at_pos (here.pos + 2) here) move v.0 v.1 (λ e. absurd (cc)) made refl;
            calm = past.calm;
            machine = refl;
            less = past.less;
            ends = weaver_ends i a Skip move.next v.0 v.1 (λ e. absurd (cc)) move.step;
          },
        )

    -- a state in which a primitive is asked
    pub record Asking (to : Here) (now : Going) : Type 0 where
      pub weaves : Weaves h s t w plain to waits left (made + 1) now
      pub asked : IsAsked now.woven.board.phase
      pub machine : now.machine ≡ run.machine
      pub same : to_come now.woven.board.phase ≡ to_come run.woven.board.phase
      pub ends : EndsAlike h s t run now

    pub tries_it : (j i : ℕ) (a : Primitive) → slice_get (g h s t w).spots here.pos ≡ Some (VisitSpot j i a) → is_some (try_at t j i here.mem) ≡ true
        → (now : Going) × Asking (at_pos (here.pos + 1) here) now
    tries_it j i a es there =
        let move = try_move j i a es there in
        let v = visit_phase j i a es in
        let phase = tried (problem h s t) run.woven.board move.next.board i a v.0
        (ap (λ ph. moved (problem h s t) run.woven.board ph Try) (sym v.1) ∙ woven_moves run.woven move.next Try move.step) in (
          after run move.next run.tries (run.tried + 1),
          record {
            weaves = weaver_step j i a Try (at_pos (here.pos + 1) here) move v.0 v.1 (λ e. absurd (cc)) (made + 1) refl;
            asked = subst IsAsked (sym phase) tt;
            machine = refl;
            same = ap to_come phase ∙ sym (ap to_come v.1);
            ends = weaver_ends i a Try move.next v.0 v.1 (λ e. absurd (cc)) move.step;
          },
        )

    -- what an answer leaves is what the visit leaves
    pub then_asked : (to : Here) (now : Going) → Asking to now → (left2 : List Move) (made2 : ℕ) (v : Visited) → Visits h s t w plain waits left2 made2 now v
        → Visits h s t w plain waits left2 made2 run v
    then_asked to now a left2 made2 (visit.On next) k = (
      k.0,
      record {
        weaves = k.1.weaves;
        calm = k.1.calm;
        machine = k.1.machine ∙ a.machine;
        less = subst (λ n. suc (to_come k.0.woven.board.phase) ≤ n) a.same k.1.less;
        ends = λ n v rest. a.ends n v (k.1.ends n v rest);
      },
    )
    then_asked to now a left2 made2 visit.None k = absurd (asked_not_free now.woven.board.phase a.asked k.free)
    then_asked to now a left2 made2 (visit.Stopped seam) k = λ n.
        subst (λ (x : Machine). Ends s (problem h s t) (Some t) (suc n) run (record { made = x.made; tried = made2; stop = Refused seam })) a.machine (a.ends n _ (k n))

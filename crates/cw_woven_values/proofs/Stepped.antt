-- A step of the program in a woven run, beside that of the plain one.
use Rattle.std.proofs.Common.{◌≡◌, ℕ, suc, List, [], ◌∷◌, Bool, false, Option, Some, None, Ok, Err, option_map, refl, sym, ap, ◌∙◌, subst}
use Rattle.std.specs.Prelude.{slice_get}
use Rattle.cw_game.specs.Games.{weavers_in}
use Rattle.cw_core.specs.declared.ids.PointId.{PointId}
use Rattle.cw_certs.specs.declared.moves.Move.{Move}
use Rattle.cw_certs.specs.declared.moves.Move.TheVariants.{Refuse}
use Rattle.cw_certs.specs.Tables.{Table}
use Rattle.cw_syntax.specs.Frames.{Frame, Way, On, Left, Right, Opened, Failed, pass}
use Rattle.cw_points.specs.Graphs.{nodes}
use Rattle.cw_points.specs.Points.{points}
use Rattle.cw_points.proofs.Ways.{StackAt}
use Rattle.cw_model.specs.Boards.{Problem, Phase, Visit, Asked, Refused as RefusedPhase, Free, FreeSplit, Over, Board, begin, moved, stepped, landed, move_of}
use Rattle.cw_model.specs.Runs.{State, WovenStep}
use Rattle.cw_model.proofs.Moving.{way_is}
use Rattle.cw_game.specs.declared.spots.Spot.{Spot}
use Rattle.cw_product.specs.Product.{Held}
use Rattle.cw_run.specs.declared.walk.Here.{Here as HereData}
use Rattle.cw_run.specs.Walks.{Here, Wait, here_of, next_of, Next, To, Into, Back, Over as AllOver, Resumed, Stopped, landing_of, waits_after, without_first}
use Rattle.cw_value.specs.declared.values.Stop.{Stop}
use Rattle.cw_value.specs.declared.values.Stop.TheVariants.{Ended}
use Rattle.cw_value.specs.Machines.{Source, Machine, Step, goes, halts, step}
use Rattle.cw_value.specs.Runs.{Going, Ends, IsFree, is_split, over, steps, halted}
use Rattle.cw_eval.specs.declared.halt.Halt.{Halt}
use Rattle.cw_eval.specs.declared.halt.Halt.TheVariants as halt
use Rattle.cw_machine.specs.declared.machine.Machine.{Machine as HeldMachine}
use Rattle.cw_machine.specs.Shown.{machine_of}
use Rattle.cw_agree.proofs.Plain.{plain as shown, plain_step}
use Rattle.cw_agree.proofs.Paired.{Paired, Lands, lands, same_goes, same_halts, split_may, plain_does, landed_paired}
use Rattle.cw_agree.proofs.Invariants.{Inv, invariant}
use Rattle.cw_values.specs.Stands.{plan, StandsAt, Passes, Breaks, Advances}
use Rattle.cw_woven_values.specs.Standing.{IsWoven, IsFresh, problem, policy, EndsBehind, Weaves}
use Rattle.cw_woven_values.specs.Stepping.{Steps, both}
use Rattle.cw_woven_values.proofs.Found.{g, Moved, Finished, Found, found}
use Rattle.cw_woven_values.proofs.Seeing.{seen, free_seen, sees_at, comes_on, safe_at, stuck}

not_refuse : (way : Way) → move_of way ≡ Refuse → ⊥
not_refuse On e = absurd (cc)
not_refuse Left e = absurd (cc)
not_refuse Right e = absurd (cc)
not_refuse Opened e = absurd (cc)
not_refuse Failed e = absurd (cc)

module _ (h : Held) (s : Source) (t : Table) (w : IsWoven h s t) where
  abbrev pr : Problem
  pr = problem h s t

  -- a step that is shown as one that goes on does so, and likewise one that halts
  shown_goes : (st : Step) (way : Way) (k : Machine) → plain_step st ≡ goes way k → (m : Machine) × (st ≡ goes way m) × (shown m ≡ k)
  shown_goes (goes way2 m) way k e = let same = same_goes s pr way2 way (shown m) k e in (m, ap (λ z. goes z m) same.0, same.1)
  shown_goes (halts why m) way k e = absurd (cc)

  shown_halts : (st : Step) (why : Stop) (k : Machine) → plain_step st ≡ halts why k → (m : Machine) × (st ≡ halts why m) × (shown m ≡ k)
  shown_halts (goes way m) why k e = absurd (cc)
  shown_halts (halts why2 m) why k e = let same = same_halts s pr why2 why (shown m) k e in (m, ap (λ z. halts z m) same.0, same.1)

  -- the board has a move where the program goes on
  free_moves : (b : Board) (phase : Phase) (way : Way) (next : List Frame) → IsFree phase → pass pr.plan b.stack way ≡ Some next → (to : Board) × (moved pr b phase (move_of way) ≡ Some to)
  free_moves b Free way next f e = (landed pr None b way next, ap (stepped pr None b) (way_is way) ∙ ap (option_map (landed pr None b way)) e)
  free_moves b FreeSplit way next f e = (landed pr (Some b.caps) b way next, ap (stepped pr (Some b.caps) b) (way_is way) ∙ ap (option_map (landed pr (Some b.caps) b way)) e)
  free_moves b (Visit i a l) way next f e = absurd f
  free_moves b (Asked i a l) way next f e = absurd f
  free_moves b (RefusedPhase i a l) way next f e = absurd f
  free_moves b Over way next f e = absurd f

  pub no_stack : (stack : List Frame) → StackAt (nodes (plan (policy h s t) s)) (points (plan (policy h s t) s)) stack None → stack ≡ []
  no_stack [] k = refl
  no_stack (frame ∷ frames) k = absurd k

  module _ (left : List Move) (made : ℕ) (plain run : Going) (here : Here) (waits : List Wait) (on : Weaves h s t w plain here waits left made run) (free : IsFree run.woven.board.phase) where
    abbrev b : Board
    b = run.woven.board

    abbrev split : Bool
    split = is_split b.phase

    -- the plain step is that of the woven run, but for what is kept
    does_shown : step s false plain.woven.board.stack plain.machine ≡ plain_step (step s split b.stack run.machine)
    does_shown = plain_does s pr (Some t) (Inv (policy h s t) s w.fits) (invariant (policy h s t) s w.fits) plain run plain split on.paired refl refl

    -- the run halts at the step
    pub breaks : (why : Stop) (m : HeldMachine) → Breaks (policy h s t) s why (machine_of m) plain
        → (n : ℕ) → Ends s pr (Some t) (suc n) run (record { made = (machine_of m).made; tried = made; stop = why })
    breaks why m k = λ n.
        let same = shown_halts (step s split b.stack run.machine) why (machine_of m) (sym does_shown ∙ k.does) in
        subst (λ (x : Machine). Ends s pr (Some t) (suc n) run (record { made = x.made; tried = made; stop = why })) same.2
        (subst (λ (x : ℕ). Ends s pr (Some t) (suc n) run (record { made = same.0.made; tried = x; stop = why })) on.tried (halted n run why same.0 free same.1))

    pub stops : (e : Halt) (m : HeldMachine) (waits2 : List Wait) → Advances (policy h s t) s (Err e) m plain → Steps h s t w waits2 left made run m (Err e)
    stops (halt.Stop why) m waits2 k = breaks why m k
    stops halt.NoMemory m waits2 k = tt

    module _ (way : Way) (plain2 : Going) (m : HeldMachine) (point : Option PointId) (stands : StandsAt (policy h s t) s point m plain2) (passes : Passes (policy h s t) s way plain plain2) where
      does : (x : Machine) × (step s split b.stack run.machine ≡ goes way x) × (shown x ≡ plain2.machine)
      does = shown_goes (step s split b.stack run.machine) way plain2.machine (sym does_shown ∙ passes.does)

      passed : pass pr.plan b.stack way ≡ Some plain2.woven.board.stack
      passed = ap (λ (x : List Frame). pass pr.plan x way) (sym on.paired.stack) ∙ passes.passes

      at_spot : (spot : Spot) → slice_get (g h s t w).spots here.pos ≡ Some spot → weavers_in (Some spot) ≡ false
      at_spot spot es =
          let k = seen h s t w run.woven here waits on.sits in
          free_seen k.frame b.phase spot (sees_at h s t w run.woven here k spot es) free

      -- so the game and the table have one too
      pub never_stuck : (spot : Spot) → slice_get (g h s t w).spots here.pos ≡ Some spot → next_of (g h s t w) t here waits spot (move_of way) ≡ None → ⊥
      never_stuck spot es none =
          let to = free_moves b b.phase way plain2.woven.board.stack free passed in
          stuck h s t w run.woven here waits (move_of way) spot on.sits on.comes es (at_spot spot es) none to.0 ((safe_at h s t w run.woven on.comes).meets, to.1)

      abbrev behind : State → Going
      behind next = record run { woven = next; machine = does.0 }

      plain_lands : Lands s pr plain.woven.board plain2.woven.board way
      plain_lands = record { stack = plain2.woven.board.stack; passes = passes.passes; is_stack = refl; is_phase = stands.phase }

      woven_lands : (next : State) → WovenStep pr t run.woven (move_of way) next → Lands s pr b next.board way
      woven_lands next k = lands s pr b next.board b.phase way free k.0.1

      beside : (next : State) → WovenStep pr t run.woven (move_of way) next
          → Paired s pr (Some t) (Inv (policy h s t) s w.fits) (invariant (policy h s t) s w.fits) plain2 (behind next)
      beside next k =
          let i = invariant (policy h s t) s w.fits in
          let both = landed_paired s pr (Some t) (Inv (policy h s t) s w.fits) i plain run way does.0 plain2.woven next on.paired.stack plain_lands (woven_lands next k)
          (λ stack e. i.kept split b.stack run.machine way does.0 stack
          (λ c. on.paired.split (split_may s pr (Some t) (Inv (policy h s t) s w.fits) i b.phase c)) on.paired.inv does.1 e) in
          record {
            stack = both.stack;
            values = sym does.2;
            is_plain = both.is_plain;
            plain_fits = both.plain_fits;
            woven_fits = both.woven_fits;
            split = both.split;
            stop = both.stop;
            inv = both.inv;
          }

      -- a state behind the step
      pub record Landed (to : Here) (waits2 : List Wait) (now : Going) : Type 0 where
        pub weaves : Weaves h s t w plain2 to waits2 left made now
        pub fresh : IsFresh h s t now
        pub ends : EndsBehind h s t run now
        pub stack : now.woven.board.stack ≡ plain2.woven.board.stack

      lands_at : (to : Here) (waits2 : List Wait) → Moved h s t w run.woven (move_of way) to waits2 → (now : Going) × Landed to waits2 now
      lands_at to waits2 move =
          let at = woven_lands move.next move.step in
          let paired = beside move.next move.step in (
            behind move.next,
            record {
              weaves = record {
                paired = paired;
                sits = move.sits;
                comes = comes_on h s t w run.woven move.next (move_of way) on.comes move.step;
                tries = on.tries;
                answers = on.answers;
                tried = on.tried;
              };
              fresh = at.is_phase ∙ ap (begin (policy h s t)) (sym at.is_stack);
              ends = λ n v rest. steps n run way does.0 move.next v free does.1 move.step rest;
              stack = sym paired.stack;
            },
          )

      -- the program has ended
      abbrev EndsNow : Type 0
      EndsNow = (n : ℕ) → Ends s pr (Some t) (suc n) run (record { made = (machine_of m).made; tried = made; stop = Ended })

      ends_now : Finished h s t w run.woven (move_of way) → EndsNow
      ends_now k = λ n.
          let same : shown does.0 ≡ machine_of m = does.2 ∙ stands.machine in
          subst (λ (x : Machine). Ends s pr (Some t) (suc n) run (record { made = x.made; tried = made; stop = Ended })) same
          (subst (λ (x : ℕ). Ends s pr (Some t) (suc n) run (record { made = does.0.made; tried = x; stop = Ended })) on.tried
          (steps n run way does.0 k.next _ free does.1 k.step (over n (behind k.next) k.over)))

      abbrev pub Led : Option Here → List Wait → Type 0
      Led None waits2 = EndsNow
      Led (Some to) waits2 = (now : Going) × Landed to waits2 now

      led : (n : Next) → Found h s t w run.woven waits (move_of way) n → Led (landing_of n) (waits_after n waits)
      led (To to) k = lands_at to waits k
      led (Into to call) k = lands_at to (call ∷ waits) k.1
      led (Back to) k = lands_at to (without_first waits) k.1
      led AllOver k = ends_now k.1
      led (Resumed to) k = absurd (not_refuse way k.0)
      led (Stopped seam) k = absurd (not_refuse way k.0)

      pub goes_on : (spot : Spot) (n : Next) → slice_get (g h s t w).spots here.pos ≡ Some spot → next_of (g h s t w) t here waits spot (move_of way) ≡ Some n → Led (landing_of n) (waits_after n waits)
      goes_on spot n es e = led n (found h s t w run.woven here waits on.sits spot (move_of way) n es (at_spot spot es) e)

    -- the point and the landing together
    never_empty : (plain2 : Going) (m : HeldMachine) (to : Here) (waits2 : List Wait) (way : Way) (stands : StandsAt (policy h s t) s None m plain2) (passes : Passes (policy h s t) s way plain plain2)
        (now : Going) → Landed way plain2 m None stands passes to waits2 now → ⊥
    never_empty plain2 m to waits2 way stands passes now k =
        let there = seen h s t w now.woven to waits2 k.weaves.sits in
        let none = no_stack plain2.woven.board.stack stands.stack in
        empty there.frame there.frames (sym there.stack ∙ (k.stack ∙ none))
      where
        empty : (frame : Frame) (frames : List Frame) → frame ∷ frames ≡ [] → ⊥
        empty frame frames e = absurd (cc)

    pub together : (way : Way) (plain2 : Going) (m : HeldMachine) (point : Option PointId) (stands : StandsAt (policy h s t) s point m plain2) (passes : Passes (policy h s t) s way plain plain2)
        (stand : Option HereData) (waits2 : List Wait) → Led way plain2 m point stands passes (option_map here_of stand) waits2 → Steps h s t w waits2 left made run m (Ok (both point stand))
    together way plain2 m None stands passes None waits2 k = k
    together way plain2 m None stands passes (Some to) waits2 k = absurd (never_empty plain2 m (here_of to) waits2 way stands passes k.0 k.1)
    together way plain2 m (Some point) stands passes None waits2 k = k
    together way plain2 m (Some point) stands passes (Some to) waits2 k =
        (k.0, record { plain = plain2; stands = stands; weaves = k.1.weaves; fresh = k.1.fresh }, k.1.ends)

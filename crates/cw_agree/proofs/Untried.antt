-- A plain run tries nothing, and no weaver ends it.
use Rattle.std.proofs.Common.{◌≡◌, ℕ, suc, List, [], None, refl, sym, ap, subst, ◌∙◌}
use Rattle.cw_certs.specs.declared.moves.Move.{Move}
use Rattle.cw_certs.specs.declared.moves.Move.TheVariants.{Skip}
use Rattle.cw_model.specs.Boards.{Problem, problem_of, Phase, Visit, Asked, Refused as RefusedPhase, Free, FreeSplit, Over}
use Rattle.cw_model.specs.Runs.{State}
use Rattle.cw_syntax.specs.Frames.{start_stack}
use Rattle.cw_value.specs.declared.values.Stop.{Stop}
use Rattle.cw_value.specs.declared.values.Stop.TheVariants.{Ended, Form, Unset, Unknown, Overflow, Division, Index, Answers, Steps, Refused}
use Rattle.cw_value.specs.Expressions.{Outcome, gives, stops}
use Rattle.cw_value.specs.Declarations.{Done}
use Rattle.cw_value.specs.Machines.{Source, globals}
use Rattle.cw_value.specs.Starts.{no_store, start_store, begun}
use Rattle.cw_value.specs.Shown.{Values}
use Rattle.cw_value.specs.Runs.{Going, counted, is_split, IsWeaving, Leads, Ends, over, spent, weaves, quits, asks, steps, halted, going_start, most_steps, source_of, RunsFrom}
use Rattle.cw_agree.specs.Agreements.{IsPlaced, IsUnrefused}
use Rattle.cw_agree.specs.Laws.{PlainRunsTryNothing}
use Rattle.cw_agree.proofs.Paired.{IsPlain, onward_plain, begin_plain, passed, lands}
use Rattle.cw_agree.proofs.Refusals.{Placed, StopsPlaced, step_placed, turns_placed}

placed_unrefused : (why : Stop) → IsPlaced why → IsUnrefused why
placed_unrefused (Form at) h = tt
placed_unrefused (Unset at) h = tt
placed_unrefused (Unknown at) h = tt
placed_unrefused (Overflow at) h = tt
placed_unrefused (Division at) h = tt
placed_unrefused (Index at) h = tt
placed_unrefused (Answers at) h = tt
placed_unrefused Ended h = absurd h
placed_unrefused Steps h = absurd h
placed_unrefused (Refused seam) h = absurd h

module _ (s : Source) (p : Problem) where
  skip_plain : (g : Going) (m : Move) (next : State) (phase : Phase) → g.woven.board.phase ≡ phase → IsPlain phase → IsWeaving phase
      → m ≡ Skip → Leads s p None g.woven m next → IsPlain next.board.phase
  skip_plain g m next (Visit i a l) e h w c mv = subst IsPlain (sym (ap (λ (x : State). x.board.phase) (passed s p g.woven m next i a l e c mv))) (onward_plain (suc i) l)
  skip_plain g m next (RefusedPhase i a l) e h w c mv = absurd h
  skip_plain g m next (Asked i a l) e h w c mv = absurd h
  skip_plain g m next Free e h w c mv = absurd w
  skip_plain g m next FreeSplit e h w c mv = absurd w
  skip_plain g m next Over e h w c mv = absurd w

  untried : (n : ℕ) (g : Going) (v : Values) → IsPlain g.woven.board.phase → Ends s p None n g v → (v.tried ≡ g.tried) × IsUnrefused v.stop
  untried n g v h (over _ _ q) = (refl, tt)
  untried n g v h (spent _ q) = (refl, tt)
  untried n g v h (weaves k _ m next _ w c ns mv rest) =
      let r = untried (suc k) (record g { woven = next; tried = counted m g.tried }) v (skip_plain g m next g.woven.board.phase refl h w c mv) rest in
      (r.0 ∙ ap (λ (x : Move). counted x g.tried) c, r.1)
  untried n g v h (quits k _ next seam w c mv f) = absurd (cc)
  untried n g v h (asks k _ stage a later next _ q mv rest) = absurd (subst IsPlain q h)
  untried n g v h (steps k _ way m next _ fr st mv rest) =
      let l = lands s p g.woven.board next.board g.woven.board.phase way fr mv.0 in
      untried k (record g { woven = next; machine = m }) v (subst IsPlain (sym l.is_phase) (begin_plain p.policy l.stack)) rest
  untried n g v h (halted k _ why m fr st) =
      (refl, placed_unrefused why (subst Placed st (step_placed s (is_split g.woven.board.phase) g.woven.board.stack g.machine)))

  from_untried : (tries : List Move) (o : Outcome Done) (v : Values) → StopsPlaced o → RunsFrom s p None tries o v → (v.tried ≡ 0) × IsUnrefused v.stop
  from_untried tries (stops why m) v h r = (ap (λ (x : Values). x.tried) r, subst IsUnrefused (sym (ap (λ (x : Values). x.stop) r)) (placed_unrefused why h))
  from_untried tries (gives d m) v h r = untried most_steps (going_start s p None tries m) v (begin_plain p.policy (start_stack p.plan)) r

pub plain_runs_try_nothing : PlainRunsTryNothing
plain_runs_try_nothing policy bytes file handed_in v r =
    let s = source_of bytes file handed_in in
    from_untried s (problem_of policy bytes file) handed_in.tries (begun s handed_in.calls) v
    (turns_placed s [] (globals file) (record { own = no_store; shared = start_store s; calls = handed_in.calls; made = [] })) r

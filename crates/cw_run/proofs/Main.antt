-- The run by a tape, step by step: what the loop keeps, and what it comes to.
use Rattle.std.proofs.Common.{◌≡◌, ℕ, List, [], ◌∷◌, ◌++◌, map, take, Option, Some, None, refl, sym, ap, ◌∙◌, subst, option_and_then}
use Rattle.std.specs.Prelude.{slice_get}
use Rattle.std.proofs.lemmas.Option.{none-some}
use Rattle.cw_rights.specs.declared.capabilities.Caps.{Caps}
use Rattle.cw_rights.specs.Words.{Word}
use Rattle.cw_certs.specs.declared.moves.Move.{Move}
use Rattle.cw_certs.specs.declared.moves.Move.TheVariants.{Refuse}
use Rattle.cw_certs.specs.Tables.{Table}
use Rattle.cw_syntax.specs.Plans.{Plan}
use Rattle.cw_model.specs.Boards.{Problem, Weaver, moved, turn_of}
use Rattle.cw_model.specs.Runs.{State, start_state, WovenStep, Sound}
use Rattle.cw_game.specs.Games.{AreStates, Game, weavers_in}
use Rattle.cw_game.specs.Reached.{Reached}
use Rattle.cw_game.specs.Places.{IsLaidOut, HasRoutines}
use Rattle.cw_trace.specs.Traces.{Names, step_lines, lines_from}
use Rattle.cw_trace.specs.Steps.{Step, state_after, taken_of, End, Ended, TapeSpent, BadMove, IsNoMove}
use Rattle.cw_trace.proofs.Grown.{follows_grown, state_grown}
use Rattle.cw_run.specs.Lines.{own_of}
use Rattle.cw_run.specs.Walks.{Here, Wait, next_of, next_here}
use Rattle.cw_run.specs.Woven.{Tells}
use Rattle.cw_run.proofs.Moveless.{Safe, moveless}
use Rattle.cw_run.proofs.Going.{RunSoFar, spot_of, not_over, environments}
use Rattle.cw_run.proofs.Runs.{own_trace, safe_of}

-- the run's lines are told as they are
abbrev pub same : List ℕ → List ℕ
same = own_of None

abbrev pub start_on : Game → Table → Plan → State
start_on g t plan = start_state (record { plan = plan; policy = g.policy }) t

-- the run so far, from the start
abbrev pub Ran : Names → Game → Table → Plan → List Move → Option Here → List Wait → List ℕ → List ℕ → Type 0
Ran names g t plan entries landing waits old new = RunSoFar names g t plan (start_on g t plan) same entries landing waits old new

module _ (names : Names) (g : Game) (t : Table) (plan : Plan) (right : AreStates g.policy g.spots g.states (Reached g.policy g.spots g.states)) (laid : IsLaidOut plan g)
    (has_them : HasRoutines plan g)
    (held : ℕ → Caps) (holds : (q : ℕ) (w : Word) (c : Caps) → Reached g.policy g.spots g.states q w c → held q ≡ c)
    (safe_table : Sound (record { plan = plan; policy = g.policy }) t) where
  abbrev problem : Problem
  problem = record { plan = plan; policy = g.policy }

  -- a run's trace
  trace_is : (s : State) (steps : List Step) → own_trace names g t plan (start_on g t plan) same s steps ≡ lines_from names problem s.board (map taken_of steps)
  trace_is s [] = refl
  trace_is s (one ∷ later) = ap (λ l. step_lines names problem s.board one.by one.next.board ++ l) (trace_is one.next later)

  -- The ends.
  abbrev told_by : List Move → End → List ℕ → List ℕ → Type 0
  told_by tape end old new = Tells problem names t tape end old new

  pub spent : (tape : List Move) (h : Here) (waits : List Wait) (old new : List ℕ) → Ran names g t plan tape (Some h) waits old new → told_by tape TapeSpent old new
  spent tape h waits old new (text, en, run) =
      let s = run.0.run in
      record {
        steps = s.steps;
        run = record {
          follows = s.follows;
          rests = λ w. environments names g t plan right laid has_them held holds same refl run.0.state h waits run.0.sits run.1 (ap (λ (z : State). turn_of z.board.phase) (sym s.comes) ∙ w);
          ends = (s.reads, λ e. not_over names g t plan right laid has_them held holds same refl run.0.state h waits run.0.sits (ap (λ (z : State). z.board.phase) (sym s.comes) ∙ e));
        };
        told = en ∙ ap (λ l. old ++ l) (sym s.tells ∙ trace_is (start_state problem t) s.steps);
      }

  pub over : (tape : List Move) (waits : List Wait) (old new : List ℕ) → Ran names g t plan tape None waits old new → told_by tape Ended old new
  over tape waits old new (text, en, run) =
      let s = run.run in
      let e = ap (λ (z : State). z.board.phase) s.comes ∙ run.over in
      record {
        steps = s.steps;
        run = record { follows = s.follows; rests = λ w. none-some Weaver (sym (ap turn_of e) ∙ w); ends = (s.reads, e) };
        told = en ∙ ap (λ l. old ++ l) (sym s.tells ∙ trace_is (start_state problem t) s.steps);
      }

  -- the entry is none of the board's moves
  pub bad_entry : (tape : List Move) (i : ℕ) (by : Move) (h : Here) (waits : List Wait) (old new : List ℕ) → Ran names g t plan (take i tape) (Some h) waits old new
      → slice_get tape i ≡ Some by → next_here g t h waits by ≡ None → told_by tape (BadMove i) old new
  bad_entry tape i by h waits old new (text, en, run) word lost =
      let s = run.0.run in
      let sp = spot_of names g t plan right laid has_them held holds same refl run.0.state h waits run.0.sits in
      let spot = sp.0 in
      let es = sp.1 in
      let none : next_of g t h waits spot by ≡ None = sym (ap (option_and_then (λ s. next_of g t h waits s by)) es) ∙ lost in
      let safe = subst (λ z. Safe problem t z) s.comes (safe_of problem t safe_table s.steps s.follows) in
      let after : (next : State) → WovenStep problem t run.0.state Refuse next → Safe problem t next = λ next step.
      let one : Step = record { by = Refuse; next = next } in
      subst (λ z. Safe problem t z) (state_grown (start_state problem t) s.steps one)
      (safe_of problem t safe_table (s.steps ++ one ∷ [])
      (follows_grown problem t (start_state problem t) s.steps one s.follows (subst (λ z. WovenStep problem t z Refuse next) (sym s.comes) step))) in
      let stuck = moveless names g t plan right laid has_them held holds run.0.state h waits by spot run.0.sits safe after es (sym (ap weavers_in es) ∙ run.1) none in
      record {
        steps = s.steps;
        run = record {
          follows = s.follows;
          rests = λ w. environments names g t plan right laid has_them held holds same refl run.0.state h waits run.0.sits run.1 (ap (λ (z : State). turn_of z.board.phase) (sym s.comes) ∙ w);
          ends = (s.reads, (by, word, subst (λ z. IsNoMove problem z.board by) (sym s.comes) stuck));
        };
        told = en ∙ ap (λ l. old ++ l) (sym s.tells ∙ trace_is (start_state problem t) s.steps);
      }

  pub past_end : (tape : List Move) (i : ℕ) (by : Move) (waits : List Wait) (old new : List ℕ) → Ran names g t plan (take i tape) None waits old new
      → slice_get tape i ≡ Some by → told_by tape (BadMove i) old new
  past_end tape i by waits old new (text, en, run) word =
      let s = run.run in
      let e = ap (λ (z : State). z.board.phase) s.comes ∙ run.over in
      record {
        steps = s.steps;
        run = record {
          follows = s.follows;
          rests = λ w. none-some Weaver (sym (ap turn_of e) ∙ w);
          ends = (s.reads, (by, word, λ next mv. none-some next (sym (ap (λ ph. moved problem (state_after (start_state problem t) s.steps).board ph by) e) ∙ mv.1)));
        };
        told = en ∙ ap (λ l. old ++ l) (sym s.tells ∙ trace_is (start_state problem t) s.steps);
      }

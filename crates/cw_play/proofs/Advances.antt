-- A play goes on by a move of its pair: the board goes along, and its lines are told.
use Rattle.std.proofs.Common.{◌≡◌, ℕ, List, [], ◌∷◌, ◌++◌, false, Option, Some, refl, sym, ap, ap₂, ◌∙◌, subst, append_assoc}
use Rattle.std.specs.Prelude.{slice_get}
use Rattle.cw_rights.specs.declared.capabilities.Caps.{Caps}
use Rattle.cw_rights.specs.Words.{Word}
use Rattle.cw_certs.specs.declared.moves.Move.{Move}
use Rattle.cw_certs.specs.Strategies.{Row, Strategy}
use Rattle.cw_syntax.specs.Frames.{Frame}
use Rattle.cw_syntax.specs.Plans.{Plan}
use Rattle.cw_model.specs.Boards.{Problem, Phase, Visit, Asked, Refused, Free, FreeSplit, Over, Board, start_board}
use Rattle.cw_game.specs.Games.{Game, Ret, Config, leads_to, bad_in}
use Rattle.cw_game.specs.Reached.{Reached}
use Rattle.cw_game.specs.Standing.{Meaning, StandsOn, IsGameOf}
use Rattle.cw_game.proofs.Link.{Stands}
use Rattle.cw_echeck.proofs.Boards.{problem_in, moves_to}
use Rattle.cw_states.specs.States.{Lists, caps_at}
use Rattle.cw_trace.specs.Traces.{Names, Taken, trace, step_lines}
use Rattle.cw_trace.proofs.Grown.{lines_grown, board_grown}
use Rattle.cw_trace.specs.Told.{lines_at, label_at}
use Rattle.cw_trace.proofs.Boards.{step_told}
use Rattle.cw_play.specs.Plays.{Follows, IsPlayBy}
use Rattle.cw_play.proofs.Held.{Tells, Sofar, stand}

-- the state at which a board stands means its capabilities
module _ (Means : Meaning) (g : Game) where
  meant_on : (stack : List Frame) (kept : List (Option Caps)) (caps : Caps) (word : Word) (phase : Phase) (p q : ℕ) (rets : List Ret)
      → StandsOn Means g stack kept caps word phase p q rets → Means q word caps
  meant_on [] kept caps word phase p q rets h = absurd h
  meant_on (frame ∷ frames) kept caps word (Visit i a later) p q rets h = h.1.1
  meant_on (frame ∷ frames) kept caps word (Asked i a later) p q rets h = h.1.3
  meant_on (frame ∷ frames) kept caps word Free p q rets h = h.1.1
  meant_on (frame ∷ frames) kept caps word FreeSplit p q rets h = h.1.4
  meant_on (frame ∷ frames) kept caps word (Refused i a later) p q rets h = absurd h.1
  meant_on (frame ∷ frames) kept caps word Over p q rets h = absurd h.1

  pub meant : (b : Board) (c : Config) → Stands Means g b c → Means c.state b.word b.caps
  meant b c h = meant_on b.stack b.kept b.caps b.word b.phase c.pos c.state c.rets h

module _ (g : Game) (v : Lists) (names : Names) (s : Strategy) (first : ℕ) (tape : List Move) (old : List ℕ) where
  abbrev Means : Meaning
  Means = Reached g.policy g.spots g.states

  -- the lines of a move from a pair to another, as the code tells them
  abbrev pub told_of : ℕ → Move → ℕ → ℕ → List ℕ
  told_of pos by pos' state' = lines_at names g.policy g.main (slice_get g.spots pos) by ++ label_at names g.policy (caps_at v state') (slice_get g.spots pos')

  module _ (plan : Plan) (game : IsGameOf (problem_in plan g) g) (tells : Tells g v) where
    abbrev p : Problem
    p = problem_in plan g

    lines_told : (b to : Board) (c d : Config) (by : Move) → Stands Means g b c → Stands Means g to d → step_lines names p b by to ≡ told_of c.pos by d.pos d.state
    lines_told b to c d by h k =
        step_told Means g plan game.laid.main names b to c d by h k
        ∙ ap (λ (caps : Caps). lines_at names g.policy g.main (slice_get g.spots c.pos) by ++ label_at names g.policy caps (slice_get g.spots d.pos))
        (tells.caps d.state to.word to.caps (meant Means g to d k))

    pub advance : (text more : List ℕ) (c d : Config) (at next : ℕ) (calls opened : List ℕ) (rest left : List Move) (r : Row) (by : Move)
        → Sofar g names plan s first tape old text c at calls rest
        → slice_get s.rows at ≡ Some r
        → ((b to : Board) → Stands Means g b c → Follows r.how r.state (stand s at b calls) rest by (stand s next to opened) left)
        → bad_in g c.state (slice_get g.spots c.pos) ≡ false → leads_to g c by ≡ Some d
        → more ≡ text ++ told_of c.pos by d.pos d.state
        → Sofar g names plan s first tape old more d next opened left
    advance text more c d at next calls opened rest left r by so has follows good leads told =
        let m = moves_to plan g game so.board c d by so.stands good leads in
        let taken : Taken = record { by = by; next = m.0 } in
        let lines : more ≡ old ++ trace names p (so.steps ++ taken ∷ []) =
        told
        ∙ ap₂ (λ (x y : List ℕ). x ++ y) so.told (sym (lines_told so.board m.0 c d by so.stands m.2))
        ∙ append_assoc old (trace names p so.steps) (step_lines names p so.board by m.0)
        ∙ ap (λ (l : List ℕ). old ++ l) (ap (λ (b : Board). trace names p so.steps ++ step_lines names p b by m.0) (sym so.last) ∙ sym (lines_grown names p (start_board p) so.steps taken)) in
        record {
          board = m.0;
          stands = m.2;
          steps = so.steps ++ taken ∷ [];
          last = board_grown (start_board p) so.steps taken;
          told = lines;
          goes = λ end later h.
              subst (λ (l : List Taken). IsPlayBy p s first tape end l) (sym (append_assoc so.steps (taken ∷ []) later))
              (so.goes end (taken ∷ later) (
                stand s next m.0 opened,
                left,
                refl,
                record { row = r; has = has; follows = follows so.board m.0 so.stands; moves = m.1.0; unanswered = m.1.1 },
                h,
              ));
        }

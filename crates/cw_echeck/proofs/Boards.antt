-- What the rows of a strategy use of boards: at a board that stands at a pair each move of the pair is one of the board, at the position
-- of a call stands a call, and at that of an exit an end.
use Rattle.std.proofs.Common.{◌≡◌, ◌⊎◌, ℕ, ◌<◌, List, [], ◌∷◌, Bool, true, false, Option, Some, refl, ap, ◌∙◌, inl, inr}
use Rattle.std.specs.Prelude.{slice_get}
use Rattle.cw_rights.specs.declared.capabilities.Caps.{Caps}
use Rattle.cw_rights.specs.Words.{Word}
use Rattle.cw_certs.specs.declared.moves.Move.{Move}
use Rattle.cw_syntax.specs.Plans.{Call, Plan}
use Rattle.cw_syntax.specs.Frames.{Todo, Frame}
use Rattle.cw_model.specs.Boards.{Problem, Phase, Visit, Asked, Refused, Free, FreeSplit, Over, Board, start_board, Violates, IsEnvironments}
use Rattle.cw_model.specs.Plays.{is_at_call, is_at_end, GoesBy}
use Rattle.cw_game.specs.declared.spots.Spot.{Spot}
use Rattle.cw_game.specs.declared.spots.Spot.TheVariants.{Visit as VisitSpot, Asked as AskedSpot, Step, Branch, Label as LabelSpot, Open as OpenSpot, Close as CloseSpot, Call as CallSpot, SplitCall, Exit}
use Rattle.cw_game.specs.Games.{Game, Ret, Config, at_pair, leads_to, bad_in, weavers_in}
use Rattle.cw_game.specs.Pairs.{is_call_in, is_exit_in}
use Rattle.cw_game.specs.Standing.{Meaning, StandsOn, IsGameOf}
use Rattle.cw_game.specs.Reached.{Reached}
use Rattle.cw_game.proofs.Fronts.{Front, is_step, is_branch, is_label, is_open, is_close, is_call, is_end, front_of}
use Rattle.cw_game.proofs.Link.{Stands, bad_violates, environments_turn, unanswered, board_moves, start_stands}
use Rattle.cw_lemmas.proofs.Truths.{not_both}
use Rattle.cw_game.proofs.Link.{state_within as state_below}

-- At the position of a call stands a call, and at that of an exit an end.
module _ (Means : Meaning) (g : Game) where
  differ : {A : Type 0} (f : Option Spot → Bool) (p : ℕ) (spot : Spot) → slice_get g.spots p ≡ Some spot → f (Some spot) ≡ false → f (slice_get g.spots p) ≡ true → A
  differ f p spot es no_one yes_one = absurd (not_both (f (slice_get g.spots p)) yes_one (ap f es ∙ no_one))

  front_call : (x p : ℕ) (frame : Frame) (frames : List Frame) → Front g.spots g.policy x p frame → is_call_in (slice_get g.spots p) ≡ true → is_at_call (frame ∷ frames) ≡ true
  front_call x p _ frames (is_step raw {n} quiet ways es a) e = differ is_call_in p (Step n) es refl e
  front_call x p _ frames (is_branch left right' {m} {n} quiet ways es a a') e = differ is_call_in p (Branch m n) es refl e
  front_call x p _ frames (is_label {at} {mark} {j} {l} {s} {is} {n} es a) e = differ is_call_in p (LabelSpot j l n) es refl e
  front_call x p _ frames (is_open {at} {j} {d} {is} {n} lt es a) e = differ is_call_in p (OpenSpot j d n) es refl e
  front_call x p _ frames (is_close {at} {j} {d} {is} {n} lt es a) e = differ is_call_in p (CloseSpot j d n) es refl e
  front_call x p _ frames (is_call es a) e = refl
  front_call x p _ frames (is_end {f} {is} es ep) e = differ is_call_in p (Exit f) es refl e

  front_exit : (x p : ℕ) (frame : Frame) (frames : List Frame) → Front g.spots g.policy x p frame → is_exit_in (slice_get g.spots p) ≡ true → is_at_end (frame ∷ frames) ≡ true
  front_exit x p _ frames (is_step raw {n} quiet ways es a) e = differ is_exit_in p (Step n) es refl e
  front_exit x p _ frames (is_branch left right' {m} {n} quiet ways es a a') e = differ is_exit_in p (Branch m n) es refl e
  front_exit x p _ frames (is_label {at} {mark} {j} {l} {s} {is} {n} es a) e = differ is_exit_in p (LabelSpot j l n) es refl e
  front_exit x p _ frames (is_open {at} {j} {d} {is} {n} lt es a) e = differ is_exit_in p (OpenSpot j d n) es refl e
  front_exit x p _ frames (is_close {at} {j} {d} {is} {n} lt es a) e = differ is_exit_in p (CloseSpot j d n) es refl e
  front_exit x p _ frames (is_call {at} {j} {callee} {is} {n} es a) e = differ is_exit_in p (CallSpot j callee.number n) es.0 refl e
  front_exit x p _ frames (is_end es ep) e = refl

  call_on : (stack : List Frame) (kept : List (Option Caps)) (caps : Caps) (word : Word) (phase : Phase) (p q : ℕ) (rets : List Ret) → StandsOn Means g stack kept caps word phase p q rets → is_call_in (slice_get g.spots p) ≡ true → ((phase ≡ Free) ⊎ (phase ≡ FreeSplit)) × (is_at_call stack ≡ true)
  call_on [] kept caps word phase p q rets h e = absurd h
  call_on (frame ∷ frames) kept caps word (Visit i a later) p q rets h e = differ is_call_in p (VisitSpot h.1.0.1 i a) h.1.0.4.0 refl e
  call_on (frame ∷ frames) kept caps word (Asked i a later) p q rets h e = differ is_call_in p (AskedSpot h.1.1.1 i a) (ap (slice_get g.spots) h.1.2 ∙ h.1.1.4.1) refl e
  call_on (frame ∷ frames) kept caps word Free p q rets h e = (inl refl, front_call (g.exit h.0) p frame frames (front_of g.spots g.policy (g.exit h.0) frame p h.1.0 h.1.2) e)
  call_on ((Todo (Call at j callee) ∷ is) ∷ frames) kept caps word FreeSplit p q rets h e = (inr refl, refl)
  call_on (_ ∷ frames) kept caps word FreeSplit p q rets h e = absurd h.1.2
  call_on (frame ∷ frames) kept caps word (Refused i a later) p q rets h e = absurd h.1
  call_on (frame ∷ frames) kept caps word Over p q rets h e = absurd h.1

  exit_on : (stack : List Frame) (kept : List (Option Caps)) (caps : Caps) (word : Word) (phase : Phase) (p q : ℕ) (rets : List Ret) → StandsOn Means g stack kept caps word phase p q rets → is_exit_in (slice_get g.spots p) ≡ true → (phase ≡ Free) × (is_at_end stack ≡ true)
  exit_on [] kept caps word phase p q rets h e = absurd h
  exit_on (frame ∷ frames) kept caps word (Visit i a later) p q rets h e = differ is_exit_in p (VisitSpot h.1.0.1 i a) h.1.0.4.0 refl e
  exit_on (frame ∷ frames) kept caps word (Asked i a later) p q rets h e = differ is_exit_in p (AskedSpot h.1.1.1 i a) (ap (slice_get g.spots) h.1.2 ∙ h.1.1.4.1) refl e
  exit_on (frame ∷ frames) kept caps word Free p q rets h e = (refl, front_exit (g.exit h.0) p frame frames (front_of g.spots g.policy (g.exit h.0) frame p h.1.0 h.1.2) e)
  exit_on ((Todo (Call at j callee) ∷ is) ∷ frames) kept caps word FreeSplit p q rets h e = differ is_exit_in p (SplitCall j callee.number h.1.1.2.0) (ap (slice_get g.spots) h.1.3 ∙ h.1.1.2.1.1 h.1.2) refl e
  exit_on (_ ∷ frames) kept caps word FreeSplit p q rets h e = absurd h.1.2
  exit_on (frame ∷ frames) kept caps word (Refused i a later) p q rets h e = absurd h.1
  exit_on (frame ∷ frames) kept caps word Over p q rets h e = absurd h.1

-- the program, under the game's own policy
abbrev pub problem_in : Plan → Game → Problem
problem_in plan g = record { plan = plan; policy = g.policy }

module _ (plan : Plan) (g : Game) (game : IsGameOf (problem_in plan g) g) where
  abbrev Means : Meaning
  Means = Reached g.policy g.spots g.states

  abbrev pub Rests : Board → Config → Type 0
  Rests b c = Stands Means g b c

  abbrev spot : Config → Option Spot
  spot c = slice_get g.spots c.pos

  pub violates : (b : Board) (c : Config) → Rests b c → bad_in g c.state (spot c) ≡ true → Violates (problem_in plan g) b
  violates b c h e = bad_violates Means g plan game.states game.laid game.routines b c h e

  -- a move of the pair is one of the board, and no refusal that a stop can answer
  pub moves_to : (b : Board) (c next : Config) (by : Move) → Rests b c → bad_in g c.state (spot c) ≡ false → leads_to g c by ≡ Some next → (to : Board) × GoesBy (problem_in plan g) b by to × Rests to next
  moves_to b c next by h good e =
      let to = board_moves Means g plan game.states game.laid game.routines b c next by h good e in
      (to.0, (to.1, unanswered Means g plan game.states game.laid game.routines b c next by h e), to.2)

  pub environments : (b : Board) (c : Config) → Rests b c → weavers_in (spot c) ≡ false → IsEnvironments b
  environments b c h e = environments_turn Means g plan game.states game.laid game.routines b c h e

  pub at_call : (b : Board) (c : Config) → Rests b c → is_call_in (spot c) ≡ true → ((b.phase ≡ Free) ⊎ (b.phase ≡ FreeSplit)) × (is_at_call b.stack ≡ true)
  at_call b c h e = call_on Means g b.stack b.kept b.caps b.word b.phase c.pos c.state c.rets h e

  pub at_end : (b : Board) (c : Config) → Rests b c → is_exit_in (spot c) ≡ true → (b.phase ≡ Free) × (is_at_end b.stack ≡ true)
  at_end b c h e = exit_on Means g b.stack b.kept b.caps b.word b.phase c.pos c.state c.rets h e

  -- the state of the pair is one of the states
  pub state_within : (b : Board) (c : Config) → Rests b c → c.state < g.states.count
  state_within b c h = state_below Means g plan game.states game.laid game.routines b c h

  pub starts : Rests (start_board (problem_in plan g)) (at_pair (g.entry g.main) g.states.start [])
  starts = start_stands Means g (problem_in plan g) refl game.states game.laid game.routines

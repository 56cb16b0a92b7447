-- What a move of a board tells is told by the spots of the pairs at which the boards stand.
use Rattle.std.proofs.Common.{◌≡◌, ℕ, List, [], ◌∷◌, ◌++◌, Bool, true, false, Option, Some, refl, sym, ap, ap₂, ◌∙◌, subst}
use Rattle.std.specs.Prelude.{slice_get}
use Rattle.cw_rights.specs.declared.capabilities.Caps.{Caps}
use Rattle.cw_rights.specs.Words.{Word}
use Rattle.cw_certs.specs.declared.moves.Move.{Move}
use Rattle.cw_syntax.specs.Plans.{Plain, Break, Continue, Return, Open, Close, Call, Group, Label, If, While, Do, For, Stm, Plan}
use Rattle.cw_syntax.specs.Frames.{Entry, Todo, Test, After, LoopEnd, End, Frame, settled}
use Rattle.cw_model.specs.Boards.{Problem, Phase, Visit, Asked, Refused, Free, FreeSplit, Over, Board}
use Rattle.cw_model.proofs.Moving.{board_on}
use Rattle.cw_game.specs.declared.spots.Spot.{Spot}
use Rattle.cw_game.specs.declared.spots.Spot.TheVariants.{Visit as VisitSpot, Asked as AskedSpot, Step, Branch, Label as LabelSpot, Open as OpenSpot, Close as CloseSpot}
use Rattle.cw_game.specs.declared.spots.Spot.TheVariants.{Call as CallSpot, SplitCall, Exit}
use Rattle.cw_game.specs.Games.{Game, Ret, Config}
use Rattle.cw_game.specs.Places.{TestAt}
use Rattle.cw_game.specs.Standing.{Meaning, FreeAt, StandsOn}
use Rattle.cw_game.proofs.Link.{Stands}
use Rattle.cw_trace.specs.Traces.{Names, answered_lines, passed_lines, move_lines, returned_lines, reached_lines, step_lines}
use Rattle.cw_trace.specs.Traces.{label_lines as board_label_lines}
use Rattle.cw_trace.specs.Told.{spot_lines, label_lines, lines_at, label_at}

module _ (Means : Meaning) (g : Game) (plan : Plan) (main : plan.main ≡ g.main) (names : Names) where
  abbrev problem : Problem
  problem = record { plan = plan; policy = g.policy }

  -- what stands at a position, and that both tell the same of it
  record IsTold (pos : ℕ) (frame : Frame) (frames : List Frame) : Type 0 where
    spot : Spot
    stands : slice_get g.spots pos ≡ Some spot
    moved : (by : Move) → passed_lines names problem false by (frame ∷ frames) ≡ spot_lines names g.policy g.main spot by
    reached : (caps : Caps) → board_label_lines names g.policy caps (frame ∷ frames) ≡ label_lines names g.policy caps spot

  test_told : (pos m k : ℕ) (at : ℕ) (decided stepped : Bool) (s : Stm) (is : Frame) (frames : List Frame) → TestAt g.spots decided pos m k → IsTold pos (Test at decided stepped s ∷ is) frames
  test_told pos m k at true stepped s is frames h = record { spot = Branch m k; stands = h; moved = λ by. refl; reached = λ caps. refl }
  test_told pos m k at false stepped s is frames h = record { spot = Step m; stands = h; moved = λ by. refl; reached = λ caps. refl }

  front_told : (x pos : ℕ) (frame : Frame) (frames : List Frame) → FreeAt g.spots g.policy x frame pos → settled frame ≡ true → IsTold pos frame frames
  front_told x pos [] frames h e = absurd h.2
  front_told x pos (Entry f j ∷ is) frames h e = record { spot = Step h.2.0; stands = h.2.1; moved = λ by. refl; reached = λ caps. refl }
  front_told x pos (Todo (Plain at) ∷ is) frames h e = record { spot = Step h.2.0; stands = h.2.1; moved = λ by. refl; reached = λ caps. refl }
  front_told x pos (Todo (Break at) ∷ is) frames h e = record { spot = Step h.2.1.0; stands = h.2.1.2; moved = λ by. refl; reached = λ caps. refl }
  front_told x pos (Todo (Continue at) ∷ is) frames h e = record { spot = Step h.2.1.0; stands = h.2.1.2; moved = λ by. refl; reached = λ caps. refl }
  front_told x pos (Todo (Return at) ∷ is) frames h e = record { spot = Step x; stands = h.2.1; moved = λ by. refl; reached = λ caps. refl }
  front_told x pos (Todo (Open at j d) ∷ is) frames h e = record { spot = OpenSpot j d h.2.0; stands = h.2.1.1; moved = λ by. refl; reached = λ caps. refl }
  front_told x pos (Todo (Close at j d) ∷ is) frames h e = record { spot = CloseSpot j d h.2.0; stands = h.2.1.1; moved = λ by. refl; reached = λ caps. refl }
  front_told x pos (Todo (Call at j callee) ∷ is) frames h e = record { spot = CallSpot j callee.number h.2.0; stands = h.2.1.0; moved = λ by. refl; reached = λ caps. refl }
  front_told x pos (Todo (Group ss) ∷ is) frames h e = cc
  front_told x pos (Todo (Label at mark j l s) ∷ is) frames h e = record { spot = LabelSpot j l h.2.1.0; stands = h.2.1.1; moved = λ by. refl; reached = λ caps. refl }
  front_told x pos (Todo (If at s u) ∷ is) frames h e = record { spot = Branch h.2.1.0 h.2.1.1; stands = h.2.1.2; moved = λ by. refl; reached = λ caps. refl }
  front_told x pos (Todo (While at s) ∷ is) frames h e = cc
  front_told x pos (Todo (Do at s) ∷ is) frames h e = cc
  front_told x pos (Todo (For at init decided stepped s) ∷ is) frames h e = cc
  front_told x pos (Test at decided stepped s ∷ is) frames h e = test_told pos h.2.1.0 h.2.1.2 at decided stepped s is frames h.2.1.3
  front_told x pos (After at ∷ is) frames h e = record { spot = Step h.2.1.0; stands = h.2.1.1; moved = λ by. refl; reached = λ caps. refl }
  front_told x pos (LoopEnd ∷ is) frames h e = cc
  front_told x pos (End f ∷ is) frames h e = record {
    spot = Exit f;
    stands = subst (λ n. slice_get g.spots n ≡ Some (Exit f)) (sym h.2.2) h.2.3;
    moved = λ by. ap (λ m. returned_lines names m f) main;
    reached = λ caps. refl;
  }

  abbrev told : ℕ → Move → List ℕ
  told pos by = lines_at names g.policy g.main (slice_get g.spots pos) by

  abbrev labelled : Caps → ℕ → List ℕ
  labelled caps pos = label_at names g.policy caps (slice_get g.spots pos)

  at_spot : (pos : ℕ) (spot : Spot) (by : Move) → slice_get g.spots pos ≡ Some spot → spot_lines names g.policy g.main spot by ≡ told pos by
  at_spot pos spot by e = sym (ap (λ o. lines_at names g.policy g.main o by) e)

  at_label : (pos : ℕ) (spot : Spot) (caps : Caps) → slice_get g.spots pos ≡ Some spot → label_lines names g.policy caps spot ≡ labelled caps pos
  at_label pos spot caps e = sym (ap (label_at names g.policy caps) e)

  pub moved_on : (stack : List Frame) (kept : List (Option Caps)) (caps : Caps) (word : Word) (phase : Phase) (p q : ℕ) (rets : List Ret) (by : Move)
      → StandsOn Means g stack kept caps word phase p q rets → move_lines names problem (board_on stack kept caps word phase) phase by ≡ told p by
  moved_on [] kept caps word phase p q rets by h = absurd h
  moved_on (frame ∷ frames) kept caps word (Visit i a later) p q rets by h = at_spot p (VisitSpot h.1.0.1 i a) by h.1.0.4.0
  moved_on (frame ∷ frames) kept caps word (Asked i a later) p q rets by h =
      ap (λ seam. answered_lines seam i a by) h.1.1.2 ∙ at_spot p (AskedSpot h.1.1.1 i a) by (ap (slice_get g.spots) h.1.2 ∙ h.1.1.4.1)
  moved_on (frame ∷ frames) kept caps word Free p q rets by h =
      let t = front_told (g.exit h.0) p frame frames h.1.0 h.1.2 in
      t.moved by ∙ at_spot p t.spot by t.stands
  moved_on ((Todo (Call at j callee) ∷ is) ∷ frames) kept caps word FreeSplit p q rets by h =
      at_spot p (SplitCall j callee.number h.1.1.2.0) by (ap (slice_get g.spots) h.1.3 ∙ h.1.1.2.1.1 h.1.2)
  moved_on (_ ∷ frames) kept caps word FreeSplit p q rets by h = absurd h.1.2
  moved_on (frame ∷ frames) kept caps word (Refused i a later) p q rets by h = absurd h.1
  moved_on (frame ∷ frames) kept caps word Over p q rets by h = absurd h.1

  pub reached_on : (stack : List Frame) (kept : List (Option Caps)) (caps : Caps) (word : Word) (phase : Phase) (p q : ℕ) (rets : List Ret)
      → StandsOn Means g stack kept caps word phase p q rets → reached_lines names g.policy (board_on stack kept caps word phase) phase ≡ labelled caps p
  reached_on [] kept caps word phase p q rets h = absurd h
  reached_on (frame ∷ frames) kept caps word (Visit i a later) p q rets h = at_label p (VisitSpot h.1.0.1 i a) caps h.1.0.4.0
  reached_on (frame ∷ frames) kept caps word (Asked i a later) p q rets h = at_label p (AskedSpot h.1.1.1 i a) caps (ap (slice_get g.spots) h.1.2 ∙ h.1.1.4.1)
  reached_on (frame ∷ frames) kept caps word Free p q rets h =
      let t = front_told (g.exit h.0) p frame frames h.1.0 h.1.2 in
      t.reached caps ∙ at_label p t.spot caps t.stands
  reached_on ((Todo (Call at j callee) ∷ is) ∷ frames) kept caps word FreeSplit p q rets h =
      at_label p (SplitCall j callee.number h.1.1.2.0) caps (ap (slice_get g.spots) h.1.3 ∙ h.1.1.2.1.1 h.1.2)
  reached_on (_ ∷ frames) kept caps word FreeSplit p q rets h = absurd h.1.2
  reached_on (frame ∷ frames) kept caps word (Refused i a later) p q rets h = absurd h.1
  reached_on (frame ∷ frames) kept caps word Over p q rets h = absurd h.1

  -- what a move of a board tells that stands at a pair, to a board that stands at another
  pub step_told : (b next : Board) (c d : Config) (by : Move) → Stands Means g b c → Stands Means g next d
      → step_lines names problem b by next ≡ lines_at names g.policy g.main (slice_get g.spots c.pos) by ++ label_at names g.policy next.caps (slice_get g.spots d.pos)
  step_told b next c d by h k =
      ap₂ (λ (x y : List ℕ). x ++ y) (moved_on b.stack b.kept b.caps b.word b.phase c.pos c.state c.rets by h)
      (reached_on next.stack next.kept next.caps next.word next.phase d.pos d.state d.rets k)

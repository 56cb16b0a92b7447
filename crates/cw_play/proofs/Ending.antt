-- Where a play ends: the whole play, with its trace.
use Rattle.std.proofs.Common.{◌≡◌, ℕ, List, [], ◌∷◌, ◌++◌, true, Option, Some, None, refl, sym, ap, ◌∙◌, subst, append-nil}
use Rattle.std.specs.Prelude.{slice_get}
use Rattle.std.proofs.lemmas.Option.{none-some, same_Some}
use Rattle.cw_rights.specs.declared.capabilities.Caps.{Caps}
use Rattle.cw_rights.specs.Policies.{PlainPolicy}
use Rattle.cw_rights.specs.Words.{Word}
use Rattle.cw_certs.specs.declared.moves.Move.{Move}
use Rattle.cw_certs.specs.Strategies.{How, Bad, Both, Row, Strategy}
use Rattle.cw_dfa.specs.Verdicts.{IsVerdict, verdict}
use Rattle.cw_syntax.specs.Plans.{Call, Plan}
use Rattle.cw_syntax.specs.Frames.{Todo, Frame}
use Rattle.cw_model.specs.Boards.{Phase, Visit, Asked, Refused, Free, FreeSplit, Over, Board, letters}
use Rattle.cw_game.specs.declared.spots.Spot.{Spot}
use Rattle.cw_game.specs.declared.spots.Spot.TheVariants.{Visit as VisitSpot, Asked as AskedSpot, Step, Branch, Label as LabelSpot, Open as OpenSpot, Close as CloseSpot}
use Rattle.cw_game.specs.declared.spots.Spot.TheVariants.{Call as CallSpot, SplitCall, Exit}
use Rattle.cw_game.specs.Games.{Game, Ret, Config, at_pair, letter_of, bad_in}
use Rattle.cw_game.specs.Closed.{IsClosedStrategy}
use Rattle.cw_game.specs.Reached.{Reached}
use Rattle.cw_game.specs.Standing.{Meaning, StandsOn, IsGameOf}
use Rattle.cw_game.proofs.Fronts.{Front, is_step, is_branch, is_label, is_open, is_close, is_call, is_end, front_of}
use Rattle.cw_game.proofs.Link.{Stands}
use Rattle.cw_echeck.proofs.Boards.{problem_in, violates}
use Rattle.cw_states.specs.States.{Lists, set_after}
use Rattle.cw_product.specs.Moves.{violated_at}
use Rattle.cw_trace.specs.Traces.{Names, Taken, trace}
use Rattle.cw_play.specs.declared.end.PlayEnd.{PlayEnd}
use Rattle.cw_play.specs.declared.end.PlayEnd.TheVariants.{Violation, TapeSpent}
use Rattle.cw_play.specs.Plays.{EndsBy, IsPlayBy}
use Rattle.cw_play.specs.Rows.{EndsAt}
use Rattle.cw_play.proofs.Held.{Tells, Sofar, Kept}
use Rattle.cw_play.proofs.Advances.{meant}

-- At the position of a label its letter is the front's.
module _ (Means : Meaning) (g : Game) where
  not_label : (p j l n : ℕ) (spot : Spot) → slice_get g.spots p ≡ Some (LabelSpot j l n) → slice_get g.spots p ≡ Some spot → LabelSpot j l n ≡ spot
  not_label p j l n spot e es = same_Some (LabelSpot j l n) spot (sym e ∙ es)

  front_letter : (x p j l n : ℕ) (frame : Frame) (frames : List Frame) (caps : Caps) → slice_get g.spots p ≡ Some (LabelSpot j l n) → Front g.spots g.policy x p frame
      → letters (frame ∷ frames) caps ≡ letter_of l caps ∷ []
  front_letter x p seam label after _ frames caps e (is_step raw {n} quiet ways es a) = absurd (let w = not_label p seam label after (Step n) e es in cc)
  front_letter x p seam label after _ frames caps e (is_branch left right' {m} {n} quiet ways es a a') = absurd (let w = not_label p seam label after (Branch m n) e es in cc)
  front_letter x p seam label after _ frames caps e (is_label {at} {mark} {j} {l} {s} {is} {n} es a) =
      let w = not_label p seam label after (LabelSpot j l n) e es in
      let same : l ≡ label = cc in
      ap (λ (k : ℕ). letter_of k caps ∷ []) same
  front_letter x p seam label after _ frames caps e (is_open {at} {j} {d} {is} {n} lt es a) = absurd (let w = not_label p seam label after (OpenSpot j d n) e es in cc)
  front_letter x p seam label after _ frames caps e (is_close {at} {j} {d} {is} {n} lt es a) = absurd (let w = not_label p seam label after (CloseSpot j d n) e es in cc)
  front_letter x p seam label after _ frames caps e (is_call {at} {j} {callee} {is} {n} es a) = absurd (let w = not_label p seam label after (CallSpot j callee.number n) e es.0 in cc)
  front_letter x p seam label after _ frames caps e (is_end {f} {is} es ep) = absurd (let w = not_label p seam label after (Exit f) e es in cc)

  letter_on : (stack : List Frame) (kept : List (Option Caps)) (caps : Caps) (word : Word) (phase : Phase) (p q j l n : ℕ) (rets : List Ret)
      → StandsOn Means g stack kept caps word phase p q rets → slice_get g.spots p ≡ Some (LabelSpot j l n) → letters stack caps ≡ letter_of l caps ∷ []
  letter_on [] kept caps word phase p q j l n rets h e = absurd h
  letter_on (frame ∷ frames) kept caps word (Visit i a later) p q j l n rets h e = absurd (let d = not_label p j l n (VisitSpot h.1.0.1 i a) e h.1.0.4.0 in cc)
  letter_on (frame ∷ frames) kept caps word (Asked i a later) p q j l n rets h e = absurd (let d = not_label p j l n (AskedSpot h.1.1.1 i a) e (ap (slice_get g.spots) h.1.2 ∙ h.1.1.4.1) in cc)
  letter_on (frame ∷ frames) kept caps word Free p q j l n rets h e = front_letter (g.exit h.0) p j l n frame frames caps e (front_of g.spots g.policy (g.exit h.0) frame p h.1.0 h.1.2)
  letter_on ((Todo (Call at k callee) ∷ is) ∷ frames) kept caps word FreeSplit p q j l n rets h e =
      absurd (let d = not_label p j l n (SplitCall k callee.number h.1.1.2.0) e (ap (slice_get g.spots) h.1.3 ∙ h.1.1.2.1.1 h.1.2) in cc)
  letter_on (_ ∷ frames) kept caps word FreeSplit p q j l n rets h e = absurd h.1.2
  letter_on (frame ∷ frames) kept caps word (Refused i a later) p q j l n rets h e = absurd h.1
  letter_on (frame ∷ frames) kept caps word Over p q j l n rets h e = absurd h.1

  letter_is : (b : Board) (c : Config) (j l n : ℕ) → Stands Means g b c → slice_get g.spots c.pos ≡ Some (LabelSpot j l n) → letters b.stack b.caps ≡ letter_of l b.caps ∷ []
  letter_is b c j l n h e = letter_on b.stack b.kept b.caps b.word b.phase c.pos c.state j l n c.rets h e

-- what breaks a rule is a label's letter
broken_at : (g : Game) (v : Lists) (q pos rule : ℕ) (o : Option Spot) → slice_get g.spots pos ≡ o → violated_at v q o ≡ Some rule
    → (seam : ℕ) × (label : ℕ) × (after : ℕ) × (slice_get g.spots pos ≡ Some (LabelSpot seam label after)) × (verdict v.policy.rules 0 1 (set_after v q label) ≡ Some rule)
broken_at g v q pos rule (Some (LabelSpot j l n)) e h = (j, l, n, e, h)
broken_at g v q pos rule _ e h = absurd (none-some rule h)

module _ (g : Game) (v : Lists) (names : Names) (s : Strategy) (first : ℕ) (tape : List Move) (old : List ℕ) (closed : IsClosedStrategy g s) (under : v.policy ≡ g.policy) where
  abbrev row_in : ℕ → ℕ → ℕ → How → Row
  row_in pos q aim how = record { pos = pos; state = q; aim = aim; how = how }

  abbrev pub Whole : Plan → List ℕ → PlayEnd → Type 0
  Whole plan text end = (steps : List Taken) × IsPlayBy (problem_in plan g) s first tape end steps × (text ≡ old ++ trace names (problem_in plan g) steps)

  whole : (plan : Plan) (text : List ℕ) (c : Config) (at : ℕ) (calls : List ℕ) (rest : List Move) (so : Sofar g names plan s first tape old text c at calls rest) (r : Row) (end : PlayEnd)
      → slice_get s.rows at ≡ Some r → EndsBy (problem_in plan g) so.board rest r.how end → Whole plan text end
  whole plan text c at calls rest so r end er h =
      (so.steps, subst (λ (l : List Taken). IsPlayBy (problem_in plan g) s first tape end l) (append-nil so.steps) (so.goes end [] (record { row = r; has = er; ends = h })), so.told)

  by_end : (text : List ℕ) (at : ℕ) (calls : List ℕ) (rest : List Move) (k : Kept g v names s first tape old text at calls rest) (how : How) (word : Option Move) (end : PlayEnd)
      → slice_get s.rows at ≡ Some (row_in k.pos k.state k.aim how) → EndsAt g v (row_in k.pos k.state k.aim how) word end → (word ≡ None → rest ≡ [])
      → (plan : Plan) → IsGameOf (problem_in plan g) g → Tells g v → Whole plan text end
  by_end text at calls rest k how word (Violation rule) er h spent plan game tells =
      let so = k.sofar plan game tells in
      let c = at_pair k.pos k.state k.rets in
      let Means = Reached g.policy g.spots g.states in
      let hows : row_in k.pos k.state k.aim how ≡ row_in k.pos k.state k.aim Bad = ap (row_in k.pos k.state k.aim) h.0 in
      let here : slice_get s.rows at ≡ Some (row_in k.pos k.state k.aim Bad) = er ∙ ap Some hows in
      let bad : bad_in g k.state (slice_get g.spots k.pos) ≡ true = closed at (row_in k.pos k.state k.aim Bad) here in
      let broken = broken_at g v k.state k.pos rule (slice_get g.spots k.pos) refl h.1 in
      let letter = letter_is Means g so.board c broken.0 broken.1 broken.2 so.stands broken.3 in
      let is_rule = ap (λ (p : PlainPolicy). verdict p.rules 0 1 (set_after v k.state broken.1)) (sym under) ∙ broken.4 in
      let told : IsVerdict g.policy.rules (so.board.word ++ letter_of broken.1 so.board.caps ∷ []) (Some rule) =
      subst (λ (o : Option ℕ). IsVerdict g.policy.rules (so.board.word ++ letter_of broken.1 so.board.caps ∷ []) o) is_rule
      (tells.rule k.state so.board.word so.board.caps broken.1 (meant Means g so.board c so.stands)) in
      whole plan text c at calls rest so (row_in k.pos k.state k.aim Bad) (Violation rule) here
      (violates plan g game so.board c so.stands bad, subst (λ (w : Word). IsVerdict g.policy.rules (so.board.word ++ w) (Some rule)) (sym letter) told)
  by_end text at calls rest k how word TapeSpent er h spent plan game tells =
      whole plan text (at_pair k.pos k.state k.rets) at calls rest (k.sofar plan game tells) (row_in k.pos k.state k.aim (Both h.0 h.1)) TapeSpent
      (er ∙ ap (λ (how : How). Some (row_in k.pos k.state k.aim how)) h.2) (spent h.3)

  pub ends : (text : List ℕ) (at : ℕ) (calls : List ℕ) (rest : List Move) (r : Row) (word : Option Move) (end : PlayEnd) → Kept g v names s first tape old text at calls rest
      → slice_get s.rows at ≡ Some r → EndsAt g v r word end → (word ≡ None → rest ≡ []) → (plan : Plan) → IsGameOf (problem_in plan g) g → Tells g v → Whole plan text end
  ends text at calls rest r word end k er h spent plan game tells =
      let same : row_in k.pos k.state k.aim k.stands.0 ≡ r = same_Some (row_in k.pos k.state k.aim k.stands.0) r (sym k.stands.1 ∙ er) in
      by_end text at calls rest k k.stands.0 word end k.stands.1 (subst (λ (r : Row). EndsAt g v r word end) (sym same) h) spent plan game tells

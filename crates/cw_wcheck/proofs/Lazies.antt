-- A table that tries only what is lost to skip is lazy, over stacks of any depth.
use Rattle.std.proofs.Common.{◌≡◌, ⊎_elim, ℕ, suc, ◌+◌, List, [], ◌∷◌, Bool, true, false, cond, not, Option, Some, None, is_some, option_map, refl, ap, ◌∙◌, subst, eq-eqb}
use Rattle.std.specs.Prelude.{slice_get}
use Rattle.std.specs.Int.{bit_at}
use Rattle.std.proofs.lemmas.Option.{none-some, same_Some}
use Rattle.std.proofs.lemmas.Nat.Bits.{bit_at_ones}
use Rattle.cw_rights.specs.declared.capabilities.Caps.{Caps}
use Rattle.cw_rights.specs.Words.{Word}
use Rattle.cw_certs.specs.declared.moves.Move.TheVariants.{Skip, Try, Stop}
use Rattle.cw_core.specs.declared.ids.MemId.{MemId}
use Rattle.cw_certs.specs.declared.rows.TryRow.{TryRow}
use Rattle.cw_certs.specs.Tables.{Table, try_at}
use Rattle.cw_syntax.specs.Plans.{Plan}
use Rattle.cw_syntax.specs.Frames.{Frame}
use Rattle.cw_model.specs.Boards.{Problem, Phase, Visit, Asked, Refused, Free, FreeSplit, Over, Board, seam_in, onward, passed_by, moved, Forced}
use Rattle.cw_model.specs.Runs.{try_in, stops, stays_where, memories, last, start_state, Lazy}
use Rattle.cw_game.specs.Games.{AreStates, Game, resumed_in, resumed, Ret}
use Rattle.cw_game.specs.Places.{IsLaidOut, HasRoutines}
use Rattle.cw_game.specs.Pairs.{has, leads, all_states}
use Rattle.cw_game.specs.Closed.{rows_ok, is_closed_table}
use Rattle.cw_game.specs.Necessity.{TriesOnlyLost}
use Rattle.cw_game.specs.Standing.{Meaning, StandsOn}
use Rattle.cw_game.proofs.Stands.{refused_at, stops_is}
use Rattle.std.proofs.lemmas.Bool.{and_parts}
use Rattle.cw_game.proofs.Necessity.{Owed, call_owed, all_owed}
use Rattle.cw_game.proofs.Standing.{IsStanding, standing_on, state_below, lost_board}
use Rattle.cw_wcheck.proofs.Kept.{KeptOn, Hands}
use Rattle.cw_wcheck.proofs.Tries.{under_of, choice_at}
use Rattle.cw_wcheck.proofs.Sounds.{kept_along, kept_start}

module _ (Means : Meaning) (g : Game) (t : Table) (plan : Plan) (right : AreStates g.policy g.spots g.states Means) (laid : IsLaidOut plan g) (routines : HasRoutines plan g)
    (only : TriesOnlyLost g t) where
  abbrev problem : Problem
  problem = record { plan = plan; policy = g.policy }

  -- what each level of the stack owes to the returns below it
  abbrev Owes : ℕ → List Ret → Type 0
  Owes e rets = Owed g (IsStanding Means g) (has e) rets

  hands : Hands Means Owes g t
  hands p m q e j f n e2 true r rets word caps h l s es ei s2 x =
      call_owed g (IsStanding Means g) (standing_on Means g problem refl right laid routines) (state_below Means g problem refl right laid routines) n (Some q) (has e) (has e2) rets x
      (only.split_calls p m q e j f n e2 r (l, s) es ei s2)
  hands p m q e j f n e2 false r rets word caps h l s es ei s2 x =
      call_owed g (IsStanding Means g) (standing_on Means g problem refl right laid routines) (state_below Means g problem refl right laid routines) n None (has e) (has e2) rets x
      (only.calls p m q e j f n e2 r (l, s) es ei s2)

  tries_there : (b : Bool) (m : ℕ) (ms ns : List ℕ) → option_map (λ new. new ∷ ms) (stays_where b m) ≡ Some ns → b ≡ true
  tries_there true m ms ns e = refl
  tries_there false m ms ns e = absurd (none-some ns e)

  row_stops : (o : Option TryRow) → stops o ≡ true → (r : TryRow) × (o ≡ Some r) × (r.refused ≡ None)
  row_stops None e = cc
  row_stops (Some r) e = (r, refl, by r.refused e)
    where
      by : (o : Option MemId) → not (is_some o) ≡ true → o ≡ None
      by None e = refl
      by (Some m) e = cc

  -- where the table tries
  lazy_on : (stack : List Frame) (kept : List (Option Caps)) (caps : Caps) (word : Word) (phase : Phase) (ms ns : List ℕ) (skipped : Board)
      → let b : Board = record { stack = stack; kept = kept; caps = caps; word = word; phase = phase } in KeptOn Means Owes g t stack caps word phase kept ms
      → memories problem t b ms phase Try ≡ Some ns → moved problem b phase Skip ≡ Some skipped → (n : ℕ) × Forced problem n skipped
  lazy_on [] kept caps word (Visit i a later) ms ns skipped k em en = absurd k
  lazy_on (frame ∷ frames) kept caps word (Visit i a later) [] ns skipped k em en = absurd k
  lazy_on (frame ∷ frames) kept caps word (Visit i a later) (m ∷ ms) ns skipped k em en =
      let c = choice_at Means Owes g t frame frames kept caps word i a later m ms k in
      let tried = subst (λ o. is_some (try_in t o i m) ≡ true) c.seam (tries_there (is_some (try_in t (seam_in frame) i m)) m ms ns em) in
      let lost = only.tries c.p m c.q c.e c.j i a (c.live, c.meant) c.spot tried in
      let b : Board = record { stack = frame ∷ frames; kept = kept; caps = caps; word = word; phase = Visit i a later } in
      subst (λ y. (n : ℕ) × Forced problem n y) (same_Some (passed_by b i later) skipped en)
      (lost_board Means g problem refl right laid routines (passed_by b i later) (c.p + 2) c.q (has c.e) c.rets c.skipped c.extra lost)
  lazy_on stack kept caps word (Asked i a later) ms ns skipped k em en = absurd (none-some skipped en)
  lazy_on stack kept caps word (Refused i a later) ms ns skipped k em en = absurd (none-some ns em)
  lazy_on stack kept caps word Free ms ns skipped k em en = absurd (none-some skipped en)
  lazy_on stack kept caps word FreeSplit ms ns skipped k em en = absurd (none-some skipped en)
  lazy_on stack kept caps word Over ms ns skipped k em en = absurd (none-some skipped en)

  -- and where it stops
  stops_on : (stack : List Frame) (kept : List (Option Caps)) (caps : Caps) (word : Word) (phase : Phase) (ms ns : List ℕ) (skipped : Board)
      → let b : Board = record { stack = stack; kept = kept; caps = caps; word = word; phase = phase } in KeptOn Means Owes g t stack caps word phase kept ms
      → memories problem t b ms phase Stop ≡ Some ns → moved problem b phase Skip ≡ Some skipped → (n : ℕ) × Forced problem n skipped
  stops_on [] kept caps word (Refused i a later) ms ns skipped k em en = absurd k
  stops_on (frame ∷ frames) kept caps word (Refused i a later) [] ns skipped k em en = absurd k
  stops_on (frame ∷ frames) kept caps word (Refused i a later) (m ∷ ms) ns skipped k em en =
      let w = k.3 in
      let p = w.0 in
      let q = w.1 in
      let s = w.2.1 in
      let halts = subst (λ o. stops (try_in t o i m) ≡ true) s.2 (tries_there (stops (try_in t (seam_in frame) i m)) m ms ns em) in
      let r = row_stops (try_at t s.1 i m) halts in
      let es = ap (slice_get g.spots) w.2.2 ∙ s.4.1 in
      let can = stops_is Means g right (g.exit k.0) frame caps word i a later w.2.0 q s w.2.3 ∙ w.2.4 in
      let to : resumed g p q ≡ Some (p + 1, q) = ap (resumed_in g p q) es ∙ ap (λ y. cond y (Some (p + 1, q)) None) can in
      let lost = only.stops p m q k.1 s.1 i a r.0 (p + 1, q) (w.3, w.4) es r.1 r.2 to in
      let b : Board = record { stack = frame ∷ frames; kept = kept; caps = caps; word = word; phase = Refused i a later } in
      let st : StandsOn Means g (frame ∷ frames) kept caps word (onward (suc i) later) (p + 1) q k.2 =
      (k.0, refused_at Means g.spots g.policy (g.exit k.0) frame caps word i a later w.2.0 p q s w.2.2 w.2.3, under_of Means Owes g t k.0 k.1 frames ms kept k.2 k.5) in
      subst (λ y. (n : ℕ) × Forced problem n y) (same_Some (passed_by b i later) skipped en)
      (lost_board Means g problem refl right laid routines (passed_by b i later) (p + 1) q (has k.1) k.2 st k.4 lost)
  stops_on stack kept caps word (Visit i a later) ms ns skipped k em en = absurd (none-some ns em)
  stops_on stack kept caps word (Asked i a later) ms ns skipped k em en = absurd (none-some skipped en)
  stops_on stack kept caps word Free ms ns skipped k em en = absurd (none-some skipped en)
  stops_on stack kept caps word FreeSplit ms ns skipped k em en = absurd (none-some skipped en)
  stops_on stack kept caps word Over ms ns skipped k em en = absurd (none-some skipped en)

  lazy_at : is_closed_table g t ≡ true → Lazy problem t
  lazy_at closed run by next skipped woven which step skip =
      let c = and_parts (leads t (g.entry g.main) t.start.0 g.states.start (all_states g)) (rows_ok g t t.live) closed in
      let all : Owes (all_states g) [] =
      all_owed g (IsStanding Means g) (standing_on Means g problem refl right laid routines) (state_below Means g problem refl right laid routines) (has (all_states g))
      (λ x lt. eq-eqb (bit_at (all_states g) x) 1 (bit_at_ones g.states.count x lt)) [] in
      let start = kept_start Means Owes g t plan right laid c.1 hands c.0 all in
      let s = start_state problem t in
      let k = kept_along Means Owes g t plan right laid c.1 hands s run start woven in
      let u = last s run in
      ⊎_elim
      (λ y. lazy_on u.board.stack u.board.kept u.board.caps u.board.word u.board.phase u.mems next.mems skipped k
      (subst (λ m. memories problem t u.board u.mems u.board.phase m ≡ Some next.mems) y step.1) skip.1)
      (λ y. stops_on u.board.stack u.board.kept u.board.caps u.board.word u.board.phase u.mems next.mems skipped k
      (subst (λ m. memories problem t u.board u.mems u.board.phase m ≡ Some next.mems) y step.1) skip.1)
      which

-- Where what is lost to skip is all that is tried the table is lazy.
pub lazy : (Means : Meaning) (p : Problem) (g : Game) (t : Table) → g.policy ≡ p.policy → AreStates g.policy g.spots g.states Means → IsLaidOut p.plan g → HasRoutines p.plan g
    → is_closed_table g t ≡ true → TriesOnlyLost g t → Lazy p t
lazy Means p g t e right laid routines closed only =
    subst (λ policy. Lazy (record { plan = p.plan; policy = policy }) t) e (lazy_at Means g t p.plan right laid routines only closed)

-- The steps of one process as steps of the world: the environment's, and the weaver's after it.
use Rattle.std.proofs.Common.{◌≡◌, ◌<◌, ℕ, zero, suc, List, [], ◌∷◌, ◌++◌, set, false, Option, Some, None, option_map, refl, sym, ap, ap₂, ◌∙◌, subst, arith}
use Rattle.std.specs.Prelude.{slice_get}
use Rattle.std.proofs.lemmas.Option.{none-some, same_Some}
use Rattle.cw_lemmas.proofs.Lists.{get_set}
use Rattle.cw_certs.specs.declared.moves.Move.{Move}
use Rattle.cw_certs.specs.Tables.{Table}
use Rattle.cw_syntax.specs.Plans.{Plan}
use Rattle.cw_model.specs.Boards.{Problem, Board, Party, Weaver, Environment, turn_of}
use Rattle.cw_model.specs.Laws.{party_of}
use Rattle.cw_model.specs.Runs.{State, WovenStep}
use Rattle.cw_model.proofs.Moving.{one_party}
use Rattle.cw_game.specs.Games.{Game}
use Rattle.cw_trace.specs.Traces.{Names}
use Rattle.cw_trace.specs.Steps.{Step as RunStep, Follows, state_after, entry_by as run_entry, entries_of as run_entries}
use Rattle.cw_trace.proofs.Lists.{cons_head, cons_tail}
use Rattle.cw_run.specs.Lines.{own_of}
use Rattle.cw_run.proofs.Runs.{own_lines, own_trace}
use Rattle.cw_worlds.specs.Forks.{at_fork}
use Rattle.cw_worlds.specs.Worlds.{World, Makes, WorldStep}
use Rattle.cw_procs.specs.Steps.{Entry}
use Rattle.cw_procs.specs.Told.{process_lines, told}
use Rattle.cw_procs.proofs.First.{turn_weavers, NoneBefore, AllRest, first_at, none_first}
use Rattle.cw_procs.proofs.OneWorld.{no_fork}
use Rattle.cw_procs.proofs.Segments.{Segment, none, then_on, one}

-- replacing
pub set_same : {A : Type 0} (w : List A) (i : ℕ) (s : A) → slice_get w i ≡ Some s → set w i s ≡ w
set_same [] i s e = refl
set_same (x ∷ w) zero s e = ap (λ y. y ∷ w) (sym (same_Some x s e))
set_same (x ∷ w) (suc i) s e = ap (λ l. x ∷ l) (set_same w i s e)

pub set_twice : {A : Type 0} (w : List A) (i : ℕ) (a b : A) → set (set w i a) i b ≡ set w i b
set_twice [] i a b = refl
set_twice (x ∷ w) zero a b = refl
set_twice (x ∷ w) (suc i) a b = ap (λ l. x ∷ l) (set_twice w i a b)

-- the others stay
pub get_other : {A : Type 0} (w : List A) (i k : ℕ) (x z : A) → k < i → slice_get (set w i x) k ≡ Some z → slice_get w k ≡ Some z
get_other [] i k x z lt e = absurd (none-some z e)
get_other (y ∷ w) zero k x z lt e = absurd (omega (arith, lt))
get_other (y ∷ w) (suc i) zero x z lt e = e
get_other (y ∷ w) (suc i) (suc k) x z lt e = get_other w i k x z (omega (arith, lt)) e

module _ (names : Names) (g : Game) (t : Table) (plan : Plan) (forks : List ℕ) where
  abbrev problem : Problem
  problem = record { plan = plan; policy = g.policy }

  abbrev Seg : World → List Entry → List ℕ → World → Type 0
  Seg w entries text after = Segment names problem t forks w entries text after

  module _ (i : ℕ) (from : State) where
    abbrev own : List ℕ → List ℕ
    own = own_of (Some i)

    abbrev lines : Board → Move → Board → List ℕ
    lines b by next = own_lines names g t plan from own b by next

    abbrev trace : State → List RunStep → List ℕ
    trace s steps = own_trace names g t plan from own s steps

    -- what a move of the process tells
    told_is : (w : World) (s next : State) (by : Move) → slice_get w i ≡ Some s → told names problem w i (Makes by) (set w i next) ≡ lines s.board by next.board
    told_is w s next by e =
        ap₂ (λ (a b : Option State). process_lines names problem i (option_map (λ (z : State). z.board) a) by (option_map (λ (z : State). z.board) b)) e (get_set w i s next e)

    -- a step of a run that reads no entry is the weaver's
    weavers_step : (s next : State) (by : Move) (more : List Move) → WovenStep problem t s by next → run_entry (turn_of s.board.phase) by ++ more ≡ [] → turn_of s.board.phase ≡ Some Weaver
    weavers_step s next by more h e = on (party_of by) (one_party problem s.board by next.board h.0)
      where
        on : (who : Party) → turn_of s.board.phase ≡ Some who → turn_of s.board.phase ≡ Some Weaver
        on Weaver k = k
        on Environment k = let z = sym (ap (λ o. run_entry o by ++ more) k) ∙ e in cc

    no_more : (s next : State) (by : Move) (more : List Move) → turn_of s.board.phase ≡ Some Weaver → run_entry (turn_of s.board.phase) by ++ more ≡ [] → more ≡ []
    no_more s next by more turn e = sym (ap (λ o. run_entry o by ++ more) turn) ∙ e

    -- The weaver's steps.
    pub weaves : (w : World) (s : State) (steps : List RunStep) → slice_get w i ≡ Some s → Follows problem t s steps → run_entries s steps ≡ [] → NoneBefore w i
        → Seg w [] (trace s steps) (set w i (state_after s steps))
    weaves w s [] gets h e before = subst (λ z. Seg w [] [] z) (sym (set_same w i s gets)) (none names problem t forks w)
    weaves w s (step ∷ later) gets h e before =
        let turn = weavers_step s step.next step.by (run_entries step.next later) h.0 e in
        let at = turn_weavers s.board.phase turn in
        let w2 = set w i step.next in
        let move : WorldStep problem t forks w i (Makes step.by) w2 = (s, step.next, gets, no_fork forks s.board.phase s.board.stack at, h.0, refl) in
        let first = one names problem t forks w w2 i (Makes step.by) (Some i) (first_at w i s gets at before) move refl in
        let first2 = subst (λ l. Seg w [] l w2) (told_is w s step.next step.by gets) first in
        let rest =
        weaves w2 step.next later (get_set w i s step.next gets) h.1 (no_more s step.next step.by (run_entries step.next later) turn e)
        (λ k z lt g2. before k z lt (get_other w i k step.next z lt g2)) in
        subst (λ z. Seg w [] (lines s.board step.by step.next.board ++ trace step.next later) z) (set_twice w i step.next (state_after step.next later))
        (then_on names problem t forks w w2 (set w2 i (state_after step.next later)) [] [] (lines s.board step.by step.next.board) (trace step.next later) first2 rest)

    -- A process after a step of the environment: its first step is that, and those after it are the weaver's.
    pub record Answered (s : State) (by : Move) (steps : List RunStep) : Type 0 where
      pub next : State
      pub later : List RunStep
      pub is : steps ≡ record { by = by; next = next } ∷ later
      pub step : WovenStep problem t s by next
      pub follows : Follows problem t next later
      pub quiet : run_entries next later ≡ []

    pub answered : (s : State) (by : Move) (steps : List RunStep) → turn_of s.board.phase ≡ Some Environment → Follows problem t s steps → run_entries s steps ≡ by ∷ [] → Answered s by steps
    answered s by [] turn h e = cc
    answered s by (step ∷ later) turn h e =
        let entries : step.by ∷ run_entries step.next later ≡ by ∷ [] = sym (ap (λ o. run_entry o step.by ++ run_entries step.next later) turn) ∙ e in
        let head = cons_head step.by by (run_entries step.next later) [] entries in
        record {
          next = step.next;
          later = later;
          is = ap (λ (m : Move). record { by = m; next = step.next } ∷ later) head;
          step = subst (λ m. WovenStep problem t s m step.next) head h.0;
          follows = h.1;
          quiet = cons_tail step.by by (run_entries step.next later) [] entries;
        }

    -- A move of the process in the world.
    pub moves_on : (w : World) (s : State) (by : Move) (steps : List RunStep) → slice_get w i ≡ Some s → AllRest w → at_fork forks s.board ≡ false → turn_of s.board.phase ≡ Some Environment
        → Follows problem t s steps → run_entries s steps ≡ by ∷ [] → Seg w (record { process = i; act = Makes by } ∷ []) (trace s steps) (set w i (state_after s steps))
    moves_on w s by steps gets rest away turn h e =
        let a = answered s by steps turn h e in
        let w2 = set w i a.next in
        let first = one names problem t forks w w2 i (Makes by) None (none_first w rest) (s, a.next, gets, away, a.step, refl) tt in
        let first2 = subst (λ l. Seg w (record { process = i; act = Makes by } ∷ []) l w2) (told_is w s a.next by gets) first in
        let later = weaves w2 a.next a.later (get_set w i s a.next gets) a.follows a.quiet (λ k z lt g2. rest k z (get_other w i k a.next z lt g2)) in
        let all = then_on names problem t forks w w2 (set w2 i (state_after a.next a.later)) (record { process = i; act = Makes by } ∷ []) [] (lines s.board by a.next.board) (trace a.next a.later)
        first2 later in
        subst (λ (l : List RunStep). Seg w (record { process = i; act = Makes by } ∷ []) (trace s l) (set w i (state_after s l))) (sym a.is)
        (subst (λ z. Seg w (record { process = i; act = Makes by } ∷ []) (lines s.board by a.next.board ++ trace a.next a.later) z) (set_twice w i a.next (state_after a.next a.later)) all)

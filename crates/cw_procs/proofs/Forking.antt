-- A fork as steps of the world: the process goes right, its copy left, and then the weaver moves in both, the parent first.
use Rattle.std.proofs.Common.{◌≡◌, ◌<◌, ℕ, zero, suc, List, [], ◌∷◌, ◌++◌, map, set, length, true, false, Option, Some, None, refl, sym, ap, ap₂, ◌∙◌, subst, ⊎_elim, arith}
use Rattle.std.proofs.Math.ListN.{length-set}
use Rattle.std.specs.Prelude.{slice_get}
use Rattle.std.proofs.lemmas.Option.{none-some, slice_get_within}
use Rattle.cw_lemmas.proofs.Lists.{get_set, get_front, get_last}
use Rattle.cw_rights.specs.declared.capabilities.Limit.{Limit}
use Rattle.cw_rights.specs.declared.capabilities.Caps.{Caps}
use Rattle.cw_rights.specs.declared.capabilities.Primitive.{Primitive}
use Rattle.cw_rights.specs.declared.capabilities.Primitive.TheVariants.{Enter, Limit as LimitOf}
use Rattle.cw_rights.specs.Words.{Word as Letters}
use Rattle.cw_rights.specs.Policies.{PlainPolicy}
use Rattle.cw_certs.specs.declared.moves.Move.{Move}
use Rattle.cw_certs.specs.declared.moves.Move.TheVariants.{Left, Right}
use Rattle.cw_certs.specs.Tables.{Table}
use Rattle.cw_syntax.specs.Plans.{Plan, Label}
use Rattle.cw_syntax.specs.Frames.{Item, Todo, Frame}
use Rattle.cw_model.specs.Boards.{Problem, Phase, Free, Board, Environment, begin, onward, way_of, landed, moved, turn_of}
use Rattle.cw_model.specs.Runs.{State, WovenStep}
use Rattle.cw_model.proofs.Moving.{board_on}
use Rattle.cw_game.specs.Games.{Game}
use Rattle.cw_game.proofs.Moves.{step_of}
use Rattle.cw_trace.specs.Traces.{Names, move_lines, reached_lines, label_lines}
use Rattle.cw_trace.specs.Steps.{Step as RunStep, Follows, state_after, entries_of as run_entries}
use Rattle.cw_run.specs.Lines.{own_of}
use Rattle.cw_run.proofs.Runs.{own_lines, own_trace}
use Rattle.cw_worlds.specs.Forks.{at_fork, forks_in}
use Rattle.cw_worlds.specs.Worlds.{World, Forks}
use Rattle.cw_worlds.proofs.Meeting.{ForkItem, fork_if, fork_test, fork_item}
use Rattle.cw_worlds.proofs.Sets.{among_set}
use Rattle.cw_procs.specs.Steps.{Entry, is_weavers_in}
use Rattle.cw_procs.specs.Told.{fork_line}
use Rattle.cw_procs.proofs.First.{NoneBefore, AllRest, none_first}
use Rattle.cw_procs.proofs.Segments.{Segment, then_on, one}
use Rattle.cw_procs.proofs.Embedding.{get_other, Answered, answered, weaves}

pub set_front : {A : Type 0} (w : List A) (c : A) (i : ℕ) (s x : A) → slice_get w i ≡ Some s → set (w ++ c ∷ []) i x ≡ set w i x ++ c ∷ []
set_front [] c i s x e = absurd (none-some s e)
set_front (y ∷ w) c zero s x e = refl
set_front (y ∷ w) c (suc i) s x e = ap (λ l. y ∷ l) (set_front w c i s x e)

pub set_last : {A : Type 0} (w : List A) (c x : A) → set (w ++ c ∷ []) (length w) x ≡ w ++ x ∷ []
set_last [] c x = refl
set_last (y ∷ w) c x = ap (λ l. y ∷ l) (set_last w c x)

pub get_within : {A : Type 0} (w more : List A) (k : ℕ) (z : A) → k < length w → slice_get (w ++ more) k ≡ Some z → slice_get w k ≡ Some z
get_within [] more k z lt e = absurd (omega (arith, lt))
get_within (y ∷ w) more zero z lt e = e
get_within (y ∷ w) more (suc k) z lt e = get_within w more k z (omega (arith, lt)) e

-- Where a front begins no label is reached: a primitive is before it.
label_before : (names : Names) (policy : PlainPolicy) (limits : List Limit) (b : Board) (later : List Primitive)
    → reached_lines names policy b (onward 0 (map (λ limit. LimitOf limit) limits ++ Enter ∷ later)) ≡ []
label_before names policy [] b later = refl
label_before names policy (l ∷ limits) b later = refl

begun_quiet : (names : Names) (policy : PlainPolicy) (b : Board) (phase : Phase) → ((phase ≡ Free) → label_lines names policy b.caps b.stack ≡ []) → reached_lines names policy b phase ≡ []
begun_quiet names policy b Free h = h refl
begun_quiet names policy b _ h = refl

begins_quiet : (names : Names) (policy : PlainPolicy) (stack : List Frame) (kept : List (Option Caps)) (caps : Caps) (word : Letters)
    → reached_lines names policy (board_on stack kept caps word (begin policy stack)) (begin policy stack) ≡ []
begins_quiet names policy [] kept caps word = refl
begins_quiet names policy ((Todo (Label at mark j l s) ∷ is) ∷ frames) kept caps word =
    label_before names policy policy.limits (board_on ((Todo (Label at mark j l s) ∷ is) ∷ frames) kept caps word (begin policy ((Todo (Label at mark j l s) ∷ is) ∷ frames))) []
begins_quiet names policy (frame ∷ frames) kept caps word =
    begun_quiet names policy (board_on (frame ∷ frames) kept caps word (begin policy (frame ∷ frames))) (begin policy (frame ∷ frames)) (λ e. refl)

module _ (names : Names) (g : Game) (t : Table) (plan : Plan) (forks : List ℕ) where
  abbrev problem : Problem
  problem = record { plan = plan; policy = g.policy }

  abbrev Seg : World → List Entry → List ℕ → World → Type 0
  Seg w entries text after = Segment names problem t forks w entries text after

  -- A fork tells nothing of its own.
  fork_moves : (stack : List Frame) (kept : List (Option Caps)) (caps : Caps) (word : Letters) (phase : Phase) (by : Move) → forks_in forks phase stack ≡ true
      → (phase ≡ Free) × (move_lines names problem (board_on stack kept caps word phase) phase by ≡ [])
  fork_moves ((i ∷ is) ∷ frames) kept caps word Free by e = on i (fork_item forks i e)
    where
      on : (i : Item) → ForkItem i → (Free ≡ Free) × (move_lines names problem (board_on ((i ∷ is) ∷ frames) kept caps word Free) Free by ≡ [])
      on _ (fork_if at s t) = (refl, refl)
      on _ (fork_test at stepped s) = (refl, refl)
  fork_moves ([] ∷ frames) kept caps word Free by e = cc
  fork_moves [] kept caps word Free by e = cc
  fork_moves stack kept caps word _ by e = cc

  fork_reaches : (b next : Board) (by : Move) → moved problem b Free by ≡ Some next → reached_lines names g.policy next next.phase ≡ []
  fork_reaches b next by e =
      let k = step_of problem None b next by (way_of by) refl e in
      let to = landed problem None b k.0 k.2.0 in
      subst (λ (z : Board). reached_lines names g.policy z z.phase ≡ []) k.2.2 (begins_quiet names g.policy k.2.0 to.kept to.caps to.word)

  fork_untold : (i : ℕ) (from s next : State) (by : Move) → at_fork forks s.board ≡ true → WovenStep problem t s by next
      → own_lines names g t plan from (own_of (Some i)) s.board by next.board ≡ []
  fork_untold i from s next by here h =
      let k = fork_moves s.board.stack s.board.kept s.board.caps s.board.word s.board.phase by here in
      ap₂ (λ l m. own_of (Some i) l ++ own_of (Some i) m) k.1 (fork_reaches s.board next.board by (sym (ap (λ ph. moved problem s.board ph by) k.0) ∙ h.0.1))

  fork_trace : (i : ℕ) (from s : State) (by : Move) (steps : List RunStep) → (a : Answered names g t plan forks i from s by steps) → at_fork forks s.board ≡ true
      → own_trace names g t plan from (own_of (Some i)) a.next a.later ≡ own_trace names g t plan from (own_of (Some i)) s steps
  fork_trace i from s by steps a here =
      sym (ap (own_trace names g t plan from (own_of (Some i)) s) a.is
      ∙ ap (λ l. l ++ own_trace names g t plan from (own_of (Some i)) a.next a.later) (fork_untold i from s a.next by here a.step))

  -- The fork, with the moves of the weaver after it.
  pub forks_on : (i : ℕ) (from : State) (w : World) (s : State) (rights lefts : List RunStep) → slice_get w i ≡ Some s → AllRest w → at_fork forks s.board ≡ true
      → turn_of s.board.phase ≡ Some Environment → Follows problem t s rights → run_entries s rights ≡ Right ∷ [] → Follows problem t s lefts → run_entries s lefts ≡ Left ∷ []
      → is_weavers_in (state_after s rights).board.phase ≡ false
      → Seg w (record { process = i; act = Forks } ∷ [])
      (fork_line i (length w) ++ (own_trace names g t plan from (own_of (Some i)) s rights ++ own_trace names g t plan from (own_of (Some (length w))) s lefts))
      (set w i (state_after s rights) ++ state_after s lefts ∷ [])
  forks_on i from w s rights lefts gets rest here turn hr er hl el quiet =
      let n = length w in
      let word : Entry = record { process = i; act = Forks } in
      let a = answered names g t plan forks i from s Right rights turn hr er in
      let b = answered names g t plan forks n from s Left lefts turn hl el in
      let sp = state_after s rights in
      let sl = state_after s lefts in
      let ea : state_after a.next a.later ≡ sp = sym (ap (state_after s) a.is) in
      let eb : state_after b.next b.later ≡ sl = sym (ap (state_after s) b.is) in
      let w1 = set w i a.next ++ b.next ∷ [] in
      let w2 = set w i sp ++ b.next ∷ [] in
      let w3 = set w i sp ++ sl ∷ [] in
      let within : i < n = slice_get_within w i s gets in
      let front1 : slice_get (set w i a.next) i ≡ Some a.next = get_set w i s a.next gets in
      let first = one names problem t forks w w1 i Forks None (none_first w rest) (s, a.next, b.next, gets, here, a.step, b.step, refl) tt in
      let before1 : NoneBefore w1 i = λ k z lt e.
      rest k z (get_other w i k a.next z lt (get_within (set w i a.next) (b.next ∷ []) k z (omega (arith, lt, within, length-set w i a.next)) e)) in
      let parent = weaves names g t plan forks i from w1 a.next a.later (get_front (set w i a.next) (b.next ∷ []) i a.next front1) a.follows a.quiet before1 in
      let to2 : set w1 i (state_after a.next a.later) ≡ w2 =
      set_front (set w i a.next) b.next i a.next (state_after a.next a.later) front1
      ∙ ap (λ l. l ++ b.next ∷ []) (twice w i a.next (state_after a.next a.later) ∙ ap (λ (z : State). set w i z) ea) in
      let parent2 = subst (λ z. Seg w1 [] (own_trace names g t plan from (own_of (Some i)) s rights) z) to2
      (subst (λ l. Seg w1 [] l (set w1 i (state_after a.next a.later))) (fork_trace i from s Right rights a here) parent) in
      let len : length (set w i sp) ≡ n = length-set w i sp in
      let before2 : NoneBefore w2 n = λ k z lt e.
      ⊎_elim (λ (same : z ≡ sp). subst (λ (y : State). is_weavers_in y.board.phase ≡ false) (sym same) quiet) (λ h. rest k z h)
      (among_set w i k sp z (get_within (set w i sp) (b.next ∷ []) k z (omega (arith, lt, len)) e)) in
      let child = weaves names g t plan forks n from w2 b.next b.later (ap (slice_get w2) (sym len) ∙ get_last (set w i sp) b.next) b.follows b.quiet before2 in
      let to3 : set w2 n (state_after b.next b.later) ≡ w3 =
      ap (λ k. set w2 k (state_after b.next b.later)) (sym len) ∙ set_last (set w i sp) b.next (state_after b.next b.later) ∙ ap (λ (z : State). set w i sp ++ z ∷ []) eb in
      let child2 = subst (λ z. Seg w2 [] (own_trace names g t plan from (own_of (Some n)) s lefts) z) to3
      (subst (λ l. Seg w2 [] l (set w2 n (state_after b.next b.later))) (fork_trace n from s Left lefts b here) child) in
      let later = then_on names problem t forks w1 w2 w3 [] [] (own_trace names g t plan from (own_of (Some i)) s rights) (own_trace names g t plan from (own_of (Some n)) s lefts) parent2 child2 in
      then_on names problem t forks w w1 w3 (word ∷ []) [] (fork_line i n) (own_trace names g t plan from (own_of (Some i)) s rights ++ own_trace names g t plan from (own_of (Some n)) s lefts) first later
    where
      twice : (w : World) (i : ℕ) (a b : State) → set (set w i a) i b ≡ set w i b
      twice [] i a b = refl
      twice (x ∷ w) zero a b = refl
      twice (x ∷ w) (suc i) a b = ap (λ l. x ∷ l) (twice w i a b)

-- Each process is where a woven run comes to. A fork needs nothing else: the parent is that run gone right, the child the same run gone left.
use Rattle.std.proofs.Common.{◌≡◌, ◌⊎◌, ℕ, zero, suc, List, [], ◌∷◌, ◌++◌, set, Bool, true, false, Option, Some, refl, sym, subst, inl, inr, ⊎_elim}
use Rattle.std.specs.Prelude.{slice_get}
use Rattle.std.proofs.lemmas.Option.{none-some, same_Some}
use Rattle.cw_rights.specs.declared.capabilities.Caps.{Caps}
use Rattle.cw_rights.specs.Words.{Word}
use Rattle.cw_certs.specs.declared.moves.Move.{Move}
use Rattle.cw_certs.specs.declared.moves.Move.TheVariants.{Left, Right}
use Rattle.cw_certs.specs.Tables.{Table}
use Rattle.cw_syntax.specs.Plans.{Stm, If}
use Rattle.cw_syntax.specs.Frames.{Item, Todo, Test, Frame}
use Rattle.cw_model.specs.Boards.{Problem, Phase, Free, Board, Weaver, Environment, Violates, Moves, turn_of, IsWeavers, IsEnvironments, moved}
use Rattle.cw_model.specs.Runs.{State, start_state, WovenStep, WovenRun, reached, Sound}
use Rattle.cw_model.proofs.Moving.{board_on}
use Rattle.cw_model.proofs.Running.{goes_append, last_append}
use Rattle.cw_worlds.specs.Forks.{is_fork_item, forks_in, at_fork}
use Rattle.cw_worlds.specs.Worlds.{World, Act, Makes, Forks, WorldStep, Step, Goes, world_after, start_world, IsWorld, MeetsInAll}
use Rattle.cw_worlds.specs.Laws.{WorldsMeet, ProcessesAreRuns}
use Rattle.cw_worlds.proofs.Sets.{among_set, among_more}

-- What stands at a fork: an `if`, or a test with a condition.
pub data ForkItem : Item → Type 0 where
  fork_if : (at : ℕ) (s t : Stm) → ForkItem (Todo (If at s t))
  fork_test : (at : ℕ) (stepped : Bool) (s : Stm) → ForkItem (Test at true stepped s)

pub fork_item : (forks : List ℕ) (i : Item) → is_fork_item forks i ≡ true → ForkItem i
fork_item forks (Todo (If at s t)) e = fork_if at s t
fork_item forks (Test at true stepped s) e = fork_test at stepped s
fork_item forks _ e = cc

-- A fork: the environment may go both ways, and no other.
pub record Forked (p : Problem) (b : Board) : Type 0 where
  pub turn : IsEnvironments b
  pub right : Board
  pub goes_right : Moves p b Right right
  pub left : Board
  pub goes_left : Moves p b Left left
  pub only : (by : Move) (next : Board) → Moves p b by next → (by ≡ Right) ⊎ (by ≡ Left)

only_way : (p : Problem) (i : Item) (is : Frame) (frames : List Frame) (kept : List (Option Caps)) (caps : Caps) (word : Word) (by : Move) (next : Board) → ForkItem i
    → moved p (board_on ((i ∷ is) ∷ frames) kept caps word Free) Free by ≡ Some next → (by ≡ Right) ⊎ (by ≡ Left)
only_way p _ is frames kept caps word Right next (fork_if at s t) e = inl refl
only_way p _ is frames kept caps word Left next (fork_if at s t) e = inr refl
only_way p _ is frames kept caps word _ next (fork_if at s t) e = absurd (none-some next e)
only_way p _ is frames kept caps word Right next (fork_test at stepped s) e = inl refl
only_way p _ is frames kept caps word Left next (fork_test at stepped s) e = inr refl
only_way p _ is frames kept caps word _ next (fork_test at stepped s) e = absurd (none-some next e)

forked_item : (p : Problem) (i : Item) (is : Frame) (frames : List Frame) (kept : List (Option Caps)) (caps : Caps) (word : Word) → ForkItem i
    → Forked p (board_on ((i ∷ is) ∷ frames) kept caps word Free)
forked_item p _ is frames kept caps word (fork_if at s t) = record {
  turn = refl;
  right = _;
  goes_right = ((λ v. v.1 refl), refl);
  left = _;
  goes_left = ((λ v. v.1 refl), refl);
  only = λ by next m. only_way p (Todo (If at s t)) is frames kept caps word by next (fork_if at s t) m.1;
}
forked_item p _ is frames kept caps word (fork_test at stepped s) = record {
  turn = refl;
  right = _;
  goes_right = ((λ v. v.1 refl), refl);
  left = _;
  goes_left = ((λ v. v.1 refl), refl);
  only = λ by next m. only_way p (Test at true stepped s) is frames kept caps word by next (fork_test at stepped s) m.1;
}

forked_on : (p : Problem) (forks : List ℕ) (stack : List Frame) (kept : List (Option Caps)) (caps : Caps) (word : Word) (phase : Phase) → forks_in forks phase stack ≡ true
    → Forked p (board_on stack kept caps word phase)
forked_on p forks ((i ∷ is) ∷ frames) kept caps word Free e = forked_item p i is frames kept caps word (fork_item forks i e)
forked_on p forks ([] ∷ frames) kept caps word Free e = cc
forked_on p forks [] kept caps word Free e = cc
forked_on p forks stack kept caps word _ e = cc

pub forked : (p : Problem) (forks : List ℕ) (b : Board) → at_fork forks b ≡ true → Forked p b
forked p forks b e = forked_on p forks b.stack b.kept b.caps b.word b.phase e

-- no fork is at the weaver's turn
weavers_no_fork : (forks : List ℕ) (phase : Phase) (stack : List Frame) → turn_of phase ≡ Some Weaver → forks_in forks phase stack ≡ false
weavers_no_fork forks Free stack e = let k = same_Some Environment Weaver e in cc
weavers_no_fork forks _ stack e = refl

module _ (p : Problem) (t : Table) where
  abbrev IsRunTo : State → Type 0
  IsRunTo s = (run : List State) × WovenRun p t run × (reached p t run ≡ s)

  abbrev AllRun : World → Type 0
  AllRun w = (i : ℕ) (s : State) → slice_get w i ≡ Some s → IsRunTo s

  -- a step makes a run one longer
  run_more : (s next : State) (by : Move) → IsRunTo s → WovenStep p t s by next → IsRunTo next
  run_more s next by (run, h, e) step = (
    run ++ next ∷ [],
    goes_append p t (start_state p t) run (next ∷ []) h ((by, subst (λ z. WovenStep p t z by next) (sym e) step), tt),
    last_append (start_state p t) run next,
  )

  run_is : (s other : State) → IsRunTo s → other ≡ s → IsRunTo other
  run_is s other r e = subst (λ z. IsRunTo z) (sym e) r

  all_set : (w : World) (i : ℕ) (x : State) → AllRun w → IsRunTo x → AllRun (set w i x)
  all_set w i x all r j s e = ⊎_elim (λ same. run_is x s r same) (λ h. all j s h) (among_set w i j x s e)

  all_more : (w : World) (x : State) → AllRun w → IsRunTo x → AllRun (w ++ x ∷ [])
  all_more w x all r j s e = ⊎_elim (λ same. run_is x s r same) (λ h. all j s h) (among_more w j x s e)

  module _ (forks : List ℕ) where
    all_after : (w next : World) (i : ℕ) (act : Act) → AllRun w → WorldStep p t forks w i act next → AllRun next
    all_after w next i (Makes by) all (s, after, gets, away, step, e) =
        subst (λ z. AllRun z) (sym e) (all_set w i after all (run_more s after by (all i s gets) step))
    all_after w next i Forks all (s, parent, child, gets, here, right, left, e) =
        let r = all i s gets in
        subst (λ z. AllRun z) (sym e) (all_more (set w i parent) child (all_set w i parent all (run_more s parent Right r right)) (run_more s child Left r left))

    all_along : (w : World) (steps : List Step) → AllRun w → Goes p t forks w steps → AllRun (world_after w steps)
    all_along w [] all g = all
    all_along w (one ∷ later) all g = all_along one.next later (all_after w one.next one.process one.act all g.0) g.1

    all_start : AllRun (start_world p t)
    all_start zero s e = ([], tt, same_Some (start_state p t) s e)
    all_start (suc i) s e = absurd (none-some s e)

    pub process_run : (w : World) (i : ℕ) (s : State) → IsWorld p t forks w → slice_get w i ≡ Some s → (run : List State) × WovenRun p t run × (reached p t run ≡ s)
    process_run w i s (steps, g, e) gets = subst (λ z. AllRun z) e (all_along (start_world p t) steps all_start g) i s gets

    -- the moves of a process that the table answers
    moves_on : Sound p t → (w : World) (i : ℕ) (s : State) (by : Move) (b : Board) → IsWorld p t forks w → slice_get w i ≡ Some s → IsEnvironments s.board → Moves p s.board by b
        → (after : State) × WovenStep p t s by after
    moves_on sound w i s by b is gets turn move =
        let r = process_run w i s is gets in
        let a = sound.answers r.0 by b r.1 (subst (λ (z : State). IsEnvironments z.board) (sym r.2) turn) (subst (λ (z : State). Moves p z.board by b) (sym r.2) move) in
        (record { board = b; mems = a.0 }, subst (λ z. WovenStep p t z by (record { board = b; mems = a.0 })) r.2 a.1)

    pub meets_in_all : Sound p t → MeetsInAll p t forks
    meets_in_all sound = record {
      meets = λ w i s is gets v.
          let r = process_run w i s is gets in
          sound.meets r.0 r.1 (subst (λ (z : State). Violates p z.board) (sym r.2) v);
      answers = λ w i s by b is gets turn away move.
          let a = moves_on sound w i s by b is gets turn move in
          (set w i a.0, (s, a.0, gets, away, a.1, refl));
      forks_on = λ w i s is gets here.
          let f = forked p forks s.board here in
          let parent = moves_on sound w i s Right f.right is gets f.turn f.goes_right in
          let child = moves_on sound w i s Left f.left is gets f.turn f.goes_left in
          (set w i parent.0 ++ child.0 ∷ [], (s, parent.0, child.0, gets, here, parent.1, child.1, refl));
      chooses = λ w i s is gets turn.
          let r = process_run w i s is gets in
          let c = sound.chooses r.0 r.1 (subst (λ (z : State). IsWeavers z.board) (sym r.2) turn) in
          (c.0, set w i c.1, (s, c.1, gets, weavers_no_fork forks s.board.phase s.board.stack turn, subst (λ z. WovenStep p t z c.0 c.1) r.2 c.2, refl));
    }

pub worlds_meet : WorldsMeet
worlds_meet p t forks sound = meets_in_all p t forks sound

pub processes_are_runs : ProcessesAreRuns
processes_are_runs p t forks w i s is gets = process_run p t forks w i s is gets

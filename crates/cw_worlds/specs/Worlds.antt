-- Worlds of processes side by side: each is a woven run of its own, and a fork makes two of one. Public source: fork(2); for the woven
-- runs Harris, Jha, Reps, Anderson and Watson (2013).
use Rattle.std.specs.Prelude.{◌≡◌, ℕ, List, [], ◌∷◌, ◌++◌, true, false, Some, slice_get, set}
use Rattle.cw_certs.specs.declared.moves.Move.{Move}
use Rattle.cw_certs.specs.declared.moves.Move.TheVariants.{Left, Right}
use Rattle.cw_certs.specs.Tables.{Table}
use Rattle.cw_model.specs.Boards.{Problem, Board, Violates, Moves, IsWeavers, IsEnvironments}
use Rattle.cw_model.specs.Runs.{State, start_state, WovenStep}
use Rattle.cw_worlds.specs.Forks.{at_fork}

-- A world has the state of each process, in the order in which they came: a board with its word and capabilities, and its memories.
abbrev pub World : Type 0
World = List State

-- What a process does: it makes a move, or it forks.
pub data Act : Type 0 where
  Makes : Move → Act
  Forks : Act

-- The process i makes a move of the woven program, and the others stay as they are. At a fork it goes right, and a new process comes last: the same
-- state gone left. `forks` has the places of the forks.
abbrev pub WorldStep : Problem → Table → (forks : List ℕ) → World → ℕ → Act → World → Type 0
WorldStep p t forks w i (Makes by) next =
    (s : State) × (after : State) × (slice_get w i ≡ Some s) × (at_fork forks s.board ≡ false) × WovenStep p t s by after × (next ≡ set w i after)
WorldStep p t forks w i Forks next =
    (s : State) × (parent : State) × (child : State) × (slice_get w i ≡ Some s) × (at_fork forks s.board ≡ true)
    × WovenStep p t s Right parent × WovenStep p t s Left child × (next ≡ set w i parent ++ child ∷ [])

-- A step of a world, and the world after it.
pub record Step : Type 0 where
  pub process : ℕ
  pub act : Act
  pub next : World

-- each step is one of the world before it
abbrev pub Goes : Problem → Table → List ℕ → World → List Step → Type 0
Goes p t forks w [] = Unit {0}
Goes p t forks w (s ∷ later) = WorldStep p t forks w s.process s.act s.next × Goes p t forks s.next later

abbrev pub world_after : World → List Step → World
world_after w [] = w
world_after w (s ∷ later) = world_after s.next later

-- one process, at the start of the program
abbrev pub start_world : Problem → Table → World
start_world p t = start_state p t ∷ []

-- A world that comes of the start by any steps.
abbrev pub IsWorld : Problem → Table → List ℕ → World → Type 0
IsWorld p t forks w = (steps : List Step) × Goes p t forks (start_world p t) steps × (world_after (start_world p t) steps ≡ w)

-- What it means that a table is sound for all processes together, whatever the places of the forks.
pub record MeetsInAll (p : Problem) (t : Table) (forks : List ℕ) : Type 0 where
  -- no board of any world violates, after any number of steps and forks
  pub meets : (w : World) (i : ℕ) (s : State) → IsWorld p t forks w → slice_get w i ≡ Some s → Violates p s.board → ⊥
  -- at the environment's turn no move of a process is left unanswered, away from the forks
  pub answers : (w : World) (i : ℕ) (s : State) (m : Move) (b : Board) → IsWorld p t forks w → slice_get w i ≡ Some s → IsEnvironments s.board
      → at_fork forks s.board ≡ false → Moves p s.board m b → (next : World) × WorldStep p t forks w i (Makes m) next
  -- and each fork can be made
  pub forks_on : (w : World) (i : ℕ) (s : State) → IsWorld p t forks w → slice_get w i ≡ Some s → at_fork forks s.board ≡ true
      → (next : World) × WorldStep p t forks w i Forks next
  -- at the weaver's turn the table has a move for the process
  pub chooses : (w : World) (i : ℕ) (s : State) → IsWorld p t forks w → slice_get w i ≡ Some s → IsWeavers s.board
      → (m : Move) × (next : World) × WorldStep p t forks w i (Makes m) next

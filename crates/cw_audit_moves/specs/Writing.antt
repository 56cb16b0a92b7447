-- What is written and what is to be written.
use Rattle.std.specs.Prelude.{◌≡◌, ℕ, ◌<◌, List, ◌++◌, map, reverse, length, true}
use Rattle.cw_certs.specs.declared.moves.Move.{Move}
use Rattle.cw_game.specs.Games.{Game, Config}
use Rattle.cw_game.specs.Linked.{is_bad_at}
use Rattle.cw_audit_table.specs.Runs.{Goes, start_at}
use Rattle.cw_audit_store.specs.declared.row_key.Way.{Way}
use Rattle.cw_audit_store.specs.declared.row_key.Way.TheVariants.{Returned}
use Rattle.cw_audit_search.specs.Searches.{Found}
use Rattle.cw_audit_search.specs.Sound.{IsFair, IsSound}
use Rattle.cw_audit_search.specs.Ways as way
use Rattle.cw_audit_search.specs.Ways.{Ways, AreWays, Unfolds, AreLow, weight}
use Rattle.cw_audit_moves.specs.declared.todo.Todo.{Todo}
use Rattle.cw_audit_moves.specs.declared.todo.Todo.TheVariants.{Reach, Row, Step}

abbrev pub todo_of : Todo → way.Todo
todo_of (Reach e) = way.Reach e.function e.state.0
todo_of (Row at) = way.Row at.entrance.function at.entrance.state.0 at.pos.0 at.state.0
todo_of (Step by) = way.Step by

-- the last of the stack is to be written first
abbrev pub stack_of : List Todo → List way.Todo
stack_of items = reverse (map todo_of items)

-- a function that is called by the way is one of so many
abbrev pub IsCallee : (functions : ℕ) → Way → Type 0
IsCallee functions (Returned x p f y) = f < functions
IsCallee functions _ = Unit {0}

-- these moves lead to a bad pair, and are as many
abbrev pub IsRunTo : Game → List Move → ℕ → Type 0
IsRunTo g ms n = (length ms ≡ n) × ((c : Config) × Goes g (start_at g) ms c × (is_bad_at g c ≡ true))

-- What is written, with what is left to write behind it, is such a run; all that is left is there.
pub record IsWriting (g : Game) (s : Found) (w : Ways) (n : ℕ) (written : List Move) (left : List way.Todo) : Type 0 where
  pub low : AreLow s left
  pub rest : List Move
  pub unfolds : Unfolds g w left rest
  pub run : IsRunTo g (written ++ rest) n

-- what is known of a search: its game is fair, its numbers are those of runs, and its ways lead there
pub record IsReady (g : Game) (functions : ℕ) (s : Found) (w : Ways) : Type 0 where
  pub fair : IsFair g functions
  pub sound : IsSound g functions s
  pub ways : AreWays g s w

-- One thing is written or replaced by what it stands for, and less is left.
pub record IsStepOn (g : Game) (s : Found) (w : Ways) (n : ℕ) (written : List Move) (left : List way.Todo) (before : List way.Todo) : Type 0 where
  pub writing : IsWriting g s w n written left
  pub less : weight s left < weight s before

-- The law: a program stands among the positions of its graph.
use Rattle.std.specs.Prelude.{◌≡◌, ℕ, List}
use Rattle.cw_rights.specs.Policies.{PlainPolicy}
use Rattle.cw_syntax.specs.Trees.{File}
use Rattle.cw_syntax.specs.Plans.{plan_of}
use Rattle.cw_syntax.specs.Runnable.{IsRunnable}
use Rattle.cw_resolve.specs.Scenes.{names_of}
use Rattle.cw_game.specs.Games.{Game}
use Rattle.cw_game.specs.Places.{IsLaidOut, HasRoutines}
use Rattle.cw_points.specs.declared.graph.Graph.{Graph}
use Rattle.cw_points.specs.Graphs.{IsGraph}
use Rattle.cw_positions.specs.Positions.{spots, entry_of, exit_of}

-- The game's positions are those of a graph under a policy, with any states.
pub record IsGameOn (g : Graph) (policy : PlainPolicy) (game : Game) : Type 0 where
  pub spots : game.spots ≡ spots g policy
  pub entry : (f : ℕ) → game.entry f ≡ entry_of g policy f
  pub exit : (f : ℕ) → game.exit f ≡ exit_of g policy f
  pub main : game.main ≡ g.main
  pub under : game.policy ≡ policy

-- Each function of a program that can be run stands among the positions of its graph where the game says, and the game has each function
-- that it needs.
abbrev pub ProgramsAreLaidOut : Type 0
ProgramsAreLaidOut = (policy : PlainPolicy) (source : List ℕ) (file : File) (g : Graph) (game : Game)
    → IsGraph (names_of policy) source file g → IsRunnable (plan_of (names_of policy) source file) → IsGameOn g policy game
    → IsLaidOut (plan_of (names_of policy) source file) game

abbrev pub GamesHaveRoutines : Type 0
GamesHaveRoutines = (policy : PlainPolicy) (source : List ℕ) (file : File) (g : Graph) (game : Game)
    → IsGraph (names_of policy) source file g → IsRunnable (plan_of (names_of policy) source file) → IsGameOn g policy game
    → HasRoutines (plan_of (names_of policy) source file) game

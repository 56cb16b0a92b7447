-- Which points of a program are forks, and that a board's fork is told by its position.
use Rattle.std.specs.Prelude.{◌≡◌, ℕ, List, ◌∷◌, [], Bool, Some, map, slice_get}
use Rattle.cw_rights.specs.Policies.{PlainPolicy}
use Rattle.cw_syntax.specs.Trees.{File}
use Rattle.cw_syntax.specs.Plans.{plan_of}
use Rattle.cw_syntax.specs.Frames.{Item, front}
use Rattle.cw_syntax.specs.Runnable.{IsRunnable}
use Rattle.cw_resolve.specs.Scenes.{names_of}
use Rattle.cw_points.specs.declared.graph.Graph.{Graph}
use Rattle.cw_points.specs.Points.{points}
use Rattle.cw_points.specs.Graphs.{IsGraph}
use Rattle.cw_positions.specs.Laid.{IsGameOn}
use Rattle.cw_positions.specs.Items.{IsOfPoint}
use Rattle.cw_model.specs.Boards.{Board, problem_of}
use Rattle.cw_game.specs.Games.{Game, Config}
use Rattle.cw_game.specs.Together.{Together}

-- Whatever is asked of the front item of a board that goes together with a pair: it is what is asked of the item of the position's point.
abbrev pub FrontsAreOfPoints : Type 0
FrontsAreOfPoints = (policy : PlainPolicy) (source : List ℕ) (file : File) (g : Graph) (game : Game)
    → IsGraph (names_of policy) source file g → IsRunnable (plan_of (names_of policy) source file) → IsGameOn g policy game
    → (asks : Item → Bool) (b : Board) (c : Config) (point : ℕ) (answer : Bool) → Together (problem_of policy source file) game b c → IsOfPoint g policy c.pos point
    → slice_get (map asks (points (plan_of (names_of policy) source file))) point ≡ Some answer
    → (item : Item) × (front b.stack ≡ item ∷ []) × (asks item ≡ answer)

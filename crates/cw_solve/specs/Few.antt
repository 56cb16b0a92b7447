-- How many cells a game can need: for each function at most one context a set of states.
use Rattle.std.specs.Prelude.{◌≡◌, ℕ, ◌*◌, ◌^◌, ◌≤◌, List, [], ◌∷◌, false, Some, length, slice_get}
use Rattle.cw_core.specs.declared.quantity.Quantity.TheVariants.{Cells}
use Rattle.cw_core.specs.Quantities.{limit_of}
use Rattle.cw_game.specs.Games.{Game}
use Rattle.cw_game.specs.Pairs.{all_states, is_call_in}
use Rattle.cw_points.specs.declared.graph.Point.TheVariants.{Call}
use Rattle.cw_points.specs.declared.graph.Node.{Node}
use Rattle.cw_product.specs.Made.{IsMade}
use Rattle.cw_product.specs.Product.{Held, game_of}
use Rattle.cw_solve.specs.declared.contexts.Context.{Context}
use Rattle.cw_solve.specs.Contexts.{context, cells_of, AreNeeded, AreTheNeeded}

-- positions times states times the number of sets of states
abbrev pub most_cells : Game → ℕ
most_cells g = length g.spots * g.states.count * 2 ^ g.states.count

-- Needed contexts, all or some, have no more cells than that.
abbrev pub CellsAreFew : Type 0
CellsAreFew = (h : Held) (some : List Context) → IsMade h → AreNeeded (game_of h) some → cells_of (game_of h) some ≤ most_cells (game_of h)

-- So where these are within the limit the cells are never over it: no contexts that are needed have too many.
abbrev pub CellsAreWithin : Type 0
CellsAreWithin = (h : Held) (some : List Context) → IsMade h → AreNeeded (game_of h) some → most_cells (game_of h) ≤ limit_of Cells → cells_of (game_of h) some ≤ limit_of Cells

-- A game without calls has one context: `main` with all states.
abbrev pub CallsMakeContexts : Type 0
CallsMakeContexts = (g : Game) (all : List Context) → ((p : ℕ) → is_call_in (slice_get g.spots p) ≡ false) → AreTheNeeded g all → all ≡ context g.main (all_states g) ∷ []

-- And so has the game of a program in which no point is a call.
abbrev pub ProgramsWithoutCalls : Type 0
ProgramsWithoutCalls = (h : Held) (all : List Context) → ((p f : ℕ) (n : Node) → slice_get h.graph.nodes.items p ≡ Some n → n.point ≡ Call f → ⊥)
    → AreTheNeeded (game_of h) all → all ≡ context (game_of h).main (all_states (game_of h)) ∷ []

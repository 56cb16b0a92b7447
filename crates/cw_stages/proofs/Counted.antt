-- The numbers of a solved game.
use Rattle.std.proofs.Common.{◌≡◌, ℕ, List, length, ap, ◌∙◌, subst}
use Rattle.cw_rights.specs.Policies.{PlainPolicy}
use Rattle.cw_syntax.specs.Plans.{plan_of}
use Rattle.cw_syntax.specs.Trees.{File}
use Rattle.cw_resolve.specs.Scenes.{names_of}
use Rattle.cw_points.specs.Graphs.{IsGraph}
use Rattle.cw_positions.proofs.Leading.{length_nodes}
use Rattle.cw_product.specs.Product.{Held, game_of}
use Rattle.cw_solve.specs.Contexts.{cells_of, AreTheNeeded}
use Rattle.cw_solve.specs.Solved.{Held as Solved}
use Rattle.cw_stages.specs.declared.numbers.Numbers.{Numbers}
use Rattle.cw_stages.specs.Counting.{AreNumbers}

-- what is known of the numbers of a solved game
pub record AreKept (game : Held) (solved : Solved) (numbers : Numbers) (rows : ℕ) : Type 0 where
  pub same : solved.game ≡ game
  pub needed : AreTheNeeded (game_of solved.game) solved.contexts
  pub points : numbers.points ≡ length game.graph.nodes.items
  pub positions : numbers.positions ≡ length (game_of game).spots
  pub states : numbers.states ≡ (game_of game).states.count
  pub contexts : numbers.contexts ≡ length solved.contexts
  pub cells : numbers.cells ≡ cells_of (game_of solved.game) solved.contexts
  pub are_rows : numbers.rows ≡ rows

pub are_numbers : (game : Held) (solved : Solved) (numbers : Numbers) (rows : ℕ) (whole : PlainPolicy) (source : List ℕ) (file : File) → IsGraph (names_of whole) source file game.graph
    → AreKept game solved numbers rows → AreNumbers whole source file (game_of game) numbers
are_numbers game solved numbers rows whole source file drawn kept = record {
  contexts = solved.contexts;
  needed = subst (λ (h : Held). AreTheNeeded (game_of h) solved.contexts) kept.same kept.needed;
  are_points = kept.points ∙ ap length drawn.nodes ∙ length_nodes (plan_of (names_of whole) source file);
  are_positions = kept.positions;
  are_states = kept.states;
  are_contexts = kept.contexts;
  are_cells = kept.cells ∙ ap (λ (h : Held). cells_of (game_of h) solved.contexts) kept.same;
}

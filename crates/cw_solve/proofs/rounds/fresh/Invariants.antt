use Rattle.std.proofs.Common.{◌≡◌, ◌<◌, ℕ, take, length}
use Rattle.std.specs.Prelude.{slice_index}
use Rattle.cw_product.specs.Product.{game_of}
use Rattle.cw_solve.specs.Contexts.{cells_of}
use Rattle.cw_solve.proofs.rounds.fresh.Given as goal

abbrev pub invariant-loop-context : goal.invariant-loop-context
invariant-loop-context l = record {
  bases : length l.bases.items ≡ l.context-index;
  begins : (i : ℕ) → i < l.context-index → slice_index l.bases.items i ≡ cells_of (game_of l.game) (take i l.fn.contexts.items);
  cells : l.cells ≡ cells_of (game_of l.game) (take l.context-index l.fn.contexts.items);
}

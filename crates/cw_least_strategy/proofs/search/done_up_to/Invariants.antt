use Rattle.std.proofs.Common.{◌-◌, ◌≤◌, ◌++◌, ◌∷◌, [], length, reverse}
use Rattle.cw_least_strategy.proofs.Descending.{Descends}
use Rattle.cw_product.specs.Product.{game_of}
use Rattle.cw_least_strategy.specs.Parts.{AreDone}
use Rattle.cw_least_strategy.specs.Small.{small_cmp, small_named}
use Rattle.cw_least_strategy.proofs.search.done_up_to.Given as goal

abbrev pub invariant-keys : goal.invariant-keys
invariant-keys l = record {
  descends : Descends small_cmp (small_named (game_of l.solved.game) l.aims) (l.fn.start ∷ []) l.taken.items (l.waiting.keys ++ l.keys.items);
  few : length l.taken.items ≤ l.most;
  done : AreDone (game_of l.solved.game) l.aims (reverse l.taken.items) (reverse l.acts.items);
}

abbrev pub decreases-keys : goal.decreases-keys
decreases-keys l = l.most - length l.taken.items

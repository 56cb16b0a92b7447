use Rattle.cw_joins.proofs.Chains.{held_none}
use Rattle.cw_joins.proofs.held.none_held.Goals as goal

pub returns : goal.returns
returns g c = record {
  none = held_none g.G.Ord.cmp (g.I.Indices.index c.args.indices.now) record { heads = c.in_ok-vec.field-0; links = c.new.result } c.chains_for-chains.result
      c.chains_for-chains.ensures.some (c.in_ok-vec.ensures.items_if_clones_equal (λ y e. e));
}

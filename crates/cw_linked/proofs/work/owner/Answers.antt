-- The numbers where contexts begin don't fall.
use Rattle.std.proofs.Common.{rules, nat_le, sym, subst}
use Rattle.std.specs.List.Sorted.{IsNonDecreasing}
use Rattle.std.proofs.lemmas.List.Sorted.{IsPartitionPoint-from_clause, IsPartitionedBy-leb}
use Rattle.cw_product.specs.Product.{game_of}
use Rattle.cw_linked.proofs.Placing.{bases_rise, some_begun, last_begun}
use Rattle.cw_linked.proofs.work.owner.Goals as goal

pub overflow_sub-result : goal.overflow_sub-result
overflow_sub-result c =
    let g = game_of c.args.game.now in
    let blocks = c.args.blocks.now in
    let rise = subst IsNonDecreasing (sym c.deref.ensures.value) (bases_rise g blocks c.requires.blocks) in
    let point = IsPartitionPoint-from_clause (λ base. nat_le base c.args.index) c.deref.result.now _ c.partition_point.ensures.partitioned
    (IsPartitionedBy-leb (λ base. base) c.deref.result.now c.args.index rise) (λ a r q k. search rules) in
    some_begun g blocks c.requires.blocks c.args.index c.partition_point.result c.requires.within c.deref.result.now c.deref.ensures.value c.partition_point.ensures.bound point

pub returns : goal.returns
returns c =
    let g = game_of c.args.game.now in
    let blocks = c.args.blocks.now in
    let rise = subst IsNonDecreasing (sym c.deref.ensures.value) (bases_rise g blocks c.requires.blocks) in
    let point = IsPartitionPoint-from_clause (λ base. nat_le base c.args.index) c.deref.result.now _ c.partition_point.ensures.partitioned
    (IsPartitionedBy-leb (λ base. base) c.deref.result.now c.args.index rise) (λ a r q k. search rules) in
    last_begun g blocks c.requires.blocks c.args.index c.partition_point.result c.requires.within c.deref.result.now c.deref.ensures.value c.partition_point.ensures.bound point

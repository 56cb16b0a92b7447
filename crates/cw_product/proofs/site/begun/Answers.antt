-- The numbers don't fall.
use Rattle.std.proofs.Common.{rules, nat_le}
use Rattle.std.proofs.lemmas.List.Sorted.{IsPartitionPoint-from_clause, IsPartitionedBy-leb}
use Rattle.cw_product.proofs.site.begun.Goals as goal

pub returns-clause-point : goal.returns-clause-point
returns-clause-point c =
    IsPartitionPoint-from_clause (λ base. nat_le base c.args.pos) c.args.bases.now _ c.partition_point.ensures.partitioned
    (IsPartitionedBy-leb (λ base. base) c.args.bases.now c.args.pos c.requires.rise) (λ a r q k. search rules)

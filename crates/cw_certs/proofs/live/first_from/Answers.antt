-- The positions of the pairs don't fall.
use Rattle.std.proofs.Common.{rules, nat_lt}
use Rattle.std.proofs.lemmas.List.Sorted.{IsPartitionPoint-from_clause}
use Rattle.cw_certs.proofs.Middle.{parted_below}
use Rattle.cw_certs.proofs.live.first_from.Goals as goal

pub returns-clause-point : goal.returns-clause-point
returns-clause-point c =
    let xs = c.args.rows.now in
    let p = c.args.pos.0 in
    IsPartitionPoint-from_clause (λ r. nat_lt r.0.0 p) xs _ c.partition_point.ensures.partitioned (parted_below xs c.requires.ascend p) (λ a r q k. search rules)

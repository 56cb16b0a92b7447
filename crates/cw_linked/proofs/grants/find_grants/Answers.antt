use Rattle.std.proofs.Common.{ap, ◌∙◌, arith}
use Rattle.cw_linked.specs.declared.grants.Grants.{Grants}
use Rattle.cw_linked.proofs.Granting.{row_read}
use Rattle.cw_linked.proofs.grants.find_grants.Goals as goal

pub returns-then-is_same : goal.returns-then-is_same
returns-then-is_same c =
    row_read c.args.all.now c.args.prim c.loop-k.k c.index-all-k.result (omega arith) c.index-all-k.is
    (ap (λ (own : Grants). own.prim) c.index-all-k.is ∙ c.is_same.ensures c.if-is_same.true)

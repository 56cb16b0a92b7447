use Rattle.std.proofs.Common.{sym, subst}
use Rattle.cw_least_strategy.specs.Backs.{BacksAscend}
use Rattle.cw_least_strategy.proofs.table.env_table.Goals as goal

pub returns-clause-ascend : goal.returns-clause-ascend
returns-clause-ascend c = subst BacksAscend (sym c.in-Ok-certificate.ensures) c.in-Ok.ensures.ascend

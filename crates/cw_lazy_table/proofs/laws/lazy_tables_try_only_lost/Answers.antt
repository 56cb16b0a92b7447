use Rattle.cw_lazy_table.proofs.Lawful.{tables_try_only_lost}
use Rattle.cw_lazy_table.proofs.laws.lazy_tables_try_only_lost.Goals as goal

pub returns : goal.returns
returns c = tables_try_only_lost

use Rattle.cw_lazy_table.proofs.Lawful.{tables_are_good}
use Rattle.cw_lazy_table.proofs.laws.lazy_tables_are_good.Goals as goal

pub returns : goal.returns
returns c = tables_are_good

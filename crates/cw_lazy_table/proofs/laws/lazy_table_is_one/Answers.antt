use Rattle.cw_lazy_table.proofs.Sameness.{lazy_is_one}
use Rattle.cw_lazy_table.proofs.laws.lazy_table_is_one.Goals as goal

pub returns : goal.returns
returns c = lazy_is_one

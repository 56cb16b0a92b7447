use Rattle.cw_lazy_table.proofs.Existing.{lazy_there}
use Rattle.cw_lazy_table.proofs.laws.lazy_table_is_there.Goals as goal

pub returns : goal.returns
returns c = record { there = lazy_there }

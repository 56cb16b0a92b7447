use Rattle.std.proofs.Common.{◌-◌}
use Rattle.cw_lazy_table.proofs.indices.last_of.Given as goal

abbrev pub decreases-loop-last : goal.decreases-loop-last
decreases-loop-last l = l.count - l.last

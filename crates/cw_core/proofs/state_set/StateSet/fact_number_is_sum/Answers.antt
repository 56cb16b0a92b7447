use Rattle.std.proofs.Common.{sym}
use Rattle.cw_core.proofs.Sets.{sum_of_powers-same}
use Rattle.cw_core.proofs.state_set.StateSet.fact_number_is_sum.Goals as goal

pub returns : goal.returns
returns c = record { sum = sym (sum_of_powers-same 1024 c.args.self.now c.fact_members_are_below_1024.ensures.below) }

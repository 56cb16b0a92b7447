use Rattle.std.proofs.Common.{length}
use Rattle.cw_states.proofs.growth.+put_all_limited.Given as goal

abbrev pub decreases-put_all_limited : goal.decreases-put_all_limited
decreases-put_all_limited l = length l.limits.now

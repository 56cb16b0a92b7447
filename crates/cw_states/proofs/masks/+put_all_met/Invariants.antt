use Rattle.std.proofs.Common.{length}
use Rattle.cw_states.proofs.masks.+put_all_met.Given as goal

abbrev pub decreases-put_all_met : goal.decreases-put_all_met
decreases-put_all_met l = length l.sets.now

use Rattle.cw_lazy_table.proofs.Lawful.{live_is_kept}
use Rattle.cw_lazy_table.proofs.laws.live_is_kept.Goals as goal

pub returns : goal.returns
returns c = live_is_kept

use Rattle.std.proofs.Common.{sym}
use Rattle.cw_policy.proofs.Items.{count_view}
use Rattle.cw_policy.proofs.names.count.Goals as goal

pub returns : goal.returns
returns c = sym (count_view c.args.items.now)

use Rattle.cw_links.proofs.Lows.{none_joined}
use Rattle.cw_links.proofs.later.Later.make.Goals as goal

pub returns : goal.returns
returns c = none_joined c.in_ok-low.low c.in_ok-make.field-0 c.in_ok-low.ensures c.in_ok-make.ensures

use Rattle.cw_core.proofs.Spellings.{decimal_within}
use Rattle.cw_core.proofs.laws.decimal_is_read_back.Goals as goal

pub returns : goal.returns
returns c = record { stands = decimal_within c.args.before.now c.args.after.now c.args.number c.ranges.number.fits c.requires.stops }

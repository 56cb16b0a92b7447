use Rattle.cw_core.proofs.SetTexts.{spelling_within}
use Rattle.cw_core.proofs.laws.spelling_is_read_back.Goals as goal

pub returns : goal.returns
returns c = record { stands = spelling_within c.args.before.now c.args.after.now c.args.set.now c.fact_members_are_below_1024.ensures.below c.requires.stops }

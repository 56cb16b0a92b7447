use Rattle.cw_links.proofs.Plain.{none_more}
use Rattle.cw_links.proofs.flags.begin_limbs.Goals as goal

pub returns-then-more-eq0-clause-limbs : goal.returns-then-more-eq0-clause-limbs
returns-then-more-eq0-clause-limbs c = none_more c.args.limbs.now.items c.args.more 0 c.if-more-eq0.true

pub returns-then-more-eq0-clause-before : goal.returns-then-more-eq0-clause-before
returns-then-more-eq0-clause-before c = none_more c.args.before.now.items c.args.more c.args.flagged c.if-more-eq0.true

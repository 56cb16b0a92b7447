use Rattle.cw_woven.proofs.Parting.{not_between}
use Rattle.cw_woven.proofs.spelling.between.Goals as goal

pub returns-clause-none : goal.returns-clause-none
returns-clause-none c = not_between c.args.front.now c.args.back.now c.args.bytes.now c.in_ok-rest.rest.now c.before-2.result c.in_ok-rest.ensures.some c.before-2.ensures.none

use Rattle.std.proofs.Common.{sym}
use Rattle.cw_eval.proofs.declarations.count.Goals as goal
use Rattle.cw_scope.proofs.Operators.{counted}

pub returns : goal.returns
returns c = sym (counted c.args.init.now)

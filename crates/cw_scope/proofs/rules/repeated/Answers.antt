use Rattle.std.proofs.Common.{sym, arith}
use Rattle.cw_scope.proofs.Seen.{one_alone}
use Rattle.cw_scope.proofs.rules.repeated.Goals as goal

pub returns-in-empty : goal.returns-in-empty
returns-in-empty c = sym (one_alone c.args.source.now c.args.names.now (omega arith))

pub returns-in-len1 : goal.returns-in-len1
returns-in-len1 c = sym (one_alone c.args.source.now c.args.names.now (omega arith))

use Rattle.std.proofs.Common.{arith}
use Rattle.cw_regex.proofs.Comings.{identifier_comes}
use Rattle.cw_regex.proofs.text.token_at.Goals as goal

pub returns-in-Identifier : goal.returns-in-Identifier
returns-in-Identifier c = identifier_comes c.args.text.now c.args.at c.loop-from.from c.in-Identifier.to (omega (arith, c.loop-from.auto.from)) c.loop-from.invariant c.in-Identifier.ensures

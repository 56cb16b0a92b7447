use Rattle.std.proofs.Common.{arith}
use Rattle.cw_linked.proofs.home.approach.Goals as goal

pub returns-then-is_home-clause-home : goal.returns-then-is_home-clause-home
returns-then-is_home-clause-home c = let in_it = c.is_home.ensures c.if-is_home.true in c.requires.home (omega (arith, in_it.1))

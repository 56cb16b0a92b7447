use Rattle.std.proofs.Common.{sym, subst}
use Rattle.cw_dfa.specs.Verdicts.{rules_of, IsVerdict}
use Rattle.cw_dfa.proofs.Whole.{verdict_is}
use Rattle.cw_dfa.proofs.rules.violated.Goals as goal

pub returns-clause-least : goal.returns-clause-least
returns-clause-least c w h = subst (IsVerdict (rules_of c.args.rules.now) w) (sym c.ended.ensures) (verdict_is (rules_of c.args.rules.now) w c.args.set h)

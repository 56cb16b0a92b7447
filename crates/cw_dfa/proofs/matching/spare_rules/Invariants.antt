use Rattle.std.proofs.Common.{◌≡◌, ◌+◌, drop}
use Rattle.cw_rights.specs.Trees.{count}
use Rattle.cw_dfa.specs.Positions.{bad_of}
use Rattle.cw_dfa.specs.Verdicts.{rules_of}
use Rattle.cw_dfa.proofs.matching.spare_rules.Given as goal

abbrev pub invariant-loop-rule : goal.invariant-loop-rule
invariant-loop-rule l = l.budget + count (bad_of (rules_of (drop l.rule-index l.rules))) ≡ l.left + count (bad_of (rules_of l.rules))

use Rattle.std.proofs.Common.{◌≡◌, ◌+◌, drop}
use Rattle.std.specs.Int.RustNames.{bit_or}
use Rattle.cw_rights.specs.Trees.{count}
use Rattle.cw_dfa.specs.Positions.{bad_of}
use Rattle.cw_dfa.specs.Verdicts.{rules_of}
use Rattle.cw_dfa.specs.Tables.{picked, picks}
use Rattle.cw_dfa.proofs.matching.picked_rules.Given as goal

abbrev pub invariant-loop-rule : goal.invariant-loop-rule
invariant-loop-rule l = record {
  room : l.next + count (bad_of (rules_of (drop l.rule-index l.rules))) ≡ 1 + count (bad_of (rules_of l.rules));
  so_far : bit_or l.set (picked (picks l.sought) (bad_of (rules_of (drop l.rule-index l.rules))) l.next) ≡ picked (picks l.sought) (bad_of (rules_of l.rules)) 1;
}

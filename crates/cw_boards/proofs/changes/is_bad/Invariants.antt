use Rattle.std.proofs.Common.{◌≡◌, ◌<◌, ℕ, get_or}
use Rattle.cw_rights.specs.declared.policy.Rule.{Rule}
use Rattle.cw_rights.specs.Words.{Matches}
use Rattle.cw_rights.specs.Trees.{tree_of}
use Rattle.cw_boards.proofs.changes.is_bad.Given as goal

abbrev pub invariant-loop-rule : goal.invariant-loop-rule
invariant-loop-rule l = (k : ℕ) (r : Rule) → k < l.rule-index → r ≡ get_or l.policy.rules.items k r → Matches (tree_of r.bad) l.word → ⊥

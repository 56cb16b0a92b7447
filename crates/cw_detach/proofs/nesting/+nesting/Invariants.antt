use Rattle.std.proofs.Common.{◌≡◌, nat_le, drop}
use Rattle.cw_syntax.specs.Trees.{statements_of}
use Rattle.cw_detach.specs.Form.{nesting_all}
use Rattle.cw_resolve.specs.Held.{lists}
use Rattle.cw_detach.proofs.nesting.+nesting.Given as goal

abbrev pub invariant-are_within-loop-statement : goal.invariant-are_within-loop-statement
invariant-are_within-loop-statement l =
    nat_le (nesting_all l.source (lists l.names) (statements_of (drop l.statement-index l.statements))) l.most ≡ nat_le (nesting_all l.source (lists l.names) (statements_of l.statements)) l.most

use Rattle.std.proofs.Common.{◌≡◌, ◌++◌, drop}
use Rattle.cw_syntax.specs.Trees.{statements_of}
use Rattle.cw_resolve.specs.Labels.{labels_of_all}
use Rattle.cw_resolve.proofs.labelled.+labels.Given as goal

abbrev pub invariant-put_all_labels-loop-statement : goal.invariant-put_all_labels-loop-statement
invariant-put_all_labels-loop-statement l = l.out.items ++ labels_of_all (statements_of (drop l.statement-index l.statements)) ≡ l.initial.out.items ++ labels_of_all (statements_of l.statements)

use Rattle.std.proofs.Common.{◌≡◌, ◌++◌, map, drop}
use Rattle.cw_syntax.specs.Trees.{statements_of}
use Rattle.cw_scope.specs.Walks.{nested_all}
use Rattle.cw_scope.specs.Held.{nested_of}
use Rattle.cw_scope.proofs.walks.+nested.Given as goal

abbrev pub invariant-put_statements-loop-statement : goal.invariant-put_statements-loop-statement
invariant-put_statements-loop-statement l = map nested_of l.out.items ++ nested_all l.looped
    (statements_of (drop l.statement-index l.statements)) ≡ map nested_of l.initial.out.items ++ nested_all l.looped (statements_of l.statements)

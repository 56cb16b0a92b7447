use Rattle.std.proofs.Common.{◌≡◌, ◌++◌, drop}
use Rattle.cw_syntax.specs.Trees.{statements_of}
use Rattle.cw_items.specs.Flags.{flags_all}
use Rattle.cw_items.proofs.flags.+flags.Given as goal

abbrev pub invariant-put_all_flags-loop-statement : goal.invariant-put_all_flags-loop-statement
invariant-put_all_flags-loop-statement l =
    l.out.items ++ flags_all l.forks (statements_of (drop l.statement-index l.statements)) ≡ l.initial.out.items ++ flags_all l.forks (statements_of l.statements)

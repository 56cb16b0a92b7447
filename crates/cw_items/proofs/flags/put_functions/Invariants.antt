use Rattle.std.proofs.Common.{◌≡◌, ◌++◌, drop, map}
use Rattle.cw_syntax.specs.Trees.{definition_of}
use Rattle.cw_items.specs.Flags.{file_flags}
use Rattle.cw_items.proofs.flags.put_functions.Given as goal

abbrev pub invariant-loop-function : goal.invariant-loop-function
invariant-loop-function l =
    l.out.items ++ file_flags l.forks (map definition_of (drop l.function-index l.functions)) ≡ l.initial.out.items ++ file_flags l.forks (map definition_of l.functions)

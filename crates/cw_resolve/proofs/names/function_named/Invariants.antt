use Rattle.std.specs.Str.{bytes_eq}
use Rattle.cw_syntax.specs.Names.{text}
use Rattle.cw_resolve.proofs.Indices.{Seeks}
use Rattle.cw_resolve.proofs.names.function_named.Given as goal

abbrev pub invariant-loop-i : goal.invariant-loop-i
invariant-loop-i l = Seeks (λ f. bytes_eq l.name (text l.checked.source.now f.name)) l.checked.program.functions.items l.i

use Rattle.std.specs.Str.{bytes_eq}
use Rattle.cw_resolve.specs.Listed.{text_at}
use Rattle.cw_resolve.proofs.Indices.{Seeks}
use Rattle.cw_resolve.proofs.name_list.index_of.Given as goal

abbrev pub invariant-loop-i : goal.invariant-loop-i
invariant-loop-i l = Seeks (λ t. bytes_eq l.name (text_at t)) l.names l.i

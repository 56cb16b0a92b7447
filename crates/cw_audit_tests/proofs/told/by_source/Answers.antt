-- What is read is the program of its own source.
use Rattle.std.proofs.Common.{sym, subst}
use Rattle.cw_syntax.specs.Trees.{file_of}
use Rattle.cw_source.specs.Read.{ReadsAs}
use Rattle.cw_audit_tests.proofs.told.by_source.Goals as goal

pub by_graph-requires-clause-reads : goal.by_graph-requires-clause-reads
by_graph-requires-clause-reads c =
    let read = c.in-Ok in
    subst (λ s. ReadsAs s (file_of read.checked.program)) (sym read.ensures.source) read.ensures.program

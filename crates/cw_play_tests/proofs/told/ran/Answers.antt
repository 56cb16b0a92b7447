use Rattle.std.proofs.Common.{sym, subst}
use Rattle.cw_rights.specs.Policies.{policy_of}
use Rattle.cw_syntax.specs.Trees.{file_of}
use Rattle.cw_resolve.specs.Scenes.{names_of}
use Rattle.cw_points.specs.Graphs.{IsGraph}
use Rattle.cw_source.specs.Read.{ReadsAs}
use Rattle.cw_play_tests.proofs.told.ran.Goals as goal

pub by_graph-requires-clause-reads : goal.by_graph-requires-clause-reads
by_graph-requires-clause-reads c =
    let program = c.in-Ok-accept_woven.program in
    subst (λ s. ReadsAs s (file_of program.checked.program)) (sym c.in-Ok-accept_woven.ensures.source) c.in-Ok-accept_woven.ensures.reads.accepted.reads

pub by_graph-requires-clause-graph : goal.by_graph-requires-clause-graph
by_graph-requires-clause-graph c =
    let program = c.in-Ok-accept_woven.program in
    subst (λ s. IsGraph (names_of (policy_of c.args.policy.now)) s (file_of program.checked.program) program.graph) (sym c.in-Ok-accept_woven.ensures.source) c.in-Ok-accept_woven.ensures.graph

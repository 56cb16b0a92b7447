use Rattle.std.proofs.Common.{ap, sym, subst}
use Rattle.cw_rights.specs.Policies.{PlainPolicy, policy_of}
use Rattle.cw_rights.specs.Valid.{IsValid}
use Rattle.cw_syntax.specs.Trees.{file_of}
use Rattle.cw_resolve.specs.Scenes.{names_of}
use Rattle.cw_points.specs.declared.graph.Graph.{Graph}
use Rattle.cw_points.specs.Graphs.{IsGraph}
use Rattle.cw_source.proofs.Runnable.{runnable}
use Rattle.cw_states.specs.States.{AreLists, lists_of}
use Rattle.cw_product.specs.Uses.{uses_of}
use Rattle.cw_play_tests.proofs.told.by_graph.Goals as goal

pub make-requires-clause-graph : goal.make-requires-clause-graph
make-requires-clause-graph c =
    let source = c.args.checked.now.source.now in
    let file = file_of c.args.checked.now.program in
    record { source = source; file = file; runnable = runnable (names_of (policy_of c.args.policy.now)) source file c.requires.reads; drawn = c.requires.graph }

pub every_run-requires-clause-valid : goal.every_run-requires-clause-valid
every_run-requires-clause-valid c = subst IsValid (sym (ap policy_of c.in-Ok.ensures.policy)) c.requires.valid

pub every_run-requires-clause-lists : goal.every_run-requires-clause-lists
every_run-requires-clause-lists c =
    let held = c.in-Ok.game in
    subst (λ (k : Graph). AreLists (uses_of (policy_of held.states.policy) k.nodes.items) (lists_of held.states)) (sym c.in-Ok.ensures.graph)
    (subst (λ (p : PlainPolicy). AreLists (uses_of p c.args.graph.now.nodes.items) (lists_of held.states)) (sym (ap policy_of c.in-Ok.ensures.policy)) c.in-Ok.ensures.lists)

pub every_run-requires-clause-graph : goal.every_run-requires-clause-graph
every_run-requires-clause-graph c =
    let source = c.args.checked.now.source.now in
    let file = file_of c.args.checked.now.program in
    subst (IsGraph (names_of (policy_of c.in-Ok.game.states.policy)) source file) (sym c.in-Ok.ensures.graph)
    (subst (λ (p : PlainPolicy). IsGraph (names_of p) source file c.args.graph.now) (sym (ap policy_of c.in-Ok.ensures.policy)) c.requires.graph)

pub every_play-requires-clause-valid : goal.every_play-requires-clause-valid
every_play-requires-clause-valid c = subst IsValid (sym (ap policy_of c.in-Ok.ensures.policy)) c.requires.valid

pub every_play-requires-clause-lists : goal.every_play-requires-clause-lists
every_play-requires-clause-lists c =
    let held = c.in-Ok.game in
    subst (λ (k : Graph). AreLists (uses_of (policy_of held.states.policy) k.nodes.items) (lists_of held.states)) (sym c.in-Ok.ensures.graph)
    (subst (λ (p : PlainPolicy). AreLists (uses_of p c.args.graph.now.nodes.items) (lists_of held.states)) (sym (ap policy_of c.in-Ok.ensures.policy)) c.in-Ok.ensures.lists)

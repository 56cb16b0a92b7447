use Rattle.std.proofs.Common.{sym, subst}
use Rattle.cw_rights.specs.Policies.{policy_of}
use Rattle.cw_syntax.specs.Trees.{file_of}
use Rattle.cw_resolve.specs.Scenes.{names_of}
use Rattle.cw_points.specs.Graphs.{IsGraph}
use Rattle.cw_source.specs.Read.{ReadsAs}
use Rattle.cw_stages.proofs.Checks.{few_rows}
use Rattle.cw_stages.proofs.Withins.{nodes_few}
use Rattle.cw_stages.proofs.tables.accept.Goals as goal

pub returns-in-Ok-clause-is : goal.returns-in-Ok-clause-is
returns-in-Ok-clause-is c = record {
  valid = c.requires.valid;
  reads = subst (λ s. ReadsAs s (file_of c.in-Ok.accepted.checked.program)) (sym c.in-Ok.ensures.source) c.in-Ok.ensures.reads.accepted.reads;
}

pub returns-in-Ok-clause-graph : goal.returns-in-Ok-clause-graph
returns-in-Ok-clause-graph c =
    subst (λ s. IsGraph (names_of (policy_of c.args.policy.now)) s (file_of c.in-Ok.accepted.checked.program) c.in-Ok.accepted.graph) (sym c.in-Ok.ensures.source) c.in-Ok.ensures.graph

pub returns-in-Ok-clause-points : goal.returns-in-Ok-clause-points
returns-in-Ok-clause-points c =
    nodes_few (names_of (policy_of c.args.policy.now)) c.args.unwoven.now.source.items
    (file_of c.in-Ok.accepted.checked.program) c.in-Ok.accepted.graph c.in-Ok.ensures.graph c.in-Ok.ensures.reads.accepted.few

pub returns-in-Ok-clause-few : goal.returns-in-Ok-clause-few
returns-in-Ok-clause-few c = few_rows (policy_of c.args.policy.now) c.requires.unwoven.has.lines c.args.unwoven.now.table c.requires.unwoven.has.spells

pub returns-in-Err-clause-stop : goal.returns-in-Err-clause-stop
returns-in-Err-clause-stop c = λ due d. (c.args.unwoven.now.source.items, c.in-Err.fault, c.in-Err.ensures.fault, d.0, d.1)

use Rattle.cw_consequences.proofs.Accepted.{graph_well, weave_well}
use Rattle.cw_consequences.proofs.laws.what_is_accepted_ends_well.Goals as goal

pub returns-clause-weave : goal.returns-clause-weave
returns-clause-weave g c = weave_well g.row.N.Denot

pub returns-clause-graph : goal.returns-clause-graph
returns-clause-graph g c = graph_well g.row.N.Denot

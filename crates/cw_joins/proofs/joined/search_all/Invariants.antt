use Rattle.std.proofs.Common.{◌-◌, ◌≤◌}
use Rattle.cw_joins.specs.Searching.{Keeps}
use Rattle.cw_joins.proofs.joined.search_all.Given as goal

abbrev pub invariant-keys : goal.invariant-keys
invariant-keys g l = record {
  keeps : Keeps g.K.Ord.cmp g.G.Ord.cmp (g.J.Joins.rules l.joins) (g.I.Indices.index l.indices) (g.P.Indices.index l.of_pairs) (g.Q.Indices.index l.of_groups) l.start l.search l.at;
  few : l.at ≤ l.most;
}

abbrev pub decreases-keys : goal.decreases-keys
decreases-keys g l = l.most - l.at

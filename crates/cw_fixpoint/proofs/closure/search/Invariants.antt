use Rattle.std.proofs.Common.{◌-◌, ◌≤◌}
use Rattle.cw_fixpoint.specs.Seen.{Seen}
use Rattle.cw_fixpoint.proofs.closure.search.Given as goal

abbrev pub invariant-keys : goal.invariant-keys
invariant-keys g l = record {
  seen : Seen g.K.Ord.cmp (g.S.Steps.after l.steps) l.starts l.seen.items l.set.keys l.at;
  few : l.at ≤ l.most;
}

abbrev pub decreases-keys : goal.decreases-keys
decreases-keys g l = l.most - l.at

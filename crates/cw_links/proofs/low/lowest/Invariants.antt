use Rattle.std.proofs.Common.{◌≡◌, ℕ, ◌-◌, ◌<◌, ◌≤◌, [], length}
use Rattle.cw_links.specs.Lists.{list_at}
use Rattle.cw_links.specs.Low.{stacks_in}
use Rattle.cw_links.proofs.low.lowest.Given as goal

abbrev pub invariant-loop-key : goal.invariant-loop-key
invariant-loop-key l = record {
  from : l.floor ≤ l.key;
  clear : (key : ℕ) → l.floor ≤ key → key < l.key → list_at (stacks_in l.stacks) key ≡ [];
}

abbrev pub decreases-loop-key : goal.decreases-loop-key
decreases-loop-key l = length l.stacks - l.key

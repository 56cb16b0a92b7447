use Rattle.std.proofs.Common.{◌≡◌, ℕ, ◌<◌, ◌≤◌, []}
use Rattle.cw_links.specs.Lists.{list_at}
use Rattle.cw_links.proofs.links.lowest.Given as goal

abbrev pub invariant-loop-height : goal.invariant-loop-height
invariant-loop-height l = (height : ℕ) → l.floor ≤ height → height < l.height → list_at l.links.lists height ≡ []

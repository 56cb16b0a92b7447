use Rattle.std.proofs.Common.{◌≡◌, ℕ, ◌<◌, ◌≤◌, []}
use Rattle.cw_links.specs.Lists.{list_at}
use Rattle.cw_links.proofs.links.are_clear.Given as goal

abbrev pub invariant-loop-list : goal.invariant-loop-list
invariant-loop-list l = (list : ℕ) → l.floor ≤ list → list < l.list → list_at l.links.lists list ≡ []

use Rattle.std.proofs.Common.{◌≡◌, take}
use Rattle.cw_linked.proofs.edges.ranked.Given as goal

abbrev pub invariant-loop-flag : goal.invariant-loop-flag
invariant-loop-flag l = l.all ≡ take l.flag-index l.flags

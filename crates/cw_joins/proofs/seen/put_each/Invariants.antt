use Rattle.std.proofs.Common.{◌≡◌, ◌++◌, filter_map, take}
use Rattle.cw_joins.specs.Seeing.{named}
use Rattle.cw_joins.proofs.seen.put_each.Given as goal

abbrev pub invariant-loop-hint : goal.invariant-loop-hint
invariant-loop-hint g l = l.keys.items ≡ l.initial.keys.items ++ filter_map (named l.there) (take l.hint-index l.hints)

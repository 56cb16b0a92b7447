use Rattle.std.proofs.Common.{◌≡◌, ◌++◌, filter_map, length}
use Rattle.cw_joins.specs.Seeing.{named}
use Rattle.cw_joins.proofs.seen.put_all.Given as goal

abbrev pub invariant-fours : goal.invariant-fours
invariant-fours g l = l.keys.items ++ filter_map (named l.there) l.rest ≡ l.initial.keys.items ++ filter_map (named l.there) l.hints

abbrev pub decreases-fours : goal.decreases-fours
decreases-fours g l = length l.rest

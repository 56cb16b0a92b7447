use Rattle.std.proofs.Common.{◌≡◌, map, drop}
use Rattle.cw_scope.specs.Rules.{reserved}
use Rattle.cw_resolve.specs.Soonest.{sooner, soonest}
use Rattle.cw_scope.proofs.places.reserved_names.Given as goal

abbrev pub invariant-loop-name : goal.invariant-loop-name
invariant-loop-name l = sooner l.place (soonest (map (reserved l.source) (drop l.name-index l.names))) ≡ soonest (map (reserved l.source) l.names)

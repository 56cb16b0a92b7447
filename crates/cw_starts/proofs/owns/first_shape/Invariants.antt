use Rattle.std.proofs.Common.{◌≡◌, [], map, drop}
use Rattle.cw_value.specs.Starts.{first_shape}
use Rattle.cw_starts.specs.Owning.{own_in}
use Rattle.cw_starts.proofs.owns.first_shape.Given as goal

abbrev pub invariant-loop-own : goal.invariant-loop-own
invariant-loop-own l = first_shape l.source l.outer l.before (map own_in (drop l.own-index l.owns)) ≡ first_shape l.source l.outer [] (map own_in l.owns)

use Rattle.std.proofs.Common.{◌≡◌, ◌-◌, drop, length}
use Rattle.std.specs.Str.Parse.{digits_value}
use Rattle.cw_core.proofs.hexadecimal.sum_of.Given as goal

abbrev pub invariant-loop-index : goal.invariant-loop-index
invariant-loop-index l = l.set ≡ digits_value 16 (drop (length l.digits - l.index) l.digits)

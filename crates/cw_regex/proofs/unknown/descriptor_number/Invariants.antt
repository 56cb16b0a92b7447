use Rattle.std.proofs.Common.{◌≡◌, drop}
use Rattle.std.specs.List.{position_from}
use Rattle.std.specs.Str.{bytes_eq}
use Rattle.cw_regex.specs.Meaning.{names_of}
use Rattle.cw_regex.proofs.unknown.descriptor_number.Given as goal

abbrev pub invariant-loop-i : goal.invariant-loop-i
invariant-loop-i l = position_from (bytes_eq l.identifier) l.i (names_of (drop l.i l.descriptors)) ≡ position_from (bytes_eq l.identifier) 0 (names_of l.descriptors)

use Rattle.std.proofs.Common.{◌≡◌, drop}
use Rattle.std.specs.List.{position_from}
use Rattle.std.specs.Str.{bytes_eq}
use Rattle.cw_regex.specs.Meaning.{names_of}
use Rattle.cw_policy.proofs.parts.descriptor_number.Given as goal

abbrev pub invariant-loop-i : goal.invariant-loop-i
invariant-loop-i l = position_from (bytes_eq l.name) l.i (names_of (drop l.i l.descriptors)) ≡ position_from (bytes_eq l.name) 0 (names_of l.descriptors)

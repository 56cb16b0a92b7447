use Rattle.std.proofs.Common.{◌≡◌, drop}
use Rattle.cw_regex.specs.Meaning.{names_of}
use Rattle.cw_regex.specs.Faults.{is_known}
use Rattle.cw_regex.proofs.unknown.is_known.Given as goal

abbrev pub invariant-loop-descriptor : goal.invariant-loop-descriptor
invariant-loop-descriptor l = is_known (names_of (drop l.descriptor-index l.descriptors)) l.identifier ≡ is_known (names_of l.descriptors) l.identifier

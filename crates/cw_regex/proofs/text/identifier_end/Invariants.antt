use Rattle.std.proofs.Common.{◌≡◌, ◌-◌, true, take, drop}
use Rattle.std.specs.List.{list_all}
use Rattle.cw_rights.specs.Valid.{is_name_byte}
use Rattle.cw_regex.proofs.text.identifier_end.Given as goal

abbrev pub invariant-loop-end : goal.invariant-loop-end
invariant-loop-end l = list_all is_name_byte (take (l.end - l.at) (drop l.at l.text)) ≡ true

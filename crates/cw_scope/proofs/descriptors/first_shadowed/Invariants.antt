use Rattle.std.proofs.Common.{◌≡◌, ◌&&◌, map, drop}
use Rattle.std.specs.List.{position_from}
use Rattle.cw_rights.specs.Policies.{descriptor_of}
use Rattle.cw_scope.specs.Descriptors.{is_variable, is_shadowed}
use Rattle.cw_scope.proofs.descriptors.first_shadowed.Given as goal

abbrev pub invariant-loop-i : goal.invariant-loop-i
invariant-loop-i l = position_from (λ d. is_variable d && is_shadowed l.source l.names d.name) l.i (map descriptor_of (drop l.i l.descriptors)) ≡ position_from
    (λ d. is_variable d && is_shadowed l.source l.names d.name) 0 (map descriptor_of l.descriptors)

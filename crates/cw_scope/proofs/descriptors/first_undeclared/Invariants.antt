use Rattle.std.proofs.Common.{◌≡◌, ◌&&◌, not, map, drop}
use Rattle.std.specs.List.{position_from}
use Rattle.cw_rights.specs.Policies.{descriptor_of}
use Rattle.cw_scope.specs.Descriptors.{is_variable, is_declared}
use Rattle.cw_scope.specs.Held.{entry_of}
use Rattle.cw_scope.proofs.descriptors.first_undeclared.Given as goal

abbrev pub invariant-loop-i : goal.invariant-loop-i
invariant-loop-i l = position_from (λ d. is_variable d && not (is_declared l.source (map entry_of l.entries) d.name)) l.i (map descriptor_of (drop l.i l.descriptors)) ≡ position_from
    (λ d. is_variable d && not (is_declared l.source (map entry_of l.entries) d.name)) 0 (map descriptor_of l.descriptors)

use Rattle.std.proofs.Common.{◌≡◌, not, drop}
use Rattle.std.specs.List.{position_from}
use Rattle.cw_syntax.specs.Trees.{file_of}
use Rattle.cw_resolve.specs.Held.{lists}
use Rattle.cw_detach.specs.Faults.{is_function}
use Rattle.cw_detach.proofs.detaching.no_function.Given as goal

abbrev pub invariant-loop-i : goal.invariant-loop-i
invariant-loop-i l = position_from (λ name. not (is_function l.checked.source.now (file_of l.checked.program) name)) l.i (lists (drop l.i l.detached)) ≡ position_from
    (λ name. not (is_function l.checked.source.now (file_of l.checked.program) name)) 0 (lists l.detached)

use Rattle.std.proofs.Common.{◌≡◌, drop}
use Rattle.std.specs.List.{position_from}
use Rattle.cw_resolve.specs.Held.{lists}
use Rattle.cw_detach.specs.Form.{is_among}
use Rattle.cw_detach.proofs.detaching.both.Given as goal

abbrev pub invariant-loop-i : goal.invariant-loop-i
invariant-loop-i l = position_from (λ name. is_among (lists l.split) name) l.i (lists (drop l.i l.detached)) ≡ position_from
    (λ name. is_among (lists l.split) name) 0 (lists l.detached)

use Rattle.std.proofs.Common.{◌≡◌, drop}
use Rattle.cw_detach.specs.Form.{is_among}
use Rattle.cw_resolve.specs.Held.{lists}
use Rattle.cw_detach.proofs.names.is_among.Given as goal

abbrev pub invariant-loop-other : goal.invariant-loop-other
invariant-loop-other l = is_among (lists (drop l.other-index l.names)) l.name ≡ is_among (lists l.names) l.name

use Rattle.std.proofs.Common.{◌*◌, ◌<◌, ℕ, List, length, sym, ap, subst, arith}
use Rattle.cw_links.specs.Keys.{Keyed, AreQueued}
use Rattle.cw_links.proofs.Queueing.{asked_queued, alike_queued}
use Rattle.cw_links.proofs.keys.Keys.ask_cell.Goals as goal

pub invariant_of-self-then-may_wait : goal.invariant_of-self-then-may_wait
invariant_of-self-then-may_wait c =
    let s = c.self.inside in
    let view = ap (λ (k : Keyed). length k.asked) c.self.view_is in
    let within : c.args.cell < length s.cells.asked = omega (arith, view, c.requires.within) in
    subst (λ (asked : List ℕ). AreQueued asked s.due.items c.put.new.self) (sym c.wait.ensures.asked)
    (asked_queued s.cells.asked s.due.items s.queue c.put.new.self c.self.invariant c.args.cell (2 * c.args.height) within c.in_ok-put.ensures.put)

pub invariant_of-self : goal.invariant_of-self
invariant_of-self c =
    let s = c.self.inside in
    alike_queued s.cells.asked s.due.items s.queue c.put.new.self c.self.invariant c.in_err-put.ensures.refused

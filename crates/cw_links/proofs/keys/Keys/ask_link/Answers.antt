use Rattle.std.proofs.Common.{◌<◌, length, ap, arith}
use Rattle.cw_links.specs.Keys.{Keyed}
use Rattle.cw_links.proofs.Queueing.{due_queued, alike_queued}
use Rattle.cw_links.proofs.keys.Keys.ask_link.Goals as goal

pub invariant_of-self-then-due-eq0 : goal.invariant_of-self-then-due-eq0
invariant_of-self-then-due-eq0 c =
    let s = c.self.inside in
    let view = ap (λ (k : Keyed). length k.due) c.self.view_is in
    let within : c.args.link < length s.due.items = omega (arith, view, c.requires.within) in
    due_queued s.cells.asked s.due.items s.queue c.put.new.self c.self.invariant c.args.link c.args.key within c.in_ok-put.ensures.put

pub invariant_of-self : goal.invariant_of-self
invariant_of-self c =
    let s = c.self.inside in
    alike_queued s.cells.asked s.due.items s.queue c.put.new.self c.self.invariant c.in_err-put.ensures.refused

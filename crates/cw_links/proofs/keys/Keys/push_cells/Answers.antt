use Rattle.std.proofs.Common.{ℕ, List, sym, ap, subst, arith}
use Rattle.cw_links.specs.Keys.{Keyed, AreQueued}
use Rattle.cw_links.proofs.Queueing.{pushed_cells}
use Rattle.cw_links.proofs.keys.Keys.push_cells.Goals as goal

pub invariant_of-self : goal.invariant_of-self
invariant_of-self c =
    let s = c.self.inside in
    let spare = ap (λ (k : Keyed). k.spare_cells) c.self.view_is in
    subst (λ (asked : List ℕ). AreQueued asked s.due.items s.queue) (sym c.push.ensures.asked)
    (pushed_cells s.cells.asked s.due.items s.queue c.args.many c.self.invariant (omega (arith, spare, c.requires.room, c.self.invariant.few_cells)))

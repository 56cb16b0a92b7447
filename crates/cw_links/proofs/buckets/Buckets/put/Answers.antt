use Rattle.std.proofs.Common.{ℕ, List, ◌+◌, ◌-◌, [], length, replicate, arith}
use Rattle.std.proofs.lemmas.List.{length-append, length-replicate}
use Rattle.cw_links.proofs.Piles.{puts}
use Rattle.cw_links.proofs.buckets.Buckets.put.Goals as goal

pub invariant_of-self-2 : goal.invariant_of-self-2
invariant_of-self-2 c =
    let s = c.self.inside in
    rw (c.move_to.ensures.lists, c.move_to.ensures.cells, c.in_ok-reach.ensures.lists, c.reach.ensures.cells, c.min-self-inside.ensures)
    (puts s.links.lists s.links.cells _ c.args.cell c.args.height s.heights.items s.floor c.self.invariant (rw (← c.self.view_is) at c.requires)
    (omega (arith, length-append s.links.lists (replicate (c.args.height + 1 - length s.links.lists) []), length-replicate {A = List ℕ} (c.args.height + 1 - length s.links.lists) [])))

use Rattle.cw_cells.proofs.Kept.{set_there}
use Rattle.cw_cells.proofs.cells.Cells.set.Goals as goal

pub returns-clause-written : goal.returns-clause-written
returns-clause-written c =
    let s = c.self.inside in
    rw (← c.self.view_is, c.in_ok-reach.ensures.grown) (set_there s.turn s.size s.rest s.entries.items c.args.at c.args.cell)

use Rattle.cw_linked.proofs.solver.tie_at.Goals as goal

pub take_link-requires-clause-freed : goal.take_link-requires-clause-freed
take_link-requires-clause-freed c = c.requires.freed c.cell_by-link.result c.cell_by-link.ensures

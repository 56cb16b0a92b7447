use Rattle.cw_linked.proofs.solver.finish_at.Goals as goal

pub finish-requires-clause-taken : goal.finish-requires-clause-taken
finish-requires-clause-taken c = c.requires.taken c.look_at.new.home.cell c.look_at.ensures.cell

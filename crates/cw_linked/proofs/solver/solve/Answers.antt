use Rattle.cw_solve.proofs.Routing.{routed_of}
use Rattle.cw_linked.proofs.Listing.{listed_none}
use Rattle.cw_linked.proofs.solver.solve.Goals as goal

pub solve_table-requires : goal.solve_table-requires
solve_table-requires c = record { routed = routed_of c.args.game.now c.requires.made; listed = listed_none c.make-indices.result c.make-indices.ensures.count }

pub of-requires : goal.of-requires
of-requires c = record { kept = record { routed = routed_of c.args.game.now c.requires.made; table = c.in_ok-table.ensures.table; done = c.in_ok-table.ensures.done } }

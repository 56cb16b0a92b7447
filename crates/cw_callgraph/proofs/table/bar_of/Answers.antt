use Rattle.std.proofs.Common.{length}
use Rattle.cw_callgraph.proofs.Walked.{all_below}
use Rattle.cw_callgraph.proofs.table.bar_of.Goals as goal

pub least_place-requires-clause-within : goal.least_place-requires-clause-within
least_place-requires-clause-within c =
    all_below (length c.args.table.now.rows.items) (length c.args.bars.now.bodies.items) c.in_ok-found.found.numbers.items c.deref.result.now c.in_ok-found.ensures.within c.deref.ensures.value
    c.requires.bodies

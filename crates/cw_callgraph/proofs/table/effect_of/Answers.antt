use Rattle.std.proofs.Common.{length}
use Rattle.cw_callgraph.proofs.Walked.{all_below}
use Rattle.cw_callgraph.proofs.table.effect_of.Goals as goal

pub least_place-forbids-requires-clause-within : goal.least_place-forbids-requires-clause-within
least_place-forbids-requires-clause-within c =
    all_below (length c.args.table.now.rows.items) (length c.args.bars.now.bodies.items) c.in_ok-reaches.reaches.items c.deref-2.result.now c.in_ok-reaches.ensures.within c.deref-2.ensures.value
    c.requires.bodies

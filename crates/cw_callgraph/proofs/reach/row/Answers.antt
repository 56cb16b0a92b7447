use Rattle.cw_callgraph.proofs.Rows.{row_is, row_below}
use Rattle.cw_callgraph.proofs.reach.row.Goals as goal

pub returns-clause-row : goal.returns-clause-row
returns-clause-row c = row_is c.args.calls.now.rows.items c.args.function c.index.result.now c.deref.result.now c.requires.within c.index.ensures c.deref.ensures.value

pub returns-clause-below : goal.returns-clause-below
returns-clause-below c =
    row_below _ c.args.calls.now.rows.items c.args.function c.deref.result.now c.requires.below c.requires.within (returns-clause-row c)

use Rattle.std.proofs.lemmas.List.Elements.{Contains-get_or}
use Rattle.cw_lazy_table.proofs.lists.back_rows.Goals as goal

pub back_row-requires-clause-state : goal.back_row-requires-clause-state
back_row-requires-clause-state c = (c.requires.states _ (Contains-get_or c.args.returns.now c.loop-back.back-index _ c.loop-back-test.true)).0

pub back_row-requires-clause-exit : goal.back_row-requires-clause-exit
back_row-requires-clause-exit c = (c.requires.states _ (Contains-get_or c.args.returns.now c.loop-back.back-index _ c.loop-back-test.true)).1

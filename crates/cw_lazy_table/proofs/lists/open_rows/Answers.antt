use Rattle.std.proofs.lemmas.List.Elements.{Contains-get_or}
use Rattle.cw_lazy_table.proofs.lists.open_rows.Goals as goal

pub moved-requires-clause-position : goal.moved-requires-clause-position
moved-requires-clause-position c = (c.requires.there _ (Contains-get_or c.args.seam_keys.now c.loop-seam_key.seam_key-index _ c.loop-seam_key-test.true)).0

pub moved-requires-clause-state : goal.moved-requires-clause-state
moved-requires-clause-state c = (c.requires.there _ (Contains-get_or c.args.seam_keys.now c.loop-seam_key.seam_key-index _ c.loop-seam_key-test.true)).1

pub moved-requires-in-loop-seam_key-clause-position : goal.moved-requires-in-loop-seam_key-clause-position
moved-requires-in-loop-seam_key-clause-position c = (c.requires.there _ (Contains-get_or c.args.seam_keys.now c.loop-seam_key.seam_key-index _ c.loop-seam_key-test.true)).0

pub moved-requires-in-loop-seam_key-clause-state : goal.moved-requires-in-loop-seam_key-clause-state
moved-requires-in-loop-seam_key-clause-state c = (c.requires.there _ (Contains-get_or c.args.seam_keys.now c.loop-seam_key.seam_key-index _ c.loop-seam_key-test.true)).1

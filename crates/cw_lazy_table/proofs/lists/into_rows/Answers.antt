use Rattle.std.proofs.lemmas.List.Elements.{Contains-get_or}
use Rattle.cw_lazy_table.proofs.lists.into_rows.Goals as goal

pub promise_near-promise-requires-clause-can : goal.promise_near-promise-requires-clause-can
promise_near-promise-requires-clause-can c = c.requires.can _ (Contains-get_or c.args.seam_keys.now c.loop-seam_key.seam_key-index _ c.loop-seam_key-test.true)

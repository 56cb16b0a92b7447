use Rattle.std.proofs.lemmas.Option.{slice_get_within}
use Rattle.cw_linked.proofs.home.no_home.Goals as goal

pub numbered-at-requires-clause-within : goal.numbered-at-requires-clause-within
numbered-at-requires-clause-within c = slice_get_within c.args.blocks.now.contexts.items 0 _ c.requires.blocks.first

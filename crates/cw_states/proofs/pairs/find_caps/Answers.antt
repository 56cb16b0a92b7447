use Rattle.std.proofs.Common.{◌∙◌}
use Rattle.cw_states.proofs.Listed.{position_caps}
use Rattle.cw_states.proofs.pairs.find_caps.Goals as goal

pub returns-clause-index : goal.returns-clause-index
returns-clause-index c = c.find_ranked.ensures.index ∙ position_caps c.args.caps c.args.rights.now

use Rattle.std.proofs.Common.{◌∙◌, ap}
use Rattle.cw_fixpoint.specs.Numbers.{number_in}
use Rattle.cw_least_strategy.specs.Acts.{key_at}
use Rattle.cw_least_strategy.specs.Small.{small_cmp}
use Rattle.cw_least_strategy.proofs.Small.{number_same}
use Rattle.cw_least_strategy.proofs.rows.lower_number.Goals as goal

pub returns : goal.returns
returns c =
    c.index_of.ensures.is ∙ ap (number_in small_cmp c.args.keys.now) c.small.ensures
    ∙ number_same c.args.aims.now c.requires.ranked.ascend.order c.args.keys.now (key_at c.args.aim.now c.args.to) c.requires.ranked.within

use Rattle.std.proofs.Common.{◌<◌, sym, subst}
use Rattle.cw_product.specs.Product.{game_of}
use Rattle.cw_least_strategy.specs.Acts.{IsIn, IsThere}
use Rattle.cw_least_strategy.specs.declared.key.Key.{Key}
use Rattle.cw_least_strategy.proofs.Small.{taken_within, taken_is}
use Rattle.cw_least_strategy.proofs.search.context_at.Goals as goal

pub has-requires-clause-routed : goal.has-requires-clause-routed
has-requires-clause-routed c = c.requires.can.followed.routed

pub has-requires-clause-aim : goal.has-requires-clause-aim
has-requires-clause-aim c = taken_within c.args.solved.now c.args.aims.now c.args.key.now c.requires.can

pub has-requires-clause-state : goal.has-requires-clause-state
has-requires-clause-state c = (taken_is c.args.solved.now c.args.aims.now c.args.key.now c.requires.can).state

pub whole-lent-requires : goal.whole-lent-requires
whole-lent-requires c = record { within = taken_within c.args.solved.now c.args.aims.now c.args.key.now c.requires.can }

pub context_of-requires-clause-routed : goal.context_of-requires-clause-routed
context_of-requires-clause-routed c = c.requires.can.followed.routed

pub context_of-requires-clause-there : goal.context_of-requires-clause-there
context_of-requires-clause-there c =
    let is = taken_is c.args.solved.now c.args.aims.now c.args.key.now c.requires.can in
    subst (λ (k : Key). IsThere (game_of c.args.solved.now.game) k.pos k.aim) (sym c.whole-lent.ensures) (is.function, is.of, is.needed)

pub context_of-requires-clause-state : goal.context_of-requires-clause-state
context_of-requires-clause-state c =
    let is = taken_is c.args.solved.now c.args.aims.now c.args.key.now c.requires.can in
    subst (λ (k : Key). k.state < (game_of c.args.solved.now.game).states.count) (sym c.whole-lent.ensures) is.state

pub returns : goal.returns
returns c = subst (λ (k : Key). IsIn c.args.solved.now c.context_of.result k.aim k.pos k.state) c.whole-lent.ensures c.context_of.ensures

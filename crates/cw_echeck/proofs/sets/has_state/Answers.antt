use Rattle.std.proofs.Common.{◌∙◌, sym}
use Rattle.std.proofs.lemmas.Bool.{le-ltb}
use Rattle.cw_game.proofs.Members.{has_is, has_above}
use Rattle.cw_echeck.proofs.sets.has_state.Goals as goal

pub returns-then-state-lt-MEMBERS : goal.returns-then-state-lt-MEMBERS
returns-then-state-lt-MEMBERS c = c.contains.ensures.member ∙ has_is c.args.set.now c.args.state.0

pub returns-else-state-lt-MEMBERS : goal.returns-else-state-lt-MEMBERS
returns-else-state-lt-MEMBERS c =
    le-ltb c.args.state.0 1024 c.if-state-lt-MEMBERS.false
    ∙ sym (has_above c.args.set.now c.args.state.0 c.fact_members_are_below_1024.ensures.below c.if-state-lt-MEMBERS.false)

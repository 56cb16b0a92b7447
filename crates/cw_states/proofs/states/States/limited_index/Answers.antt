use Rattle.std.proofs.Common.{◌∙◌}
use Rattle.cw_states.proofs.Tabled.{limited_seen}
use Rattle.cw_states.proofs.states.States.limited_index.Goals as goal

pub look-requires-clause-column : goal.look-requires-clause-column
look-requires-clause-column c =
    (limited_seen c.self.inside.pairs c.args.self.now c.self.view_is c.self.inside.tables c.self.invariant c.deref.result.now c.args.limit
    c.limit_index-index.result c.args.column c.deref.ensures.value (rw c.self.view_is at c.limit_index-index.ensures) c.requires.column).0

pub look-requires-clause-index : goal.look-requires-clause-index
look-requires-clause-index c =
    (limited_seen c.self.inside.pairs c.args.self.now c.self.view_is c.self.inside.tables c.self.invariant c.deref.result.now c.args.limit
    c.limit_index-index.result c.args.column c.deref.ensures.value (rw c.self.view_is at c.limit_index-index.ensures) c.requires.column).1

pub returns : goal.returns
returns c =
    c.look.ensures
    ∙ (limited_seen c.self.inside.pairs c.args.self.now c.self.view_is c.self.inside.tables c.self.invariant c.deref.result.now c.args.limit
    c.limit_index-index.result c.args.column c.deref.ensures.value (rw c.self.view_is at c.limit_index-index.ensures) c.requires.column).2

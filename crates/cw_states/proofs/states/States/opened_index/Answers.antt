use Rattle.std.proofs.Common.{◌∙◌}
use Rattle.cw_states.proofs.Tabled.{opened_seen}
use Rattle.cw_states.proofs.states.States.opened_index.Goals as goal

pub look-requires-clause-column : goal.look-requires-clause-column
look-requires-clause-column c =
    (opened_seen c.self.inside.pairs c.args.self.now c.self.view_is c.self.inside.tables c.self.invariant c.deref.result.now c.args.descriptor
    c.args.column c.deref.ensures.value c.requires.descriptor c.requires.column).0

pub look-requires-clause-index : goal.look-requires-clause-index
look-requires-clause-index c =
    (opened_seen c.self.inside.pairs c.args.self.now c.self.view_is c.self.inside.tables c.self.invariant c.deref.result.now c.args.descriptor
    c.args.column c.deref.ensures.value c.requires.descriptor c.requires.column).1

pub returns : goal.returns
returns c =
    c.look.ensures
    ∙ (opened_seen c.self.inside.pairs c.args.self.now c.self.view_is c.self.inside.tables c.self.invariant c.deref.result.now c.args.descriptor
    c.args.column c.deref.ensures.value c.requires.descriptor c.requires.column).2

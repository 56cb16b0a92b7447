use Rattle.std.proofs.Common.{◌∙◌}
use Rattle.cw_states.proofs.Tabled.{entry_seen}
use Rattle.cw_states.proofs.states.States.entry.Goals as goal

pub look-requires-clause-column : goal.look-requires-clause-column
look-requires-clause-column c =
    (entry_seen c.self.inside.pairs c.args.self.now c.self.view_is c.self.inside.tables c.self.invariant c.deref.result.now c.args.label
    c.args.state.0 c.deref.ensures.value c.requires.label c.requires.state).0

pub look-requires-clause-index : goal.look-requires-clause-index
look-requires-clause-index c =
    (entry_seen c.self.inside.pairs c.args.self.now c.self.view_is c.self.inside.tables c.self.invariant c.deref.result.now c.args.label
    c.args.state.0 c.deref.ensures.value c.requires.label c.requires.state).1

pub returns : goal.returns
returns c =
    c.look.ensures
    ∙ (entry_seen c.self.inside.pairs c.args.self.now c.self.view_is c.self.inside.tables c.self.invariant c.deref.result.now c.args.label
    c.args.state.0 c.deref.ensures.value c.requires.label c.requires.state).2

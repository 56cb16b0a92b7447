use Rattle.std.proofs.Common.{◌∙◌}
use Rattle.cw_states.proofs.Tabled.{split_seen}
use Rattle.cw_states.proofs.states.States.split_index.Goals as goal

pub read-requires : goal.read-requires
read-requires c =
    (split_seen c.self.inside.pairs c.args.self.now c.self.view_is c.self.inside.tables c.self.invariant c.deref.result.now c.args.column
    c.deref.ensures.value c.requires.column).0

pub returns : goal.returns
returns c =
    c.read.ensures
    ∙ (split_seen c.self.inside.pairs c.args.self.now c.self.view_is c.self.inside.tables c.self.invariant c.deref.result.now c.args.column
    c.deref.ensures.value c.requires.column).1

use Rattle.std.proofs.Common.{sym}
use Rattle.cw_text.proofs.Cuts.{takes_first, takes_last}
use Rattle.cw_text.proofs.fields.Fields.take.Goals as goal

pub returns-in-Some-clause-some : goal.returns-in-Some-clause-some
returns-in-Some-clause-some c = takes_first c.self.inside.separator c.self.inside.text.now c.in-Some.field.now c.in-Some.rest.now c.self.inside.more c.args.self.now c.if-not-self.false
    (sym c.self.view_is) c.in-Some.ensures.parts c.in-Some.ensures.first

pub returns-in-None-clause-some : goal.returns-in-None-clause-some
returns-in-None-clause-some c = takes_last c.self.inside.separator c.self.inside.text.now c.self.inside.more c.args.self.now c.if-not-self.false (sym c.self.view_is) c.in-None.ensures.none

use Rattle.std.proofs.Common.{◌∙◌, sym, ap, List, Option, arith}
use Rattle.std.specs.Prelude.{find}
use Rattle.cw_syntax.specs.Trees.{Definition, Statement}
use Rattle.cw_value.specs.Deeds.{begins_at, said_all}
use Rattle.cw_deeds.specs.Forms.{deed_among}
use Rattle.cw_machine.specs.Knowing.{deed_for, said_in}
use Rattle.cw_machine.proofs.Behind.{same_deed}
use Rattle.cw_machine.proofs.Kept.{at_known, past_known}
use Rattle.cw_machine.proofs.tasks.deed_of.Goals as goal

pub returns-then-number-said : goal.returns-then-number-said
returns-then-number-said c = λ functions known.
    let none = past_known said_in (λ (f : Definition). said_all f.body) c.args.said.now functions c.args.number known (omega arith) in
    sym (ap (λ (o : Option Definition). deed_for o c.args.row) none)

pub returns : goal.returns
returns c = λ functions known.
    let here = c.index-said-number.result in
    let f = at_known said_in (λ (f : Definition). said_all f.body) c.args.said.now functions c.args.number here known (omega arith) c.index-said-number.is in
    c.deed_by.ensures.deed
    ∙ (same_deed (said_in c.behind.result.now) (said_in here) c.args.row
    (ap (λ p. find (begins_at p) (said_in c.behind.result.now)) (sym c.place_of.ensures) ∙ (c.behind.ensures.found ∙ ap (λ p. find (begins_at p) (said_in here)) c.place_of.ensures))
    ∙ (ap (λ (l : List Statement). deed_among l c.args.row) f.2 ∙ sym (ap (λ (o : Option Definition). deed_for o c.args.row) f.1)))

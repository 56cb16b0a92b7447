use Rattle.std.proofs.Common.{◌++◌, map, sym, ap, ◌∙◌}
use Rattle.std.proofs.lemmas.List.{append-nil}
use Rattle.cw_value.specs.Deeds.{said_init}
use Rattle.cw_syntax.specs.Trees.{perhaps_of}
use Rattle.cw_slots.specs.Texts.{statement_at}
use Rattle.cw_slots.proofs.Shapes.{no_init}
use Rattle.cw_slots.proofs.statements.put_init.Goals as goal

pub returns-in-For : goal.returns-in-For
returns-in-For c =
    let out = map statement_at c.args.out.now.items in
    let none = ap (λ i. said_init (perhaps_of i)) c.in-Some.is ∙ no_init c.in-Some.init c.in-For.field-0 c.in-For.field-1 c.in-For.is in
    sym (ap (λ l. out ++ l) none ∙ append-nil out)

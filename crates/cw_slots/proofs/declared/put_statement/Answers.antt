use Rattle.std.proofs.Common.{◌++◌, map, sym, ap, ◌∙◌}
use Rattle.std.proofs.lemmas.List.{append-nil}
use Rattle.cw_value.specs.Machines.{names_of}
use Rattle.cw_slots.specs.Texts.{of_shape, text_at}
use Rattle.cw_slots.proofs.Sorts.{no_block, no_for}
use Rattle.cw_slots.proofs.declared.put_statement.Goals as goal

pub returns-in-For : goal.returns-in-For
returns-in-For c =
    let out = map text_at c.args.out.now.items in
    sym (ap (λ l. out ++ names_of c.args.source.now (of_shape c.args.arrays) l) (no_for c.args.statement.now c.in-For.field-0 c.in-For.field-1 c.in-For.is) ∙ append-nil out)

pub returns-in-Block : goal.returns-in-Block
returns-in-Block c =
    let out = map text_at c.args.out.now.items in
    sym (ap (λ l. out ++ names_of c.args.source.now (of_shape c.args.arrays) l) (no_block c.args.statement.now c.in-Block.field-0 c.in-Block.is) ∙ append-nil out)

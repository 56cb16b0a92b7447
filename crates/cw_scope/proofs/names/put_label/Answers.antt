use Rattle.std.proofs.Common.{◌++◌, sym, ap, ◌∙◌}
use Rattle.std.proofs.lemmas.List.{append-nil}
use Rattle.cw_scope.proofs.Shapes.{no_label}
use Rattle.cw_scope.proofs.names.put_label.Goals as goal

pub returns-in-For : goal.returns-in-For
returns-in-For c =
    let out = c.args.out.now.items in
    sym (ap (λ l. out ++ l) (no_label c.args.statement.now c.in-For.field-0 c.in-For.field-1 c.in-For.is) ∙ append-nil out)

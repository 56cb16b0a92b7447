use Rattle.std.proofs.Common.{sym, ap, ◌∙◌, List, length}
use Rattle.std.specs.Prelude.{nat_eq}
use Rattle.cw_syntax.specs.declared.program.Expr.{Expr, out-Expr}
use Rattle.cw_syntax.specs.Trees.{trees_of}
use Rattle.cw_worlds.specs.Forks.{calls_fork}
use Rattle.cw_items.proofs.Operands.{with_arguments}
use Rattle.cw_items.proofs.forks.calls_fork.Goals as goal

pub returns-else-is_empty : goal.returns-else-is_empty
returns-else-is_empty c =
    let parts = (out-Expr c.args.e.now).parts.items in
    c.if-is_empty.false
    ∙ sym (ap (λ o. calls_fork c.args.checked.now.source.now o (trees_of parts)) c.in-Call.is
    ∙ with_arguments c.args.checked.now.source.now c.in-Call.name parts
    (ap (λ (l : List Expr). nat_eq (length l) 0) (sym c.as_slice.ensures.value) ∙ sym c.is_empty.ensures ∙ c.if-is_empty.false))

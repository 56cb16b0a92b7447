use Rattle.std.proofs.Common.{◌≡◌, false, ◌||◌, ap, sym, ◌∙◌}
use Rattle.std.specs.List.{list_any}
use Rattle.cw_syntax.specs.declared.program.Expr.{out-Expr}
use Rattle.cw_syntax.specs.Trees.{tree_of, trees_of}
use Rattle.cw_scope.specs.Walks.{nodes_in}
use Rattle.cw_scope.specs.Rules.{is_call}
use Rattle.cw_scope.proofs.Shapes.{nodes_of}
use Rattle.cw_scope.proofs.forms.+calls.Goals as goal

pub is_calling-returns-else-is_call : goal.is_calling-returns-else-is_call
is_calling-returns-else-is_call t c =
    let e = c.args.e.now in
    let rest = list_any is_call (nodes_in (trees_of (out-Expr e).parts.items)) in
    let no : is_call (tree_of e) ≡ false = sym c.is_call.ensures ∙ c.if-is_call.false in
    c.are_calling.ensures
    ∙ ap (λ l. list_any is_call (nodes_in (trees_of l))) c.deref.ensures.value
    ∙ ap (λ b. b || rest) (sym no)
    ∙ sym (ap (list_any is_call) (nodes_of e))

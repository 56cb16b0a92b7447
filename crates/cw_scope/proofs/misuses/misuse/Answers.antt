use Rattle.std.proofs.Common.{◌&&◌, ap, ap₂, sym, ◌∙◌, codes}
use Rattle.std.specs.Str.{bytes_eq}
use Rattle.cw_syntax.specs.declared.program.Expr.{out-Expr}
use Rattle.cw_syntax.specs.declared.program.Op.TheVariants.{Call as CallOp, Prefix, Suffix, Assign}
use Rattle.cw_syntax.specs.Trees.{trees_of}
use Rattle.cw_scope.specs.Rules.{at_if}
use Rattle.cw_scope.specs.Descriptors.{misuse, is_change, first_is_variable, names_some}
use Rattle.cw_scope.proofs.Operators.{at_operator, isnt_misuse}
use Rattle.cw_scope.proofs.misuses.misuse.Goals as goal

pub returns-in-Assign : goal.returns-in-Assign
returns-in-Assign c =
    let s = c.args.scene.now in
    let e = c.args.e.now in
    c.at_if.ensures
    ∙ ap (λ v. at_if v (out-Expr e).from) (c.first_is_variable.ensures ∙ ap (λ l. first_is_variable s (trees_of l)) c.deref.ensures.value)
    ∙ sym (at_operator (misuse s) e (Assign c.in-Assign.field-0) c.in-Assign.is)

pub returns-in-Prefix : goal.returns-in-Prefix
returns-in-Prefix c =
    let s = c.args.scene.now in
    let e = c.args.e.now in
    c.at_if-in-Prefix.ensures
    ∙ ap (λ v. at_if v (out-Expr e).from) (c.changes_variable.ensures ∙ ap (λ l. is_change c.in-Prefix.n && first_is_variable s (trees_of l)) c.deref-in-Prefix.ensures.value)
    ∙ sym (at_operator (misuse s) e (Prefix c.in-Prefix.n) c.in-Prefix.is)

pub returns-in-Suffix : goal.returns-in-Suffix
returns-in-Suffix c =
    let s = c.args.scene.now in
    let e = c.args.e.now in
    c.at_if-in-Suffix.ensures
    ∙ ap (λ v. at_if v (out-Expr e).from) (c.first_is_variable-in-Suffix.ensures ∙ ap (λ l. first_is_variable s (trees_of l)) c.deref-in-Suffix.ensures.value)
    ∙ sym (at_operator (misuse s) e (Suffix c.in-Suffix.field-0) c.in-Suffix.is)

pub returns-in-Call : goal.returns-in-Call
returns-in-Call c =
    let s = c.args.scene.now in
    let e = c.args.e.now in
    c.at_if-in-Call.ensures
    ∙ ap (λ v. at_if v (out-Expr e).from) (c.is_close_of_some.ensures ∙ ap₂ (λ t l. bytes_eq t (codes "close") && names_some s (trees_of l)) c.text.ensures.bytes c.deref-in-Call.ensures.value)
    ∙ sym (at_operator (misuse s) e (CallOp c.in-Call.f) c.in-Call.is)

pub returns-in_default : goal.returns-in_default
returns-in_default c = sym (isnt_misuse c.args.scene.now c.args.e.now c.in_default.not-Assign c.in_default.not-Prefix c.in_default.not-Suffix c.in_default.not-Call)

use Rattle.std.proofs.Common.{ap, ap₂, sym, ◌∙◌}
use Rattle.cw_syntax.specs.declared.program.Expr.{out-Expr}
use Rattle.cw_syntax.specs.declared.program.Op.TheVariants.{Assign}
use Rattle.cw_syntax.specs.Names.{number_in}
use Rattle.cw_syntax.specs.Plans.{call_action, action_of}
use Rattle.cw_syntax.specs.Trees.{trees_of, Node}
use Rattle.cw_resolve.specs.Acts.{act_of}
use Rattle.cw_syntax.proofs.Shapes.{node_is}
use Rattle.cw_resolve.proofs.Acting.{calls, computes}
use Rattle.cw_resolve.proofs.actions.action_of.Goals as goal

pub returns-in-Call : goal.returns-in-Call
returns-in-Call c =
    let s = c.args.scene.now in
    let e = c.args.e.now in
    let o = out-Expr e in
    record {
      act = c.call_action.ensures
          ∙ ap₂ (λ name es. act_of (call_action s name (trees_of es) (number_in s.functions name))) c.text.ensures.bytes c.deref.ensures.value
          ∙ sym (ap (λ t. act_of (action_of s t)) (node_is e) ∙ ap act_of (calls s o.op (trees_of o.parts.items) o.from o.to c.in-Call.f c.in-Call.is));
    }

pub returns-in-Assign : goal.returns-in-Assign
returns-in-Assign c =
    let s = c.args.scene.now in
    let e = c.args.e.now in
    let o = out-Expr e in
    record {
      act = c.assignment.ensures o.from o.to
          ∙ ap (λ es. act_of (action_of s (Node (Assign c.in-Assign.by) (trees_of es) o.from o.to))) c.deref-in-Assign.ensures.value
          ∙ sym (ap (λ t. act_of (action_of s t)) (node_is e) ∙ ap (λ op. act_of (action_of s (Node op (trees_of o.parts.items) o.from o.to))) c.in-Assign.is);
    }

pub returns-in_default : goal.returns-in_default
returns-in_default c =
    let s = c.args.scene.now in
    let e = c.args.e.now in
    let o = out-Expr e in
    record { act = sym (ap (λ t. act_of (action_of s t)) (node_is e) ∙ ap act_of (computes s o.op (trees_of o.parts.items) o.from o.to c.in_default.not-Call c.in_default.not-Assign)) }

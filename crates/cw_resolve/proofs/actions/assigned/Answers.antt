use Rattle.std.proofs.Common.{ap, sym, ◌∙◌}
use Rattle.cw_syntax.specs.declared.program.Expr.{out-Expr}
use Rattle.cw_syntax.specs.Names.{number_in}
use Rattle.cw_syntax.specs.Plans.{assigned_action}
use Rattle.cw_syntax.specs.Trees.{trees_of, tree_of, more, none}
use Rattle.cw_resolve.specs.Acts.{act_of}
use Rattle.cw_syntax.proofs.Shapes.{node_is}
use Rattle.cw_resolve.proofs.Acting.{first_is_other, second_is_other, assigns}
use Rattle.cw_resolve.proofs.actions.assigned.Goals as goal

pub returns-in-Call : goal.returns-in-Call
returns-in-Call c = λ from to.
    let s = c.args.scene.now in
    let o = out-Expr c.args.x.now in
    let u = out-Expr c.args.value.now in
    c.assigned_action.ensures
    ∙ ap (λ name. act_of (assigned_action s (record { from = o.from; to = o.to }) name (number_in s.functions name))) c.text.ensures.bytes
    ∙ sym (ap act_of (assigns s (tree_of c.args.x.now) (tree_of c.args.value.now) o.op u.op (trees_of o.parts.items) (trees_of u.parts.items) o.from o.to u.from u.to from to c.in-Call.f
    (node_is c.args.x.now) (node_is c.args.value.now) c.in-Name.is c.in-Call.is))

pub returns-in_default-op : goal.returns-in_default-op
returns-in_default-op c = λ from to.
    let s = c.args.scene.now in
    let o = out-Expr c.args.x.now in
    let u = out-Expr c.args.value.now in
    sym (ap act_of (second_is_other s (tree_of c.args.x.now) (tree_of c.args.value.now) o.op u.op (trees_of o.parts.items) (trees_of u.parts.items) o.from o.to u.from u.to from to
    (node_is c.args.x.now) (node_is c.args.value.now) c.in-Name.is c.in_default-op.not-Call))

pub returns-in_default : goal.returns-in_default
returns-in_default c = λ from to.
    let s = c.args.scene.now in
    let o = out-Expr c.args.x.now in
    sym (ap act_of (first_is_other s (tree_of c.args.x.now) o.op (trees_of o.parts.items) o.from o.to (more (tree_of c.args.value.now) none) from to (node_is c.args.x.now) c.in_default.not-Name))

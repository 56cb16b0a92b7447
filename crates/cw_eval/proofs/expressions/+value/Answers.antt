use Rattle.std.proofs.Common.{Ok, sym, ap, ap₂, ◌∙◌, subst, ℤ, arith}
use Rattle.cw_syntax.specs.Trees.{Node, Tree, more, none, tree_of, trees_of}
use Rattle.cw_syntax.specs.declared.program.Expr.{out-Expr}
use Rattle.cw_syntax.proofs.Shapes.{node_is}
use Rattle.cw_value.specs.declared.values.Arg.{Arg}
use Rattle.cw_value.specs.Expressions.{Target, arguments, gives, target, value}
use Rattle.cw_slots.specs.Shown.{scope_of}
use Rattle.cw_eval.specs.declared.memory.Target.{Target as HeldTarget}
use Rattle.cw_eval.specs.Parts.{argument}
use Rattle.cw_eval.specs.Shown.{Shows, as_is, memory_of, target_in}
use Rattle.cw_syntax.specs.declared.program.Expr.{Expr}
use Rattle.std.proofs.lemmas.Result.{err_from_is_err_and}
use Rattle.cw_eval.proofs.Each.{halts_too, none_left, one_stops}
use Rattle.cw_eval.proofs.Parts.{arguments_each}
use Rattle.cw_eval.proofs.expressions.+value.Goals as goal

pub value-returns-in-Name : goal.value-returns-in-Name
value-returns-in-Name t c =
    let e = c.args.e.now in
    let o = out-Expr e in
    subst (λ (x : Tree). Shows {A = ℤ} {B = ℤ} as_is c.read_name.result (memory_of c.args.m.now) (value (scope_of c.args.scope.now) x (memory_of c.args.m.now)))
    (ap (λ op. Node op (trees_of o.parts.items) o.from o.to) (sym c.in-Name.is) ∙ sym (node_is e)) c.read_name.ensures

pub value-returns-in-Number : goal.value-returns-in-Number
value-returns-in-Number t c =
    let e = c.args.e.now in
    let o = out-Expr e in
    subst (λ (x : Tree). Shows {A = ℤ} {B = ℤ} as_is c.number.result (memory_of c.args.m.now) (value (scope_of c.args.scope.now) x (memory_of c.args.m.now)))
    (ap (λ op. Node op (trees_of o.parts.items) o.from o.to) (sym c.in-Number.is) ∙ sym (node_is e)) c.number.ensures

pub any_value-returns-in-Binary : goal.any_value-returns-in-Binary
any_value-returns-in-Binary t c =
    let e = c.args.e.now in
    let o = out-Expr e in
    subst (λ (x : Tree). Shows {A = ℤ} {B = ℤ} as_is c.binary.result (memory_of c.binary.new.m) (value (scope_of c.args.scope.now) x (memory_of c.args.m.now)))
    (ap₂ (λ op l. Node op (trees_of l) o.from o.to) (sym c.in-Binary.is) c.deref.ensures.value ∙ sym (node_is e)) c.binary.ensures

pub any_value-returns-in-Suffix : goal.any_value-returns-in-Suffix
any_value-returns-in-Suffix t c =
    let e = c.args.e.now in
    let o = out-Expr e in
    subst (λ (x : Tree). Shows {A = ℤ} {B = ℤ} as_is c.suffixed.result (memory_of c.suffixed.new.m) (value (scope_of c.args.scope.now) x (memory_of c.args.m.now)))
    (ap₂ (λ op l. Node op (trees_of l) o.from o.to) (sym c.in-Suffix.is) c.deref-in-Suffix.ensures.value ∙ sym (node_is e)) c.suffixed.ensures

pub any_value-returns-in-Assign : goal.any_value-returns-in-Assign
any_value-returns-in-Assign t c =
    let e = c.args.e.now in
    let o = out-Expr e in
    subst (λ (x : Tree). Shows {A = ℤ} {B = ℤ} as_is c.assignment.result (memory_of c.assignment.new.m) (value (scope_of c.args.scope.now) x (memory_of c.args.m.now)))
    (ap₂ (λ op l. Node op (trees_of l) o.from o.to) (sym c.in-Assign.is) c.deref-in-Assign.ensures.value ∙ sym (node_is e)) c.assignment.ensures

pub any_value-returns-in_default : goal.any_value-returns-in_default
any_value-returns-in_default t c =
    let e = c.args.e.now in
    let o = out-Expr e in
    subst (λ (x : Tree). Shows {A = ℤ} {B = ℤ} as_is c.node.result (memory_of c.node.new.m) (value (scope_of c.args.scope.now) x (memory_of c.args.m.now)))
    (ap (λ l. Node o.op (trees_of l) o.from o.to) c.deref-in_default.ensures.value ∙ sym (node_is e)) c.node.ensures

pub target_of-returns-in-Name : goal.target_of-returns-in-Name
target_of-returns-in-Name t c =
    let e = c.args.e.now in
    let o = out-Expr e in
    let m = memory_of c.args.m.now in
    subst (λ (x : Tree). Shows {A = HeldTarget} {B = Target} target_in (Ok c.name_target.result) m (target (scope_of c.args.scope.now) (more x none) m))
    (ap (λ op. Node op (trees_of o.parts.items) o.from o.to) (sym c.in-Name.is) ∙ sym (node_is e)) (ap (λ target. gives target m) (sym c.name_target.ensures.target))

pub target_of-returns-in_default : goal.target_of-returns-in_default
target_of-returns-in_default t c =
    let e = c.args.e.now in
    let o = out-Expr e in
    subst (λ (x : Tree). Shows {A = HeldTarget} {B = Target} target_in c.target_node.result (memory_of c.target_node.new.m) (target (scope_of c.args.scope.now) (more x none) (memory_of c.args.m.now)))
    (ap (λ l. Node o.op (trees_of l) o.from o.to) c.deref.ensures.value ∙ sym (node_is e)) c.target_node.ensures

pub argument-returns : goal.argument-returns
argument-returns t c =
    let e = c.args.e.now in
    let o = out-Expr e in
    subst (λ (x : Tree). Shows {A = Arg} {B = Arg} as_is c.argument_node.result (memory_of c.argument_node.new.m) (argument (scope_of c.args.scope.now) x (memory_of c.args.m.now)))
    (ap (λ l. Node o.op (trees_of l) o.from o.to) c.deref.ensures.value ∙ sym (node_is e)) c.argument_node.ensures

pub arguments-returns-in_err-argument : goal.arguments-returns-in_err-argument
arguments-returns-in_err-argument t c =
    let s = scope_of c.args.scope.now in
    let one = λ (e : Expr). argument s (tree_of e) in
    let xs = c.args.parts.now in
    let i = c.loop-e.e-index in
    let x = c.e-item.result in
    let old = memory_of c.loop-e.m in
    let new = memory_of c.argument.new.m in
    let p = err_from_is_err_and c.from_residual.result c.from_residual.ensures.1 in
    rw (p.1, p.2)
    (halts_too c.in_err-argument.field-0.0 new (one x old) (arguments s (trees_of xs) (memory_of c.args.m.now))
    (λ why stopped. arguments_each s xs (memory_of c.args.m.now) ∙ sym c.loop-e.invariant ∙ one_stops one xs i c.loop-e.args.items old x why new c.loop-e-test.true c.e-item.is stopped)
    c.in_err-argument.ensures)

pub arguments-returns : goal.arguments-returns
arguments-returns t c =
    let s = scope_of c.args.scope.now in
    let one = λ (e : Expr). argument s (tree_of e) in
    arguments_each s c.args.parts.now (memory_of c.args.m.now)
    ∙ sym c.loop-e.invariant
    ∙ none_left one c.args.parts.now c.loop-e.e-index c.loop-e.args.items (memory_of c.loop-e.m) (omega arith)

use Rattle.std.proofs.Common.{Some, None, cond, ap, sym, ◌∙◌}
use Rattle.cw_syntax.specs.declared.program.Expr.{out-Expr}
use Rattle.cw_resolve.specs.Held.{lists}
use Rattle.cw_detach.proofs.Nodes.{place_is}
use Rattle.cw_detach.proofs.spans.place_if.Goals as goal

pub returns-then-calls_one : goal.returns-then-calls_one
returns-then-calls_one c =
    let at = (out-Expr c.args.call.now).from in
    ap (λ b. cond b (Some at) None) (sym c.if-calls_one.true ∙ c.calls_one.ensures) ∙ sym (place_is c.args.source.now (lists c.args.names.now) c.args.call.now)

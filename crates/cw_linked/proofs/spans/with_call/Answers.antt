use Rattle.std.proofs.Common.{sym, subst, ◌∙◌}
use Rattle.cw_linked.specs.Spans.{Reaches}
use Rattle.cw_linked.proofs.Spanning.{as_long}
use Rattle.cw_linked.proofs.spans.with_call.Goals as goal

pub returns-then-is_call : goal.returns-then-is_call
returns-then-is_call c = subst (Reaches c.args.span c.longer.result c.args.pos.0) (sym c.if-is_call.true ∙ c.is_call.ensures) c.longer.ensures

pub returns-else-is_call : goal.returns-else-is_call
returns-else-is_call c = as_long c.args.span c.args.pos.0 _ (sym c.is_call.ensures ∙ c.if-is_call.false) c.requires.order c.requires.behind

use Rattle.std.proofs.Common.{sym, subst, ◌∙◌}
use Rattle.cw_linked.specs.Spans.{Reaches}
use Rattle.cw_linked.proofs.Spanning.{as_long}
use Rattle.cw_linked.proofs.spans.with_loss.Goals as goal

pub returns-then-loss_begins : goal.returns-then-loss_begins
returns-then-loss_begins c = subst (Reaches c.args.span c.longer.result c.args.pos.0) (sym c.if-loss_begins.true ∙ c.loss_begins.ensures) c.longer.ensures

pub returns-else-loss_begins : goal.returns-else-loss_begins
returns-else-loss_begins c = as_long c.args.span c.args.pos.0 _ (sym c.loss_begins.ensures ∙ c.if-loss_begins.false) c.requires.order c.requires.behind

use Rattle.std.proofs.Common.{sym}
use Rattle.cw_resolve.specs.Held.{lists}
use Rattle.cw_detach.proofs.Nodes.{no_span}
use Rattle.cw_detach.proofs.spans.span_of.Goals as goal

pub returns-in-For : goal.returns-in-For
returns-in-For c = sym (no_span c.args.source.now (lists c.args.names.now) c.args.statement.now c.in-For.field-0 c.in-For.field-1 c.in-For.is)

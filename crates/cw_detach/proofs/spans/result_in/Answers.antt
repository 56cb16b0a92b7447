use Rattle.std.proofs.Common.{sym}
use Rattle.cw_resolve.specs.Held.{lists}
use Rattle.cw_detach.proofs.Nodes.{no_result}
use Rattle.cw_detach.proofs.spans.result_in.Goals as goal

pub returns-in-For : goal.returns-in-For
returns-in-For c = sym (no_result c.args.source.now (lists c.args.names.now) c.args.statement.now c.in-For.field-0 c.in-For.field-1 c.in-For.is)

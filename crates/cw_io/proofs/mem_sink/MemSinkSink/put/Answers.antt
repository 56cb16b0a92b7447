use Rattle.std.proofs.Common.{rules, length, ◌/◌}
use Rattle.cw_io.proofs.mem_sink.MemSinkSink.put.Goals as goal

-- the front that was taken is the first half
pub returns-then-due-2-clause-bytes : goal.returns-then-due-2-clause-bytes
returns-then-due-2-clause-bytes c = (length c.args.piece.now / 2, search rules)

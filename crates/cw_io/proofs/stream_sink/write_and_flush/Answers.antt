use Rattle.cw_io.proofs.Writing.{puts_flushed}
use Rattle.cw_io.proofs.stream_sink.write_and_flush.Goals as goal

pub returns-then-piece-lt-PIECE : goal.returns-then-piece-lt-PIECE
returns-then-piece-lt-PIECE g c = puts_flushed (g.W.Write.contents c.args.writer.now) (g.W.Write.contents c.write_whole.new.writer) (g.W.Write.contents c.flush.new.self) c.args.piece.now c.flush.result c.in_ok-write_whole.ensures c.flush.ensures.bytes

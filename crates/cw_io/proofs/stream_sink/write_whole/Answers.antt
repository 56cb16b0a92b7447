use Rattle.std.proofs.Common.{arith, length-drop}
use Rattle.std.proofs.lemmas.List.{take_rest}
use Rattle.cw_io.proofs.Writing.{grows_more}
use Rattle.cw_io.proofs.stream_sink.write_whole.Goals as goal

pub loop-done-preserved : goal.loop-done-preserved
loop-done-preserved g c =
    let bound = rw (take_rest c.args.piece.now c.loop-done.done, length-drop c.loop-done.done c.args.piece.now) at c.in_ok-done.ensures.bound in
    let within = c.loop-done.invariant.0 in
    (omega (arith, bound, within), grows_more (g.W.Write.contents c.args.writer.now) (g.W.Write.contents c.loop-done.writer) (g.W.Write.contents c.write_some.new.writer) c.args.piece.now c.loop-done.done c.in_ok-done.field-0 c.loop-done.invariant.1 c.in_ok-done.ensures.taken)

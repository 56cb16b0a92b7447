use Rattle.std.proofs.Common.{vec_len, arith}
use Rattle.cw_io.proofs.Reading.{consumes_more}
use Rattle.cw_io.proofs.file_shelf.read_all.Goals as goal

pub loop-chunk-preserved : goal.loop-chunk-preserved
loop-chunk-preserved g c =
    let read = c.in_ok-read_some.ensures in
    let bound = read.bound in
    let count = read.count in
    let room = c.len-in-loop-chunk.ensures in
    let test = c.loop-chunk-test.true in
    let len = c.len.ensures in
    (omega (arith, bound, count, room, test, len), consumes_more (g.F.Read.remaining c.args.file.now) (g.F.Read.remaining c.loop-chunk.file) (g.F.Read.remaining c.read_some.new.file) (vec_len c.loop-chunk.all) c.loop-chunk.all.items c.read_some.new.all.items read.front c.loop-chunk.invariant.1 read.bytes)

use Rattle.std.proofs.Common.{sym}
use Rattle.cw_io.proofs.Following.{took_last}
use Rattle.cw_io.proofs.writer.Writer.finish.Goals as goal

pub returns-clause-bytes : goal.returns-clause-bytes
returns-clause-bytes g c =
    let before = rw (sym c.self.view_is) at c.requires.follows in
    let inside = c.self.inside in
    let took = rw c.in-None.is at before.took in
    let put = rw c.bytes.ensures.bytes at c.put.ensures.bytes in
    rw (sym c.self.view_is) (took_last (g.S.Sink.taken inside.begun.value) (g.S.Sink.taken c.args.out.now) (g.S.Sink.taken c.put.new.self) inside.said.text inside.line c.put.result took put)

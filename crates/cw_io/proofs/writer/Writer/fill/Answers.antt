use Rattle.std.proofs.Common.{sym, ◌∙◌, arith}
use Rattle.cw_io.specs.declared.fault.SinkFault.TheVariants.{Failed, NoMemory}
use Rattle.cw_io.proofs.Following.{took_front, took_waiting, cause_kept}
use Rattle.cw_io.proofs.writer.Writer.fill.Goals as goal

pub returns-then-is_some-clause-follows : goal.returns-then-is_some-clause-follows
returns-then-is_some-clause-follows g c =
    let before = rw (sym c.self.view_is) at c.requires.follows in
    let inside = c.self.inside in
    let came = sym c.is_some.ensures ∙ c.if-is_some.true in
    record {
      short = before.short;
      took = rw c.more.ensures.text (took_front (g.S.Sink.taken inside.begun.value) (g.S.Sink.taken c.args.out.now) inside.said.text inside.line c.args.piece.now inside.fault came before.took);
      failed = before.failed;
      no_memory = before.no_memory;
    }

pub returns-then-room-eq0-clause-follows : goal.returns-then-room-eq0-clause-follows
returns-then-room-eq0-clause-follows g c =
    let before = rw (sym c.self.view_is) at c.requires.follows in
    let inside = c.self.inside in
    let none = sym c.is_some.ensures ∙ c.if-is_some.false in
    let put = rw (c.bytes.ensures.bytes ∙ c.put_text.ensures.text) at c.put.ensures.bytes in
    let took = took_waiting (g.S.Sink.taken inside.begun.value) (g.S.Sink.taken c.args.out.now) (g.S.Sink.taken c.put.new.self) inside.said.text inside.line c.args.piece.now inside.fault c.put.result none before.took put in
    let failed = cause_kept Failed (g.S.Sink.faults inside.begun.value) (g.S.Sink.faults c.args.out.now) (g.S.Sink.faults c.put.new.self) c.put.result before.failed.later c.put.ensures.failed in
    let no_memory = cause_kept NoMemory (g.S.Sink.refused inside.begun.value) (g.S.Sink.refused c.args.out.now) (g.S.Sink.refused c.put.new.self) c.put.result before.no_memory.later c.put.ensures.refused in
    rw (c.err-self-inside.ensures.value, c.clear.ensures.empty, c.more.ensures.text) (record { short = omega arith; took = took; failed = failed; no_memory = no_memory })

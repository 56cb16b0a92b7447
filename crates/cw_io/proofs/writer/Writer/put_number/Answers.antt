use Rattle.std.proofs.Common.{sym, refl, arith}
use Rattle.std.specs.Fmt.{decimal}
use Rattle.std.proofs.lemmas.Fmt.{length-decimal-le}
use Rattle.cw_io.proofs.Following.{took_on, last_piece, short_with}
use Rattle.cw_io.proofs.writer.Writer.put_number.Goals as goal

pub returns-clause-follows : goal.returns-clause-follows
returns-clause-follows g c =
    let before = rw (sym c.self.view_is) at c.requires.follows in
    let inside = c.self.inside in
    let digits = decimal c.args.n in
    let piece = last_piece inside.line digits c.put_number.new.self c.bytes.result.now c.bytes-from.result.now c.put_number.ensures.text c.bytes.ensures.bytes c.bytes-from.ensures.bytes in
    let test = rw (sym c.self.view_is) at c.if-not-has_room_for.ensures in
    rw (c.more.ensures.text, piece, c.put_number.ensures.text) (record {
      short = short_with inside.line digits 20 (length-decimal-le 20 c.args.n (omega arith) (omega arith) (omega arith)) (test.room refl);
      took = took_on (g.S.Sink.taken inside.begun.value) (g.S.Sink.taken c.args.out.now) inside.said.text inside.line digits inside.fault (test.none refl) before.took;
      failed = before.failed;
      no_memory = before.no_memory;
    })

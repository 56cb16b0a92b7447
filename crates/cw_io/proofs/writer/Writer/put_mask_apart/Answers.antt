use Rattle.std.proofs.Common.{sym, refl, arith}
use Rattle.cw_core.specs.Numerals.{hexadecimal}
use Rattle.cw_io.proofs.Following.{took_on, last_piece, short_with}
use Rattle.cw_io.proofs.writer.Writer.put_mask_apart.Goals as goal

pub returns-then-has_room_for-clause-follows : goal.returns-then-has_room_for-clause-follows
returns-then-has_room_for-clause-follows g c =
    let before = rw (sym c.self.view_is) at c.requires.follows in
    let inside = c.self.inside in
    let mask = hexadecimal c.args.set.now in
    let piece = last_piece inside.line mask c.put_fitting_mask.new.self c.bytes.result.now c.bytes-from.result.now c.put_fitting_mask.ensures.text c.bytes.ensures.bytes c.bytes-from.ensures.bytes in
    let test = rw (sym c.self.view_is) at c.if-has_room_for.ensures in
    rw (c.more.ensures.text, piece, c.put_fitting_mask.ensures.text) (record {
      short = short_with inside.line mask c.mask_length.result (omega (arith, c.mask_length.ensures.length)) (test.room refl);
      took = took_on (g.S.Sink.taken inside.begun.value) (g.S.Sink.taken c.args.out.now) inside.said.text inside.line mask inside.fault (test.none refl) before.took;
      failed = before.failed;
      no_memory = before.no_memory;
    })

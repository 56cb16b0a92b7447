use Rattle.std.proofs.Common.{sym, refl}
use Rattle.cw_core.specs.Numerals.{hexadecimal}
use Rattle.cw_io.proofs.Following.{took_on, last_piece, short_with}
use Rattle.cw_core.proofs.SetTexts.{mask_length}
use Rattle.cw_io.proofs.writer.Writer.put_mask.Goals as goal

pub returns-clause-follows : goal.returns-clause-follows
returns-clause-follows g c =
    let before = rw (sym c.self.view_is) at c.requires.follows in
    let inside = c.self.inside in
    let mask = hexadecimal c.args.set.now in
    let piece = last_piece inside.line mask c.put_mask.new.self c.bytes.result.now c.bytes-from.result.now c.put_mask.ensures.text c.bytes.ensures.bytes c.bytes-from.ensures.bytes in
    let test = rw (sym c.self.view_is) at c.if-not-has_room_for.ensures in
    rw (c.more.ensures.text, piece, c.put_mask.ensures.text) (record {
      short = short_with inside.line mask 258 (mask_length c.args.set.now c.fact_members_are_below_1024.ensures.below) (test.room refl);
      took = took_on (g.S.Sink.taken inside.begun.value) (g.S.Sink.taken c.args.out.now) inside.said.text inside.line mask inside.fault (test.none refl) before.took;
      failed = before.failed;
      no_memory = before.no_memory;
    })

use Rattle.cw_core.proofs.Digits.{odd_put}
use Rattle.cw_core.proofs.line.Line.put_odd_digit.Goals as goal

pub returns-then-count-eq1-clause-text : goal.returns-then-count-eq1-clause-text
returns-then-count-eq1-clause-text c =
    rw c.put_byte.ensures.text (odd_put c.args.self.now c.args.set.now c.args.count c.nibble.result c.glyph_of.result c.if-count-eq1.true c.nibble.ensures.value c.glyph_of.ensures.glyph)

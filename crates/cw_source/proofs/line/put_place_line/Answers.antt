use Rattle.std.specs.Prelude.{codes}
use Rattle.std.specs.Fmt.{decimal}
use Rattle.cw_source.specs.Lines.{at_place}
use Rattle.cw_source.specs.Places.{column_of, line_of}
use Rattle.cw_source.proofs.Pieces.{six_pieces}
use Rattle.cw_source.proofs.line.put_place_line.Goals as goal

pub returns-clause-text : goal.returns-clause-text
unfolding at_place
returns-clause-text g c =
    let source = c.args.source.now in
    let at = c.args.at in
    six_pieces c.args.line.now.text c.put.new.self.text c.put_number.new.self.text c.put-2.new.self.text c.put_number-2.new.self.text c.put-3.new.self.text c.put-4.new.self.text
    (codes "source ") (decimal (line_of source at)) (codes ":") (decimal (column_of source at)) (codes ": ") c.args.why.now
    c.put.ensures.text (rw c.line_of.ensures.line at c.put_number.ensures.text) c.put-2.ensures.text (rw c.column_of.ensures.column at c.put_number-2.ensures.text)
    c.put-3.ensures.text (rw c.as_bytes.ensures.value at c.put-4.ensures.text)

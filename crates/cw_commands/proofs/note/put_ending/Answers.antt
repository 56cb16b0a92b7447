use Rattle.cw_commands.specs.Endings.{line_of}
use Rattle.cw_commands.specs.Starts.{noted_from}
use Rattle.cw_commands.proofs.Notes.{noted, whole}
use Rattle.cw_commands.proofs.note.put_ending.Goals as goal

pub returns-clause-noted : goal.returns-clause-noted
returns-clause-noted g c =
    let old = noted_from c.args.note.now c.args.ending in
    noted (g.N.Sink.taken old) (g.N.Sink.taken c.put_line_of.new.note) (line_of c.args.ending) c.put_line_of.result c.put_line_of.ensures.puts

pub returns-clause-whole : goal.returns-clause-whole
returns-clause-whole g c =
    let old = noted_from c.args.note.now c.args.ending in
    let new = c.put_line_of.new.note in
    let is = c.put_line_of.ensures in
    whole (g.N.Sink.taken old) (g.N.Sink.taken new) (line_of c.args.ending) c.put_line_of.result
    (g.N.Sink.faults old) (g.N.Sink.faults new) (g.N.Sink.refused old) (g.N.Sink.refused new) is.puts is.failed is.refused

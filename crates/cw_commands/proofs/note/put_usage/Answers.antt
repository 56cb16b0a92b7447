use Rattle.std.proofs.Common.{sym, subst, List, ℕ, Some}
use Rattle.cw_commands.specs.Endings.{GrowsByFront, IsNotedWhole}
use Rattle.cw_commands.proofs.Notes.{puts_front, whole}
use Rattle.cw_commands.proofs.note.put_usage.Goals as goal

pub returns-clause-noted : goal.returns-clause-noted
returns-clause-noted g c =
    let old = g.N.Sink.taken c.args.note.now in
    let new = g.N.Sink.taken c.put_line.new.note in
    subst (λ (piece : List ℕ). GrowsByFront old new piece) (sym c.usage.ensures) (puts_front old new _ c.put_line.result c.put_line.ensures.puts)

pub returns-clause-whole : goal.returns-clause-whole
returns-clause-whole g c =
    let old = c.args.note.now in
    let new = c.put_line.new.note in
    let is = c.put_line.ensures in
    subst (λ (line : List ℕ). IsNotedWhole g.N.Sink.taken g.N.Sink.faults g.N.Sink.refused old new (Some line)) (sym c.usage.ensures)
    (whole (g.N.Sink.taken old) (g.N.Sink.taken new) (Some _) c.put_line.result
    (g.N.Sink.faults old) (g.N.Sink.faults new) (g.N.Sink.refused old) (g.N.Sink.refused new) is.puts is.failed is.refused)

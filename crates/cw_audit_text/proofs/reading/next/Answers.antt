use Rattle.cw_audit_text.proofs.Lines.{starts_otherwise}
use Rattle.cw_audit_text.proofs.reading.next.Goals as goal

pub returns-in-None-clause-none : goal.returns-in-None-clause-none
returns-in-None-clause-none c = λ l more s.
    starts_otherwise c.args.text.now c.in-Some.line.now c.in-Some.rest.now more l c.in-Some.ensures.parts c.in-Some.ensures.first (rw c.in-None.is at c.read_line.ensures) s

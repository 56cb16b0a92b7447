use Rattle.cw_audit_text.specs.declared.text_line.TextLine.TheVariants.{At}
use Rattle.cw_audit_text.proofs.Lines.{one_start}
use Rattle.cw_audit_text.proofs.reading.next_row.Goals as goal

pub returns-in_default-line : goal.returns-in_default-line
returns-in_default-line c = record {
  some = tt;
  none = λ p x a more s. c.in_default-line.not-At p x a (one_start c.args.text.now c.in-Some.rest.now more c.in-Some.line (At p x a) c.in-Some.ensures.some s).0;
}

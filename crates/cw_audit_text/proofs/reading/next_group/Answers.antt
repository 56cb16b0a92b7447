use Rattle.cw_audit_text.specs.declared.text_line.TextLine.TheVariants.{In}
use Rattle.cw_audit_text.proofs.Lines.{one_start}
use Rattle.cw_audit_text.proofs.reading.next_group.Goals as goal

pub returns-in_default-line : goal.returns-in_default-line
returns-in_default-line c = record {
  some = tt;
  none = λ f q r more s. c.in_default-line.not-In f q r (one_start c.args.text.now c.in-Some.rest.now more c.in-Some.line (In f q r) c.in-Some.ensures.some s).0;
}

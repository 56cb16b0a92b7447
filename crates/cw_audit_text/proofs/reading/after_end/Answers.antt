use Rattle.cw_audit_text.specs.declared.text_line.TextLine.TheVariants.{End}
use Rattle.cw_audit_text.proofs.Lines.{one_start}
use Rattle.cw_audit_text.proofs.reading.after_end.Goals as goal

pub returns-in_default-line : goal.returns-in_default-line
returns-in_default-line c = record {
  some = tt;
  none = λ more s. c.in_default-line.not-End (one_start c.args.text.now c.in-Some.rest.now more c.in-Some.line (End) c.in-Some.ensures.some s).0;
}

use Rattle.cw_audit_text.specs.declared.text_line.TextLine.TheVariants.{Head}
use Rattle.cw_audit_text.proofs.Lines.{one_start}
use Rattle.cw_audit_text.proofs.reading.after_head.Goals as goal

pub returns-in_default-line : goal.returns-in_default-line
returns-in_default-line c = record {
  some = tt;
  none = λ more s. c.in_default-line.not-Head (one_start c.args.text.now c.in-Some.rest.now more c.in-Some.line (Head) c.in-Some.ensures.some s).0;
}

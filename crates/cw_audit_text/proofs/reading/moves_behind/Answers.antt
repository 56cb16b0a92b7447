use Rattle.std.proofs.Common.{◌++◌, sym, ap, map, ◌∙◌}
use Rattle.cw_audit_text.specs.declared.text_line.TextLine.TheVariants.{Go}
use Rattle.cw_audit_text.specs.AuditText.{whole_lines}
use Rattle.cw_audit_text.proofs.Behind.{no_lines}
use Rattle.cw_audit_text.proofs.reading.moves_behind.Goals as goal

pub returns-in-None-clause-text : goal.returns-in-None-clause-text
returns-in-None-clause-text c = no_lines c.args.text.now ∙ ap (λ ls. whole_lines ls ++ c.args.text.now) (sym (ap (map Go) c.new.ensures.items))

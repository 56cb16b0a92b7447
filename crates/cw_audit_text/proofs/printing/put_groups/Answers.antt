use Rattle.std.proofs.Common.{◌∙◌, ap, refl, ◌++◌}
use Rattle.cw_audit_table.specs.declared.table.Group.{Group}
use Rattle.cw_audit_table.specs.Tables.{group_of}
use Rattle.cw_audit_text.specs.AuditText.{group_lines, whole_lines}
use Rattle.cw_audit_text.proofs.Puts.{lines_begin, lines_step, lines_end, groups_mapped}
use Rattle.cw_audit_text.proofs.printing.put_groups.Goals as goal

pub loop-group-init : goal.loop-group-init
loop-group-init g c = record { text = lines_begin (λ (x : Group). group_lines (group_of x)) c.args.writer.now.text; begun = refl; follows = c.requires.follows }

pub loop-group-preserved : goal.loop-group-preserved
loop-group-preserved g c = record {
  text = lines_step (λ (x : Group). group_lines (group_of x)) c.args.writer.now.text c.loop-group.writer.text c.put_group.new.writer.text c.args.groups.now c.loop-group.group-index
      c.group-item.result c.loop-group-test.true c.loop-group.invariant.text
      (c.put_group.ensures.text ∙ ap (λ (x : Group). c.loop-group.writer.text ++ whole_lines (group_lines (group_of x))) c.group-item.is);
  begun = c.put_group.ensures.begun ∙ c.loop-group.invariant.begun;
  follows = c.put_group.ensures.follows;
}

pub returns-clause-text : goal.returns-clause-text
returns-clause-text g c =
    lines_end (λ (x : Group). group_lines (group_of x)) c.args.writer.now.text c.loop-group.writer.text c.args.groups.now c.loop-group.group-index c.loop-group-test.false c.loop-group.invariant.text
    ∙ ap (λ is. c.args.writer.now.text ++ whole_lines is) (groups_mapped c.args.groups.now)

use Rattle.std.proofs.Common.{ℕ, ◌∷◌, [], ◌∙◌, sym, ap, refl, ◌++◌, get_or}
use Rattle.cw_core.specs.declared.ids.PosId.{PosId}
use Rattle.cw_core.specs.declared.ids.StateId.{StateId}
use Rattle.cw_audit_table.specs.Tables.{row_of}
use Rattle.cw_audit_text.specs.AuditText.{row_line, whole_lines}
use Rattle.cw_audit_text.proofs.Puts.{lines_begin, lines_step, lines_end, lines_one, rows_mapped}
use Rattle.cw_audit_text.proofs.printing.put_rows.Goals as goal

pub loop-row-init : goal.loop-row-init
loop-row-init g c = record { text = lines_begin (λ (r : PosId × StateId × ℕ). row_line (row_of r) ∷ []) c.args.writer.now.text; begun = refl; follows = c.requires.follows }

pub loop-row-preserved : goal.loop-row-preserved
loop-row-preserved g c =
    let d : PosId × StateId × ℕ = (record { 0 = 0 }, record { 0 = 0 }, 0) in
    record {
      text = lines_step (λ (r : PosId × StateId × ℕ). row_line (row_of r) ∷ []) c.args.writer.now.text c.loop-row.writer.text c.put_row.new.writer.text c.args.rows.now c.loop-row.row-index d
          c.loop-row-test.true c.loop-row.invariant.text
          (c.put_row.ensures.text ∙ ap (λ t. c.loop-row.writer.text ++ t) (sym (lines_one (row_line (row_of (get_or c.args.rows.now c.loop-row.row-index d))))));
      begun = c.put_row.ensures.begun ∙ c.loop-row.invariant.begun;
      follows = c.put_row.ensures.follows;
    }

pub returns-clause-text : goal.returns-clause-text
returns-clause-text g c =
    lines_end (λ (r : PosId × StateId × ℕ). row_line (row_of r) ∷ []) c.args.writer.now.text c.loop-row.writer.text c.args.rows.now c.loop-row.row-index c.loop-row-test.false
    c.loop-row.invariant.text
    ∙ ap (λ is. c.args.writer.now.text ++ whole_lines is) (rows_mapped c.args.rows.now)

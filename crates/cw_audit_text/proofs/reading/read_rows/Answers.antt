use Rattle.std.proofs.Common.{◌++◌, sym, ap, subst, ◌∙◌}
use Rattle.std.specs.List.{All}
use Rattle.std.proofs.lemmas.List.Elements.{All-nil}
use Rattle.cw_audit_text.specs.TextLines.{FitsLine}
use Rattle.cw_audit_text.specs.AuditText.{whole_lines}
use Rattle.cw_audit_text.proofs.Behind.{no_lines, rows_lines, rows_more, rows_fit}
use Rattle.cw_audit_text.proofs.reading.read_rows.Goals as goal

pub rows-init : goal.rows-init
rows-init c =
    let none = ap rows_lines c.new-rows.ensures.items in
    record {
      text = no_lines c.args.text.now ∙ ap (λ ls. whole_lines ls ++ c.args.text.now) (sym none);
      fits = subst (All FitsLine) (sym none) (All-nil FitsLine);
    }

pub rows-preserved : goal.rows-preserved
rows-preserved c = record {
  text = rows_more c.args.text.now c.rows.rest.now c.in-Some.more.now c.rows.rows.items c.push.new.self.items c.in-Some.row c.in_ok-push.ensures.items c.rows.invariant.text c.in-Some.ensures.some;
  fits = rows_fit c.rows.rows.items c.push.new.self.items c.in-Some.row c.in_ok-push.ensures.items c.rows.invariant.fits c.in-Some.ensures.some.fits;
}

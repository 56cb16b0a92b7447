use Rattle.std.proofs.Common.{◌++◌, sym, ap, subst, map, ◌∙◌}
use Rattle.std.specs.List.{All}
use Rattle.std.proofs.lemmas.List.Elements.{All-nil}
use Rattle.cw_audit_text.specs.declared.text_line.TextLine.TheVariants.{Go}
use Rattle.cw_audit_text.specs.TextLines.{FitsLine}
use Rattle.cw_audit_text.specs.AuditText.{whole_lines}
use Rattle.cw_audit_text.proofs.Behind.{no_lines, moves_more, moves_fit}
use Rattle.cw_audit_text.proofs.reading.read_moves.Goals as goal

pub moves-init : goal.moves-init
moves-init c =
    let none = ap (map Go) c.new-moves.ensures.items in
    record {
      text = no_lines c.args.text.now ∙ ap (λ ls. whole_lines ls ++ c.args.text.now) (sym none);
      fits = subst (All FitsLine) (sym none) (All-nil FitsLine);
    }

pub moves-preserved : goal.moves-preserved
moves-preserved c = record {
  text = moves_more c.args.text.now c.moves.rest.now c.in-Some.more.now c.moves.moves.items c.push.new.self.items c.in-Some.by c.in_ok-push.ensures.items c.moves.invariant.text c.in-Some.ensures.some;
  fits = moves_fit c.moves.moves.items c.push.new.self.items c.in-Some.by c.in_ok-push.ensures.items c.moves.invariant.fits c.in-Some.ensures.some.fits;
}

use Rattle.std.proofs.Common.{◌∷◌, [], ◌∙◌, sym, ap, refl, ◌++◌, get_or}
use Rattle.std.proofs.lemmas.List.Concat.{flat_map_single}
use Rattle.cw_certs.specs.declared.moves.Move.{Move}
use Rattle.cw_certs.specs.declared.moves.Move.TheVariants.{Skip}
use Rattle.cw_audit_text.specs.declared.text_line.TextLine.TheVariants.{Go}
use Rattle.cw_audit_text.specs.AuditText.{whole_lines}
use Rattle.cw_audit_text.proofs.Puts.{lines_begin, lines_step, lines_end, lines_one}
use Rattle.cw_audit_text.proofs.printing.put_moves.Goals as goal

pub loop-by-init : goal.loop-by-init
loop-by-init g c = record { text = lines_begin (λ (m : Move). Go m ∷ []) c.args.writer.now.text; begun = refl; follows = c.requires.follows }

pub loop-by-preserved : goal.loop-by-preserved
loop-by-preserved g c = record {
  text = lines_step (λ (m : Move). Go m ∷ []) c.args.writer.now.text c.loop-by.writer.text c.put_move.new.writer.text c.args.moves.now c.loop-by.by-index Skip c.loop-by-test.true
      c.loop-by.invariant.text (c.put_move.ensures.text ∙ ap (λ t. c.loop-by.writer.text ++ t) (sym (lines_one (Go (get_or c.args.moves.now c.loop-by.by-index Skip)))));
  begun = c.put_move.ensures.begun ∙ c.loop-by.invariant.begun;
  follows = c.put_move.ensures.follows;
}

pub returns-clause-text : goal.returns-clause-text
returns-clause-text g c =
    lines_end (λ (m : Move). Go m ∷ []) c.args.writer.now.text c.loop-by.writer.text c.args.moves.now c.loop-by.by-index c.loop-by-test.false c.loop-by.invariant.text
    ∙ ap (λ is. c.args.writer.now.text ++ whole_lines is) (flat_map_single Go c.args.moves.now)

use Rattle.std.proofs.Common.{◌∙◌, ap, ◌++◌}
use Rattle.cw_audit_text.proofs.Puts.{move_put}
use Rattle.cw_audit_text.proofs.printing.put_move.Goals as goal

pub returns-clause-text : goal.returns-clause-text
returns-clause-text g c =
    move_put c.args.by c.args.writer.now.text c.put.new.self.text c.put-2.new.self.text
    (c.put.ensures.text ∙ ap (λ t. c.args.writer.now.text ++ t) (c.as_bytes.ensures.value ∙ c.move_name.ensures)) c.put-2.ensures.text

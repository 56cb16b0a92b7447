use Rattle.std.proofs.Common.{◌++◌, rules, w64, FitsSigned, ap, ◌∙◌}
use Rattle.std.specs.Fmt.{signed_decimal}
use Rattle.std.proofs.Math.Facts.{to_z-of_z}
use Rattle.cw_value.specs.Shown.{made_of}
use Rattle.cw_value_text.proofs.Puts.{call_put}
use Rattle.cw_value_text.proofs.printing.put_call.Goals as goal

pub returns-clause-text : goal.returns-clause-text
returns-clause-text g c =
    let fits : FitsSigned w64 c.args.made.now.answer = search rules in
    call_put c.args.source.now (made_of c.args.made.now) _ _ _ _ _ _ _ _ c.put.ensures.text (rw c.text.ensures.bytes at c.put-2.ensures.text) c.put-3.ensures.text
    (rw c.deref.ensures.value at c.put_args.ensures.text) c.put-4.ensures.text
    (c.put_signed.ensures.text ∙ ap (λ z. c.put-4.new.self.text ++ signed_decimal z) (to_z-of_z {w = w64} {z = c.args.made.now.answer} fits)) c.put-5.ensures.text

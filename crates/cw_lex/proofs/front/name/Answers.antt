use Rattle.std.proofs.Common.{◌∙◌, sym}
use Rattle.cw_lex.proofs.ShortIdentifiers.{one_letter_name}
use Rattle.cw_lex.proofs.front.name.Goals as goal

pub returns-in-len2-up : goal.returns-in-len2-up
returns-in-len2-up c = one_letter_name c.args.bytes.now c.in-len2-up.len_at_least (sym c.is_letter.ensures ∙ c.if-is_letter.true) (sym c.is_name_byte.ensures ∙ c.if-not-is_name_byte.true)

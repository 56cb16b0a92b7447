use Rattle.std.proofs.Common.{sym, ◌∙◌}
use Rattle.std.proofs.lemmas.Bool.{true≢false, false≢true}
use Rattle.cw_woven.proofs.Fields.{named, both_fields, no_fields, no_named}
use Rattle.cw_woven.proofs.spelling.is_named.Goals as goal

pub returns-then-is_number : goal.returns-then-is_number
returns-then-is_number c =
    let is = c.in-Some.ensures.some in
    let cut = c.in-Some-cut.ensures.parts in (
      λ t. named c.args.front.now c.args.bytes.now c.in-Some.fields.now c.in-Some-cut.number.now c.in-Some-cut.name.now is cut (c.is_number.ensures.0 c.if-is_number.true) (sym c.is_name.ensures ∙ t),
      λ h. c.is_name.ensures ∙ (both_fields c.args.front.now c.args.bytes.now c.in-Some.fields.now c.in-Some-cut.number.now c.in-Some-cut.name.now is cut c.in-Some-cut.ensures.first h).1,
    )

pub returns-else-is_number : goal.returns-else-is_number
returns-else-is_number c = (
  λ t. absurd (true≢false (sym t ∙ c.if-is_number.false)),
  λ h. c.is_number.ensures.1 (both_fields c.args.front.now c.args.bytes.now c.in-Some.fields.now c.in-Some-cut.number.now c.in-Some-cut.name.now c.in-Some.ensures.some c.in-Some-cut.ensures.parts c.in-Some-cut.ensures.first h).0,
)

pub returns-in-None-cut : goal.returns-in-None-cut
returns-in-None-cut c = (λ t. absurd (false≢true t), λ h. absurd (no_fields c.args.front.now c.args.bytes.now c.in-Some.fields.now c.in-Some.ensures.some c.in-None-cut.ensures.none h))

pub returns-in-None : goal.returns-in-None
returns-in-None c = (λ t. absurd (false≢true t), λ h. absurd (no_named c.args.front.now c.args.bytes.now c.in-None.ensures.none h))

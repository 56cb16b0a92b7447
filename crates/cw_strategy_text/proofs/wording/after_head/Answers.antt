use Rattle.std.proofs.Common.{◌≡◌, ◌∙◌, sym, arith}
use Rattle.cw_strategy_text.proofs.LineFields.{head_some, head_from, head_none, one_head, head_fields}
use Rattle.cw_text.specs.Lines.{fields_by}
use Rattle.cw_strategy_text.proofs.wording.after_head.Goals as goal

pub returns-in_err-line-clause-none : goal.returns-in_err-line-clause-none
returns-in_err-line-clause-none c = rw c.from_residual.ensures (λ rest. head_none c.args.text.now rest c.args.format c.in_err-line.ensures.none)

pub returns-in_err-take_head-clause-none : goal.returns-in_err-take_head-clause-none
returns-in_err-take_head-clause-none c = rw c.from_residual-in_err-take_head.ensures (λ rest is.
    let p = head_from c.args.text.now c.in_ok-line.line.now c.in_ok-line.rest.now rest c.args.format (omega arith) c.in_ok-line.ensures.parts c.in_ok-line.ensures.first is in
    c.in_err-take_head.ensures.none c.args.format (omega arith) (c.of-fields.ensures.fields ∙ p.0))

pub returns-then-branch-format-clause-none : goal.returns-then-branch-format-clause-none
returns-then-branch-format-clause-none c = λ rest is.
    let p = head_from c.args.text.now c.in_ok-line.line.now c.in_ok-line.rest.now rest c.args.format (omega arith) c.in_ok-line.ensures.parts c.in_ok-line.ensures.first is in
    c.if-branch-format.true (one_head c.in_ok-take_head.field-0 c.args.format c.in_ok-take_head.ensures.small (omega arith) (sym c.in_ok-take_head.ensures.some ∙ c.of-fields.ensures.fields ∙ p.0))

pub returns-clause-some : goal.returns-clause-some
returns-clause-some c =
    let fields : fields_by 32 c.in_ok-line.line.now ≡ head_fields c.in_ok-take_head.field-0 = sym c.of-fields.ensures.fields ∙ c.in_ok-take_head.ensures.some in
    head_some c.args.text.now c.in_ok-line.line.now c.in_ok-line.rest.now c.args.format c.in_ok-line.ensures.parts (rw c.if-branch-format.false at fields)

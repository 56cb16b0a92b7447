use Rattle.std.proofs.Common.{◌∙◌, sym, arith}
use Rattle.cw_strategy_text.proofs.LineFields.{states_some, states_from, states_none}
use Rattle.cw_strategy_text.proofs.wording.after_states.Goals as goal

pub returns-in_err-line-clause-none : goal.returns-in_err-line-clause-none
returns-in_err-line-clause-none c = rw c.from_residual.ensures (λ states rest small. states_none c.args.text.now rest states c.in_err-line.ensures.none)

pub returns-in_err-states-clause-none : goal.returns-in_err-states-clause-none
returns-in_err-states-clause-none c = rw c.from_residual-in_err-states.ensures (λ states rest small is.
    let p = states_from c.args.text.now c.in_ok-line.line.now c.in_ok-line.rest.now rest states (omega (arith, small)) c.in_ok-line.ensures.parts c.in_ok-line.ensures.first is in
    c.in_err-states.ensures.none states small (c.of-fields.ensures.fields ∙ p.0))

pub returns-clause-some : goal.returns-clause-some
returns-clause-some c = states_some c.args.text.now c.in_ok-line.line.now c.in_ok-line.rest.now c.in_ok-states.states c.in_ok-line.ensures.parts
    (sym c.of-fields.ensures.fields ∙ c.in_ok-states.ensures.some)

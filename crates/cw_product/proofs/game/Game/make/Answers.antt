use Rattle.std.proofs.Common.{◌∙◌, ap, subst}
use Rattle.std.proofs.lemmas.Result.{err_from_is_err_and}
use Rattle.cw_rights.specs.Policies.{policy_of}
use Rattle.cw_states.specs.States.{AreLists, lists_of}
use Rattle.cw_product.specs.Uses.{uses_of}
use Rattle.cw_product.proofs.Making.{cause_of, kept}
use Rattle.cw_product.proofs.Holding.{game_made}
use Rattle.cw_product.proofs.game.Game.make.Goals as goal

pub returns-in_err-states-clause-cause : goal.returns-in_err-states-clause-cause
returns-in_err-states-clause-cause c =
    let p = err_from_is_err_and c.from_residual.result c.from_residual.ensures.1 in
    rw (p.1, p.2)
    (cause_of (policy_of c.args.policy.now) c.args.graph.now c.uses_of.result (c.uses_of.ensures ∙ ap (uses_of
    (policy_of c.args.policy.now)) c.deref.ensures.value)
    c.in_err-states.field-0.0 c.in_err-states.ensures.cause)

pub invariant_of-result : goal.invariant_of-result
invariant_of-result c =
    let uses = c.uses_of.ensures ∙ ap (uses_of (policy_of c.args.policy.now)) c.deref.ensures.value in
    kept c.args.graph.now c.args.policy.now c.in_ok-states.states c.in_ok-states.ensures.policy c.in_ok-positions.positions
    c.in_ok-positions.ensures.spots
    c.in_ok-positions.ensures.bases c.requires.graph c.requires.few (subst (λ u. AreLists u
    (lists_of c.in_ok-states.states)) uses c.in_ok-states.ensures.lists) c.in_ok-states.ensures.few
    c.from.result c.from-2.result c.limit.result (c.from.ensures ∙ c.count.ensures.count)
    (c.from-2.ensures ∙ c.count-2.ensures) c.limit.ensures.limit c.if-pairs-limit.false

pub returns-clause-is_game : goal.returns-clause-is_game
returns-clause-is_game c = λ source file drawn run assigns.
    let uses = c.uses_of.ensures ∙ ap (uses_of (policy_of c.args.policy.now)) c.deref.ensures.value in
    game_made c.args.graph.now c.args.policy.now c.in_ok-states.states c.in_ok-states.ensures.policy c.requires.valid
    (subst (λ u. AreLists u (lists_of c.in_ok-states.states)) uses c.in_ok-states.ensures.lists) source file drawn run assigns

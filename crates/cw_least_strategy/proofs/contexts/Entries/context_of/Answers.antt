use Rattle.std.proofs.Common.{ap, sym, ◌∙◌, subst, ℕ}
use Rattle.cw_product.specs.Product.{Held, game_of}
use Rattle.cw_solve.specs.Numbering.{IsUnder, IsNumberOf}
use Rattle.cw_least_strategy.specs.Heights.{others}
use Rattle.cw_solve.proofs.Numbering.{found_in as numbered}
use Rattle.cw_least_strategy.proofs.Looking.{found_in}
use Rattle.cw_least_strategy.proofs.contexts.Entries.context_of.Goals as goal

pub number_of-requires : goal.number_of-requires
number_of-requires c =
    let h = c.args.solved.now in
    let promise_is = c.others-promise.ensures ∙ ap (λ (x : Held). others (game_of x) c.args.aim.now) c.game.ensures in
    record { under = subst (λ (e : ℕ). IsUnder (game_of h.game) c.args.pos.0 e) (sym promise_is) c.requires.there }

pub returns-then-has_position : goal.returns-then-has_position
returns-then-has_position c =
    let h = c.args.solved.now in
    let promise_is = c.others-promise.ensures ∙ ap (λ (x : Held). others (game_of x) c.args.aim.now) c.game.ensures in
    found_in h c.requires.routed c.fact_contexts_are_needed.ensures c.number_near-number.result c.args.aim.now c.args.pos.0 c.args.state.0 c.requires.state
    (subst (λ (e : ℕ). IsNumberOf (game_of h.game) h.contexts c.number_near-number.result e c.args.pos.0) promise_is
    (numbered h c.number_near-number.result c.others-promise.result c.args.pos.0 (sym c.has_position.ensures ∙ c.if-has_position.true)))

pub returns-then-has_position-2 : goal.returns-then-has_position-2
returns-then-has_position-2 c =
    let h = c.args.solved.now in
    let promise_is = c.others-promise.ensures ∙ ap (λ (x : Held). others (game_of x) c.args.aim.now) c.game.ensures in
    found_in h c.requires.routed c.fact_contexts_are_needed.ensures c.number_at-number.result c.args.aim.now c.args.pos.0 c.args.state.0 c.requires.state
    (subst (λ (e : ℕ). IsNumberOf (game_of h.game) h.contexts c.number_at-number.result e c.args.pos.0) promise_is
    (numbered h c.number_at-number.result c.others-promise.result c.args.pos.0 (sym c.has_position-2.ensures ∙ c.if-has_position-2.true)))

pub returns-else-has_position-2 : goal.returns-else-has_position-2
returns-else-has_position-2 c =
    let h = c.args.solved.now in
    let promise_is = c.others-promise.ensures ∙ ap (λ (x : Held). others (game_of x) c.args.aim.now) c.game.ensures in
    found_in h c.requires.routed c.fact_contexts_are_needed.ensures c.number_of.result c.args.aim.now c.args.pos.0 c.args.state.0 c.requires.state
    (subst (λ (e : ℕ). IsNumberOf (game_of h.game) h.contexts c.number_of.result e c.args.pos.0) promise_is c.number_of.ensures)

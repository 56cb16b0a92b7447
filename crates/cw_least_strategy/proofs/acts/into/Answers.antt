use Rattle.std.proofs.Common.{ap, ap₂, sym, ◌∙◌, length, map, subst, ℕ}
use Rattle.cw_product.specs.Product.{Held, game_of}
use Rattle.cw_solve.proofs.Calling.{the_call, called}
use Rattle.std.specs.Prelude.{slice_get}
use Rattle.cw_core.specs.declared.ids.StateId.{StateId}
use Rattle.cw_least_strategy.specs.declared.key.Key.{Key}
use Rattle.cw_least_strategy.specs.Acts.{IsThere, key_of}
use Rattle.cw_least_strategy.specs.Strategies.{below}
use Rattle.cw_least_strategy.proofs.Acting.{callee_in, into_act}
use Rattle.cw_least_strategy.proofs.acts.into.Goals as goal

pub entry-pos-requires : goal.entry-pos-requires
entry-pos-requires c =
    let g = game_of c.args.solved.now.game in
    let k = key_of c.args.key.now in
    let j = c.requires.call.0 in
    rw c.game.ensures (c.requires.routed.called k.pos (the_call j c.args.function c.args.back.0 c.args.split)
    (called (slice_get g.spots k.pos) c.args.split j c.args.function c.args.back.0 c.requires.call.1)).below

pub context_of-requires-clause-there : goal.context_of-requires-clause-there
context_of-requires-clause-there c =
    let g = game_of c.args.solved.now.game in
    let k = key_of c.args.key.now in
    let j = c.requires.call.0 in
    let call = the_call j c.args.function c.args.back.0 c.args.split in
    let es = called (slice_get g.spots k.pos) c.args.split j c.args.function c.args.back.0 c.requires.call.1 in
    let entry_is = c.entry-pos.ensures.is ∙ ap (λ (x : Held). (game_of x).entry c.args.function) c.game.ensures in
    let is = callee_in g k (length c.args.solved.now.game.graph.parts.items) c.requires.routed c.requires.key call es in
    subst (λ (p : ℕ). IsThere g p c.aim_at-aim.result) (sym entry_is) (subst (λ (a : ℕ). IsThere g (g.entry c.args.function) a) (sym c.aim_at-aim.ensures) is)

pub returns : goal.returns
returns c =
    let g = game_of c.args.solved.now.game in
    let k = key_of c.args.key.now in
    let j = c.requires.call.0 in
    let call = the_call j c.args.function c.args.back.0 c.args.split in
    let es = called (slice_get g.spots k.pos) c.args.split j c.args.function c.args.back.0 c.requires.call.1 in
    let entry_is = c.entry-pos.ensures.is ∙ ap (λ (x : Held). (game_of x).entry c.args.function) c.game.ensures in
    into_act g k call c.in_ok-callee.callee.value (map (λ (b : StateId × Key). (b.0.0, b.1)) c.in_ok-backs.backs.items) es
    (c.in_ok-callee.ensures.ok ∙ c.below-callee.ensures ∙ ap₂ (λ (p a : ℕ). below g k p k.state a) entry_is c.aim_at-aim.ensures) c.in_ok-backs.ensures

use Rattle.std.proofs.Common.{length, ap, sym, ◌∙◌}
use Rattle.cw_product.specs.Product.{Held, game_of}
use Rattle.cw_product.specs.Moves.{next_at}
use Rattle.cw_least_strategy.specs.Acts.{key_of}
use Rattle.cw_least_strategy.proofs.Acting.{pos_within}
use Rattle.cw_least_strategy.proofs.Looking.{move_in}
use Rattle.cw_least_strategy.proofs.acts.lead_by.Goals as goal

pub lower_pair-requires-clause-here : goal.lower_pair-requires-clause-here
lower_pair-requires-clause-here c =
    let k = key_of c.args.key.now in
    move_in c.args.solved.now c.requires.routed c.args.number k.aim k.pos k.state c.args.by (c.in-Some.pos.0, c.in-Some.state.0) c.requires.here
    (ap (λ (x : Held). next_at (game_of x) k.pos k.state c.args.by) (sym c.game.ensures) ∙ sym c.in-Some.ensures.is)

pub next-requires-clause-position : goal.next-requires-clause-position
next-requires-clause-position c =
    rw c.game.ensures (pos_within (game_of c.args.solved.now.game) (key_of c.args.key.now) (length c.args.solved.now.game.graph.parts.items) c.requires.routed c.requires.key)

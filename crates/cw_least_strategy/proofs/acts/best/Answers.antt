use Rattle.std.proofs.Common.{ap, ap₂, sym, ◌∙◌, length, Option, []}
use Rattle.std.specs.List.{cons_option}
use Rattle.std.specs.Prelude.{slice_get}
use Rattle.cw_certs.specs.declared.moves.Move.{Move}
use Rattle.cw_product.specs.MovesAt.{first_move, second_move}
use Rattle.cw_product.specs.Product.{Held, game_of}
use Rattle.cw_least_strategy.specs.Strategies.{way, best, sooner}
use Rattle.cw_least_strategy.specs.Acts.{key_of}
use Rattle.cw_least_strategy.proofs.Acting.{pos_within}
use Rattle.cw_least_strategy.proofs.FewMoves.{few_moves}
use Rattle.cw_least_strategy.proofs.acts.best.Goals as goal

pub moves-moves-requires : goal.moves-moves-requires
moves-moves-requires c = rw c.game.ensures (pos_within (game_of c.args.solved.now.game) (key_of c.args.key.now) (length c.args.solved.now.game.graph.parts.items) c.requires.routed c.requires.key)

pub returns : goal.returns
returns c =
    let g = game_of c.args.solved.now.game in
    let k = key_of c.args.key.now in
    let first = c.moves-moves.ensures.first ∙ ap (λ (x : Held). first_move (slice_get (game_of x).spots k.pos)) c.game.ensures in
    let second = c.moves-moves.ensures.second ∙ ap (λ (x : Held). second_move (slice_get (game_of x).spots k.pos)) c.game.ensures in
    c.sooner.ensures k.aim ∙ ap₂ sooner (c.lead_by.ensures ∙ ap (way g k) first) (c.lead_of.ensures ∙ ap (λ (o : Option Move). best g k (cons_option o [])) second) ∙ sym (few_moves g k)

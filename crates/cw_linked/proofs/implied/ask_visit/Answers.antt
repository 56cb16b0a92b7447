use Rattle.std.proofs.Common.{◌∙◌, sym}
use Rattle.std.specs.Prelude.{slice_get}
use Rattle.std.proofs.lemmas.Bool.{false≢true}
use Rattle.cw_game.specs.Pairs.{has}
use Rattle.cw_product.specs.Product.{game_of}
use Rattle.cw_solve.proofs.Moves.{by_moves}
use Rattle.cw_linked.specs.Founds.{implied}
use Rattle.cw_linked.specs.Works.{known_of, heights_of}
use Rattle.cw_linked.proofs.Bounding.{plain_visit}
use Rattle.cw_linked.proofs.implied.ask_visit.Goals as goal

pub ask_within-requires-clause-implied : goal.ask_within-requires-clause-implied
ask_within-requires-clause-implied c _ n =
    let g = game_of c.args.game.now in
    let at = c.args.at.now in
    let p = c.args.pos.0 in
    let q = c.args.state.0 in
    let spot = slice_get g.spots p in
    let plain = plain_visit g q spot c.requires.visit in
    c.visit_bound-within.ensures.tells n
    ∙ by_moves g (implied (heights_of g (known_of c.args.work.now)) at.number n) p q (has at.context.promise) spot plain.0 plain.1 plain.2

pub ask_within-requires-clause-call : goal.ask_within-requires-clause-call
ask_within-requires-clause-call c call =
    let plain = plain_visit (game_of c.args.game.now) c.args.state.0 (slice_get (game_of c.args.game.now).spots c.args.pos.0) c.requires.visit in
    absurd (false≢true (sym plain.1 ∙ call))

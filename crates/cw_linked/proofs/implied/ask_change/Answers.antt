use Rattle.std.proofs.Common.{◌≤◌, ◌∙◌, sym, arith}
use Rattle.std.proofs.lemmas.Bool.{false≢true}
use Rattle.cw_product.specs.Product.{game_of}
use Rattle.cw_linked.specs.Works.{known_of, heights_of, index_at}
use Rattle.cw_linked.proofs.Soles.{sole_told}
use Rattle.cw_linked.proofs.Takings.{few_written}
use Rattle.cw_linked.proofs.implied.ask_change.Goals as goal

pub overflow_add-moves : goal.overflow_add-moves
overflow_add-moves c =
    let g = game_of c.args.game.now in
    let t = known_of c.args.work.now in
    let up : heights_of g t c.args.at.now.number c.args.to.0 c.args.then.0 ≤ t.written
    = c.requires.high.heights (index_at g t.blocks.contexts.items c.args.at.now.number c.args.to.0 c.args.then.0) in
    let few = few_written g t c.requires.known in
    omega (arith, up, few, c.requires.taken)

pub ask_within-requires-clause-implied : goal.ask_within-requires-clause-implied
ask_within-requires-clause-implied c _ =
    let g = game_of c.args.game.now in
    let at = c.args.at.now in
    sole_told g (heights_of g (known_of c.args.work.now)) at.number c.args.pair.pos.0 c.args.pair.state.0 at.context.promise c.args.to.0 c.args.then.0 c.args.height
    (c.requires.sole c.if-pair.true) c.requires.taken c.requires.some

pub ask_within-requires-clause-call : goal.ask_within-requires-clause-call
ask_within-requires-clause-call c call = absurd (false≢true (sym (c.requires.sole c.if-pair.true).0 ∙ call))

pub ask_within-requires-clause-most : goal.ask_within-requires-clause-most
ask_within-requires-clause-most c most up =
    let g = game_of c.args.game.now in
    let t = known_of c.args.work.now in
    let h : heights_of g t c.args.at.now.number c.args.to.0 c.args.then.0 ≤ most = up (index_at g t.blocks.contexts.items c.args.at.now.number c.args.to.0 c.args.then.0) in
    omega (arith, h, c.requires.taken)

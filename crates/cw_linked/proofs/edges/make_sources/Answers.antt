use Rattle.std.proofs.Common.{◌∙◌, arith}
use Rattle.cw_product.specs.Product.{game_of}
use Rattle.cw_linked.proofs.Sourcing.{begun, all_sources_in}
use Rattle.cw_linked.proofs.edges.make_sources.Goals as goal

pub loop-p-init : goal.loop-p-init
loop-p-init c = begun (game_of c.args.game.now) c.reserve.new.self c.positions.result c.positions.ensures (c.reserve.ensures.lists ∙ c.in_ok-sources.ensures.lists) (c.reserve.ensures.values ∙ c.in_ok-sources.ensures.values)

pub returns : goal.returns
returns c =
    all_sources_in (game_of c.args.game.now) c.loop-p.sources c.in_ok-rows.rows c.loop-p.p (omega (arith, c.positions-p-end.ensures, c.loop-p-test.false)) c.loop-p.invariant c.in_ok-rows.ensures

use Rattle.std.proofs.Common.{List, subst}
use Rattle.std.proofs.lemmas.List.{take_all}
use Rattle.std.proofs.lemmas.List.Elements.{Contains-get_or}
use Rattle.cw_product.specs.Product.{game_of}
use Rattle.cw_lazy_table.specs.declared.key.Key.{Key}
use Rattle.cw_lazy_table.specs.SeamKeys.{ComeByKind}
use Rattle.cw_lazy_table.proofs.Coming.{come_more}
use Rattle.cw_lazy_table.proofs.seam_key.by_kind.Goals as goal

pub spot-requires : goal.spot-requires
spot-requires c = c.requires _ (Contains-get_or c.args.keys.now c.loop-key.key-index _ c.loop-key-test.true)

pub loop-key-preserved : goal.loop-key-preserved
loop-key-preserved c =
    come_more (game_of c.args.game.now) c.args.keys.now c.loop-key.key-index _ c.spot.result c.loop-key.lists c.put_by_kind.new.lists c.loop-key-test.true c.spot.ensures c.loop-key.invariant
    c.in_ok-put_by_kind.ensures.asked c.in_ok-put_by_kind.ensures.labels c.in_ok-put_by_kind.ensures.opens c.in_ok-put_by_kind.ensures.closes c.in_ok-put_by_kind.ensures.calls

pub returns : goal.returns
returns c =
    subst (λ (keys : List Key). ComeByKind (game_of c.args.game.now) keys c.loop-key.lists) (take_all c.loop-key.key-index c.args.keys.now c.loop-key-test.false) c.loop-key.invariant

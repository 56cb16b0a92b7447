use Rattle.std.proofs.Common.{List, ◌∙◌, refl, subst, []}
use Rattle.std.specs.Prelude.{IfOk, Contains}
use Rattle.std.proofs.lemmas.List.Elements.{Contains-get_or}
use Rattle.cw_fixpoint.specs.Closures.{Exactly}
use Rattle.cw_product.specs.Product.{game_of}
use Rattle.cw_lazy_table.specs.declared.key.Key.{Key}
use Rattle.cw_lazy_table.specs.declared.seam_key.SeamKey.{SeamKey}
use Rattle.cw_lazy_table.specs.SeamKeys.{return_cmp, return_of}
use Rattle.cw_lazy_table.proofs.Ascending.{filtered_at, at_end}
use Rattle.cw_lazy_table.proofs.Placing.{put_return_is}
use Rattle.cw_lazy_table.proofs.seam_key.returns.Goals as goal

pub call_at-requires : goal.call_at-requires
call_at-requires c = c.requires _ (Contains-get_or c.args.pairs.now c.loop-pair.pair-index _ c.loop-pair-test.true)

pub loop-pair-preserved : goal.loop-pair-preserved
loop-pair-preserved c =
    filtered_at (return_of (game_of c.args.game.now)) c.args.pairs.now c.loop-pair.pair-index _ [] c.loop-pair.found.items c.put_return.new.returns.items c.loop-pair-test.true c.loop-pair.invariant
    (c.in_ok-put_return.ensures ∙ put_return_is c.loop-pair.found.items c.call_at.result _ _ c.call_at.ensures)

pub returns : goal.returns
returns c =
    subst (λ (l : List (SeamKey × Key)). IfOk c.ascending.result (λ v. Exactly return_cmp (Contains l) v.items))
    (at_end (return_of (game_of c.args.game.now)) c.args.pairs.now c.loop-pair.pair-index c.loop-pair.found.items c.loop-pair.found.items c.loop-pair-test.false refl c.loop-pair.invariant)
    c.ascending.ensures

use Rattle.std.proofs.Common.{[], ◌∷◌, map, refl, ap, ◌∙◌}
use Rattle.std.proofs.lemmas.List.{map_push}
use Rattle.cw_syntax.specs.Trees.{declared_of}
use Rattle.cw_scope.proofs.Pushed.{further}
use Rattle.cw_starts.specs.declared.owns.Own.{Own}
use Rattle.cw_starts.specs.Owning.{own_in, own_of}
use Rattle.cw_starts.proofs.owns.put_items.Goals as goal

pub loop-item-preserved : goal.loop-item-preserved
loop-item-preserved c =
    let x = c.item-item.result in
    let own : Own = record { name = x.name; fixed = c.args.fixed } in
    further (λ l. map (own_of c.args.fixed) (map declared_of l)) c.args.items.now c.loop-item.item-index x _ _ (own_of c.args.fixed (declared_of x) ∷ []) _ c.loop-item-test.true
    c.item-item.is (λ ys. refl) (ap (map own_in) c.in_ok-push.ensures.items ∙ map_push own_in c.loop-item.out.items own) c.loop-item.invariant

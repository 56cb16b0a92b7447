use Rattle.std.proofs.Common.{[], ◌∷◌, ◌++◌, map, refl, ap, ◌∙◌}
use Rattle.std.proofs.lemmas.List.{map-append}
use Rattle.cw_syntax.specs.Trees.{declared_of, declaration_of, file_of}
use Rattle.cw_scope.specs.Descriptors.{entry_in}
use Rattle.cw_scope.specs.Held.{entry_of}
use Rattle.cw_scope.proofs.Pushed.{further}
use Rattle.cw_scope.proofs.entries.put_entries.Goals as goal

pub loop-item-preserved : goal.loop-item-preserved
loop-item-preserved c =
    let x = c.item-item.result in
    let old = c.loop-item.out.items in
    let entry = entry_in (file_of c.args.program.now) (declaration_of c.args.declaration.now) in
    let one_more =
    ap (map entry_of) c.in_ok-push.ensures.items
    ∙ map-append entry_of old (c.entry_in.result ∷ [])
    ∙ ap (λ e. map entry_of old ++ e ∷ []) c.entry_in.ensures
    in
    further (λ l. map entry (map declared_of l)) c.deref-item-items.result.now c.loop-item.item-index x _ _ (entry (declared_of x) ∷ []) _ c.loop-item-test.true c.item-item.is (λ ys. refl)
    one_more c.loop-item.invariant

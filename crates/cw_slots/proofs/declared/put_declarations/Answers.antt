use Rattle.std.proofs.Common.{◌++◌, map, refl, ap, ◌∙◌}
use Rattle.std.specs.List.{flat_map}
use Rattle.cw_syntax.specs.Trees.{declared_of, declaration_of}
use Rattle.cw_value.specs.Machines.{names_of}
use Rattle.cw_scope.proofs.Pushed.{further, all_gone}
use Rattle.cw_slots.specs.Texts.{of_shape, text_at}
use Rattle.cw_slots.proofs.Sorts.{names_both}
use Rattle.cw_slots.proofs.declared.put_declarations.Goals as goal

pub loop-declaration-preserved : goal.loop-declaration-preserved
loop-declaration-preserved c =
    let s = c.args.source.now in
    let shape = of_shape c.args.arrays in
    let x = c.declaration-item.result in
    further (λ l. names_of s shape (flat_map (λ d. d.items) (map declaration_of l))) c.args.declarations.now c.loop-declaration.declaration-index x _ _
    (names_of s shape (declaration_of x).items) _ c.loop-declaration-test.true c.declaration-item.is
    (λ ys. names_both s shape (declaration_of x).items (flat_map (λ d. d.items) (map declaration_of ys)))
    (c.in_ok-put_items.ensures ∙ ap (λ l. map text_at c.loop-declaration.out.items ++ names_of s shape (map declared_of l)) c.deref.ensures.value) c.loop-declaration.invariant

pub returns : goal.returns
returns c =
    let s = c.args.source.now in
    let shape = of_shape c.args.arrays in
    all_gone (λ l. names_of s shape (flat_map (λ d. d.items) (map declaration_of l))) c.args.declarations.now c.loop-declaration.declaration-index _ _ refl c.loop-declaration-test.false
    c.loop-declaration.invariant

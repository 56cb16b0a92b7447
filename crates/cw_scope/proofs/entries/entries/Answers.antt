use Rattle.std.proofs.Common.{map, refl}
use Rattle.std.specs.List.{flat_map}
use Rattle.cw_syntax.specs.Trees.{declaration_of, file_of}
use Rattle.cw_scope.specs.Descriptors.{entries_of}
use Rattle.cw_scope.proofs.Pushed.{further}
use Rattle.cw_scope.proofs.entries.entries.Goals as goal

pub loop-declaration-preserved : goal.loop-declaration-preserved
loop-declaration-preserved c =
    let x = c.declaration-item.result in
    let of = entries_of (file_of c.args.program.now) in
    further (λ l. flat_map of (map declaration_of l)) c.deref-declaration-items.result.now c.loop-declaration.declaration-index x _ _ (of (declaration_of x)) _ c.loop-declaration-test.true
    c.declaration-item.is (λ ys. refl) c.in_ok-put_entries.ensures c.loop-declaration.invariant

use Rattle.std.proofs.Common.{◌≡◌, ◌++◌, drop}
use Rattle.cw_syntax.specs.Trees.{trees_of}
use Rattle.cw_callgraph.specs.Forbidding.{places_in}
use Rattle.cw_callgraph.proofs.expressions.+places.Given as goal

abbrev pub invariant-put_places_in-loop-part : goal.invariant-put_places_in-loop-part
invariant-put_places_in-loop-part l = l.out.items ++ places_in l.scope.source.now l.scope.file.now l.scope.inner.now l.role (trees_of (drop l.part-index l.parts)) ≡ l.initial.out.items
    ++ places_in l.scope.source.now l.scope.file.now l.scope.inner.now l.fn.first (trees_of l.parts)

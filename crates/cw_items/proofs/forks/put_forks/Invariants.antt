use Rattle.std.proofs.Common.{◌≡◌, ◌++◌, drop, map}
use Rattle.std.specs.List.{flat_map}
use Rattle.cw_scope.specs.Held.{nested_of}
use Rattle.cw_worlds.specs.Forks.{fork_of}
use Rattle.cw_items.proofs.forks.put_forks.Given as goal

abbrev pub invariant-loop-nested : goal.invariant-loop-nested
invariant-loop-nested l =
    l.forks.items ++ flat_map (λ p. fork_of l.checked.source.now p.statement) (map nested_of (drop l.nested-index l.statements))
    ≡ l.initial.forks.items ++ flat_map (λ p. fork_of l.checked.source.now p.statement) (map nested_of l.statements)

use Rattle.std.proofs.Common.{◌≡◌, map, drop}
use Rattle.std.specs.List.{filter}
use Rattle.std.specs.Str.{bytes_eq}
use Rattle.cw_syntax.specs.Names.{text}
use Rattle.cw_scope.specs.Descriptors.{is_one}
use Rattle.cw_scope.specs.Held.{entry_of}
use Rattle.cw_scope.proofs.entries.is_declared.Given as goal

abbrev pub invariant-loop-i : goal.invariant-loop-i
invariant-loop-i l = is_one (filter (λ e. bytes_eq l.name (text l.source e.name)) (map entry_of (drop l.i l.entries))) ≡ is_one
    (filter (λ e. bytes_eq l.name (text l.source e.name)) (map entry_of l.entries))

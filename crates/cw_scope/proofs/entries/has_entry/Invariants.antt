use Rattle.std.proofs.Common.{◌≡◌, map, drop}
use Rattle.std.specs.List.{list_any}
use Rattle.std.specs.Str.{bytes_eq}
use Rattle.cw_syntax.specs.Names.{text}
use Rattle.cw_scope.specs.Held.{entry_of}
use Rattle.cw_scope.proofs.entries.has_entry.Given as goal

abbrev pub invariant-loop-entry : goal.invariant-loop-entry
invariant-loop-entry l = list_any (λ e. bytes_eq l.name (text l.source e.name)) (map entry_of (drop l.entry-index l.entries)) ≡ list_any (λ e. bytes_eq l.name (text l.source e.name))
    (map entry_of l.entries)

-- What the turns at file scope go by, and one of them.
use Rattle.std.specs.Prelude.{◌≡◌, ℕ, List, map, None, ◌&&◌}
use Rattle.std.specs.List.{list_any}
use Rattle.cw_syntax.specs.Names.{text}
use Rattle.cw_syntax.specs.Trees.{Declared}
use Rattle.cw_value.specs.Expressions.{Memory, Outcome, ◌and◌, Location, location_of}
use Rattle.cw_value.specs.Declarations.{Done, size_in, sized}
use Rattle.cw_value.specs.Machines.{Source, globals, scope_in}
use Rattle.cw_value.specs.Starts.{has_size, is_named, made_once, start_cell, turn_at}
use Rattle.cw_slots.specs.Shown.{scope_of}
use Rattle.cw_starts.specs.Held.{item_at}
use Rattle.cw_starts.specs.Sources.{source_in}
use Rattle.cw_starts.specs.declared.turns.Turning.{Turning}

-- its scope is that of the file, and its declarations are all of them
pub record Turns (t : Turning) : Type 0 where
  pub scope : scope_of t.scope ≡ scope_in (source_in t.source) None
  pub items : map item_at t.items.now ≡ globals (source_in t.source).file

abbrev pub bare_turn : Source → List Declared → Location → List ℕ → Declared → Memory → Outcome Done
bare_turn s earlier p name i m =
    sized (scope_in s None) (size_in i.array) i.braces i.init m and (λ n k. made_once s (list_any (λ e. is_named s name e && has_size s e) earlier) p (start_cell s name) n k)

abbrev pub one_turn : Source → List Declared → Declared → Memory → Outcome Done
one_turn s earlier i m = turn_at s earlier (text s.bytes i.name) i (location_of (scope_in s None) (text s.bytes i.name)) m

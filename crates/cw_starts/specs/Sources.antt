-- A source as the code holds it, and what its arrays begin with.
use Rattle.std.specs.Prelude.{ℕ, List, map, replicate, unwrap_or}
use Rattle.cw_syntax.specs.Trees.{Declared, file_of}
use Rattle.cw_value.specs.Stores.{Cell}
use Rattle.cw_value.specs.Machines.{Source}
use Rattle.cw_value.specs.Starts.{first_stated}
use Rattle.cw_starts.specs.Held.{begins_with}
use Rattle.cw_starts.specs.declared.sizes.Source.{Source as HeldSource}

abbrev pub source_in : HeldSource → Source
source_in s = record { bytes = s.bytes.now; file = file_of s.program.now; given = map (λ g. (g.0.items, g.1)) s.given.now }

abbrev pub array_with : Source → List Declared → List ℕ → List Cell
array_with s items name = replicate (unwrap_or (first_stated s name items) 0) (begins_with s.bytes items name)

-- Names that stand in a source, and where they are kept.
use Rattle.std.specs.Prelude.{◌≡◌, ℕ, List}
use Rattle.std.specs.List.{All}
use Rattle.cw_syntax.specs.Names.{number_in, slice}
use Rattle.cw_value.specs.Expressions.{Named, Location, own_by, shared_by}
use Rattle.cw_slots.specs.Locations.{location_in}
use Rattle.cw_slots.specs.declared.names_at.NameAt.{NameAt}

-- a source, with the names of a function and those of its file
pub record Seen : Type 0 where
  pub source : List ℕ
  pub own : Named
  pub shared : Named

abbrev pub seen : List ℕ → Named → Named → Seen
seen source own shared = record { source = source; own = own; shared = shared }

-- where a name is kept: one of the function hides one of the file
abbrev pub location_among : Named → Named → List ℕ → Location
location_among own shared name =
    own_by (number_in own.arrays name) (number_in own.plain name)
    (shared_by (number_in shared.arrays name) (number_in shared.plain name))

-- the name with this span is kept there
abbrev pub IsNameAt : Seen → NameAt → Type 0
IsNameAt s n = location_in n.location ≡ location_among s.own s.shared (slice s.source n.from n.to)

abbrev pub AreNamesAt : Seen → List NameAt → Type 0
AreNamesAt s names = All (IsNameAt s) names

-- Working definitions: the first of some names whose function has a place, and the first that isn't among others.
use Rattle.std.specs.Prelude.{ℕ, ◌+◌, List, [], ◌∷◌, Option, Some, None, map, not, is_none}
use Rattle.std.specs.List.{list_any, position_from}
use Rattle.std.specs.Str.{bytes_eq}
use Rattle.cw_syntax.specs.Names.{number_in}
use Rattle.cw_callgraph.specs.declared.table.Effect.{Effect}
use Rattle.cw_callgraph.specs.Lowest.{at}

abbrev pub place_at : List Effect → Option ℕ → Option ℕ
place_at effects None = None
place_at effects (Some f) = at (map (λ e. e.forbids) effects) f

abbrev pub barred : List Effect → List (List ℕ) → List ℕ → Option ℕ
barred effects functions name = place_at effects (number_in functions name)

abbrev pub or_later : Option ℕ → ℕ → Option (ℕ × ℕ) → Option (ℕ × ℕ)
or_later None i later = later
or_later (Some place) i later = Some (i, place)

abbrev pub first_barred : List Effect → List (List ℕ) → ℕ → List (List ℕ) → Option (ℕ × ℕ)
first_barred effects functions i [] = None
first_barred effects functions i (name ∷ names) = or_later (barred effects functions name) i (first_barred effects functions (i + 1) names)

abbrev pub first_without_label : List (List ℕ) → List (List ℕ) → Option ℕ
first_without_label labels names = position_from (λ name. not (list_any (bytes_eq name) labels)) 0 names

abbrev pub first_without_function : List (List ℕ) → List (List ℕ) → Option ℕ
first_without_function functions names = position_from (λ name. is_none (number_in functions name)) 0 names

-- Working definitions: names in a list, and the numbers that a map has for them; a scene by its lists.
use Rattle.std.specs.Prelude.{◌≡◌, ℕ, ◌+◌, List, [], ◌∷◌, cond, map, Option, Some, None}
use Rattle.std.specs.Borrow.{Bor}
use Rattle.std.specs.Map.{lookup}
use Rattle.std.specs.Str.{bytes_eq}
use Rattle.cw_syntax.specs.Names.{number_in}
use Rattle.cw_syntax.specs.Plans.{Scene}

abbrev pub text_at : Bor (List ℕ) → List ℕ
text_at text = text.now

-- the number that the entries of a map have for a name
abbrev pub found : List ℕ → List (Bor (List ℕ) × ℕ) → Option ℕ
found name entries = lookup (λ text. bytes_eq name text.now) entries

-- the number of a name in a list whose first has this number
abbrev pub number_from : List ℕ → ℕ → List (Bor (List ℕ)) → Option ℕ
number_from name n [] = None
number_from name n (t ∷ ts) = cond (bytes_eq name t.now) (Some n) (number_from name (n + 1) ts)

-- each name has in them the number that it has in the list whose first has this number, and no other has one
abbrev pub HaveNumbersFrom : ℕ → List (Bor (List ℕ) × ℕ) → List (Bor (List ℕ)) → Type 0
HaveNumbersFrom n entries names = (name : Bor (List ℕ)) → found name.now entries ≡ number_from name.now n names

-- each name has in them the number that it has in the list, and no other has one
abbrev pub HaveNumbers : List (Bor (List ℕ) × ℕ) → List (Bor (List ℕ)) → Type 0
HaveNumbers entries names = (name : Bor (List ℕ)) → found name.now entries ≡ number_in (map text_at names) name.now

abbrev pub scene_by : List ℕ → (functions descriptors labels splits : List (List ℕ)) → Scene
scene_by source functions descriptors labels splits =
    record { source = source; functions = functions; names = record { descriptors = descriptors; labels = labels; splits = splits } }

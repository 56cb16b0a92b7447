-- Where names are kept, by their bytes.
use Rattle.std.specs.Prelude.{◌≡◌, ℕ, ◌+◌, List, [], ◌∷◌, Bool, true, false, cond, map, Option, Some, None, option_map}
use Rattle.std.specs.Option.{option_or, IfSome}
use Rattle.std.specs.List.{All}
use Rattle.std.specs.Borrow.{Bor}
use Rattle.std.specs.Map.{lookup}
use Rattle.std.specs.Str.{bytes_eq}
use Rattle.cw_syntax.specs.Names.{number_in}
use Rattle.cw_slots.specs.declared.numbers.Kept.{Kept}
use Rattle.cw_slots.specs.declared.numbers.Kept.TheVariants.{Plain, Array}
use Rattle.cw_slots.specs.declared.numbers.Guess.{Guess}
use Rattle.cw_slots.specs.Texts.{text_at}

-- where the entries of a map say that a name is kept
abbrev pub found : List ℕ → List (Bor (List ℕ) × Kept) → Option Kept
found name entries = lookup (λ text. bytes_eq name text.now) entries

abbrev pub kept_of : Bool → ℕ → Kept
kept_of true n = Array n
kept_of false n = Plain n

-- where a name is kept that stands in a list of arrays, or of names that are none, whose first has this number
abbrev pub kept_from : Bool → List ℕ → ℕ → List (Bor (List ℕ)) → Option Kept
kept_from arrays name n [] = None
kept_from arrays name n (t ∷ ts) = cond (bytes_eq name t.now) (Some (kept_of arrays n)) (kept_from arrays name (n + 1) ts)

-- an array hides a name that is none
abbrev pub kept_by : Option ℕ → Option ℕ → Option Kept
kept_by array plain = option_or (option_map Array array) (option_map Plain plain)

-- each name is found in them where it is kept, and no other is
abbrev pub HaveNames : List (Bor (List ℕ) × Kept) → List (Bor (List ℕ)) → List (Bor (List ℕ)) → Type 0
HaveNames entries plain arrays =
    (name : List ℕ) → found name entries ≡ kept_by (number_in (map text_at arrays) name) (number_in (map text_at plain) name)

-- what stands in a slot, if anything, is a name with where it is found
abbrev pub IsGuess : List (Bor (List ℕ) × Kept) → Option Guess → Type 0
IsGuess entries guess = IfSome guess (λ g. found g.text.now entries ≡ Some g.kept)

abbrev pub AreGuesses : List (Bor (List ℕ) × Kept) → List (Option Guess) → Type 0
AreGuesses entries guesses = All (IsGuess entries) guesses

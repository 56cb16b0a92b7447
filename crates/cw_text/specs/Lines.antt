-- What lines are made of: fields with a separator between each two, numbers and sets as fields.
use Rattle.std.specs.Prelude.{◌≡◌, ◌≢◌, ℕ, ◌==◌, false, if◌then◌else◌, List, ◌∷◌, ◌++◌, drop, codes, Option, IfSome, IfNone, []}
use Rattle.std.specs.List.{All, join_with_byte, slice_split}
use Rattle.std.specs.Fmt.{decimal}
use Rattle.cw_core.specs.Numerals.{hexadecimal}
use Rattle.cw_core.specs.Ranges.{set_spelling}
use Rattle.cw_core.specs.StateSet.{IsBelow}

-- the separator isn't among the bytes
abbrev pub IsFree : (separator : ℕ) → List ℕ → Type 0
IsFree separator bytes = All (λ byte. (byte == separator) ≡ false) bytes

-- fields in a row, with a separator between each two
abbrev pub joined : (separator : ℕ) → List (List ℕ) → List ℕ
joined separator fields = join_with_byte separator fields

-- what stands between the separators of a text; one field where it has none
abbrev pub fields_by : (separator : ℕ) → List ℕ → List (List ℕ)
fields_by separator text = slice_split (λ byte. byte == separator) text

-- a line ends with LF
abbrev pub line : List ℕ → List ℕ
line text = text ++ codes "\n"

-- `states S`, which texts of strategies and of audits have
unfoldable pub states_line : (states : ℕ) → List ℕ
states_line states = line (joined 32 (codes "states" ∷ decimal states ∷ []))

unfoldable pub end_line : List ℕ
end_line = line (codes "end")

-- How a text of a format spells a set: in format 1 as hexadecimal; in format 2 as ranges where that is shorter.
unfoldable pub set_text : (format set : ℕ) → List ℕ
set_text format set = if format == 2 then set_spelling set else hexadecimal set

-- In a text of format 1 a set has numbers below 512, in one of format 2 below 1,024.
abbrev pub IsSetIn : (format set : ℕ) → Type 0
IsSetIn format set = IsBelow (if format == 2 then 1024 else 512) set

-- the value that fits and whose text the field is, or whose fields these are; none where that is so of none that fits
pub record Reads {A W : Type 0} (Fits : A → Type 0) (text_of : A → W) (field : W) (result : Option A) : Type 0 where
  pub some : IfSome result (λ value. Fits value × (text_of value ≡ field))
  pub none : IfNone result ((value : A) → Fits value → text_of value ≢ field)

-- the same of the first of some fields, which is taken; where it is none, that field is passed over, if there is one
pub record Takes {A : Type 0} (Fits : A → Type 0) (text_of : A → List ℕ) (old new : List (List ℕ)) (result : Option A) : Type 0 where
  pub some : IfSome result (λ value. Fits value × (old ≡ text_of value ∷ new))
  pub none : IfNone result ((value : A) (rest : List (List ℕ)) → Fits value → old ≢ text_of value ∷ rest)
  pub left : IfNone result (new ≡ drop 1 old)

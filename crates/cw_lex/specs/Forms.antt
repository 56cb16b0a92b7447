-- The forms of characters and strings, spelled out. Public source: ISO/IEC 9899:2011, 6.4.4.4, 6.4.5.
use Rattle.std.specs.Prelude.{◌≡◌, ℕ, Some, List, [], ◌∷◌, ◌++◌, length}
use Rattle.std.specs.List.{concat}
use Rattle.cw_lex.specs.Characters.{item_at}

-- a quote, an item of this value, and a quote
abbrev pub IsCharacter : List ℕ → ℕ → Type 0
IsCharacter text value = (item : List ℕ) × (text ≡ 39 ∷ (item ++ 39 ∷ [])) × (item_at 39 (item ++ 39 ∷ []) ≡ Some (value, length item))

-- items one after the other, before what follows them
abbrev pub AreItems : List (List ℕ) → List ℕ → Type 0
AreItems [] rest = Unit {0}
AreItems (item ∷ items) rest = ((value : ℕ) × (item_at 34 (item ++ (concat items ++ rest)) ≡ Some (value, length item))) × AreItems items rest

-- a quote, items one after the other, and a quote
abbrev pub IsString : List ℕ → Type 0
IsString text = (items : List (List ℕ)) × (text ≡ 34 ∷ (concat items ++ 34 ∷ [])) × AreItems items (34 ∷ [])

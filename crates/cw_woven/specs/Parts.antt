-- The parts of a text, each from `/*cw{*/` to the next `/*}cw*/`: what stands before them, and what stands in them.
use Rattle.std.specs.Prelude.{◌≡◌, ℕ, ◌+◌, ◌<◌, nat_eq, false, List, [], ◌∷◌, ◌++◌, length, drop}
use Rattle.std.specs.List.{starts_with}
use Rattle.cw_emit.specs.Cut.{opening, closing}

-- the needle begins at none of so many first places of a text
abbrev pub NoneBefore : (needle text : List ℕ) → (count : ℕ) → Type 0
NoneBefore needle text count = (at : ℕ) → at < count → starts_with nat_eq (drop at text) needle ≡ false

-- the needle stands in the text behind a front and before the rest, and begins nowhere earlier
pub record IsCutAt (needle text front rest : List ℕ) : Type 0 where
  pub cut : text ≡ front ++ (needle ++ rest)
  pub first : NoneBefore needle text (length front)

-- A part of a text: the bytes from the part before it up to its opening, and the bytes in it.
pub record Insertion : Type 0 where
  pub gap : List ℕ
  pub inner : List ℕ

-- the text begins with these parts, and this is left behind them
abbrev pub AreParts : List ℕ → List Insertion → List ℕ → Type 0
AreParts text [] left = text ≡ left
AreParts text (p ∷ ps) left = (remainder : List ℕ) × (after : List ℕ) × IsCutAt opening text p.gap remainder × IsCutAt closing remainder p.inner after × AreParts after ps left

-- the text without its parts
abbrev pub without : List Insertion → List ℕ → List ℕ
without [] left = left
without (p ∷ ps) left = p.gap ++ without ps left

-- where each part stands in the text without parts, counted on from this place, and what is in it
abbrev pub places_from : ℕ → List Insertion → List (ℕ × List ℕ)
places_from at [] = []
places_from at (p ∷ ps) = (at + length p.gap, p.inner) ∷ places_from (at + length p.gap) ps

abbrev pub places : List Insertion → List (ℕ × List ℕ)
places ps = places_from 0 ps

-- Working definitions: the next part from a place of a text on.
use Rattle.std.specs.Prelude.{◌≡◌, ℕ, Bool, true, false, ◌-◌, ◌<◌, ◌≤◌, List, [], ◌∷◌, take, drop, length}
use Rattle.cw_regex.specs.declared.text.Token.{Token}
use Rattle.cw_regex.specs.declared.text.Token.TheVariants.{End, Identifier, Sign as SignToken}
use Rattle.cw_regex.specs.declared.text.Sign.TheVariants.{BracketOpen, Colon}
use Rattle.cw_regex.specs.Grammar.{Subject, ambient, holds}
use Rattle.cw_regex.specs.Parts.{Part, identifier, sign, parts, placed}

abbrev pub begins_colon : List Part → Bool
begins_colon (sign Colon ∷ rest) = true
begins_colon ps = false

abbrev pub begins_bracket : List Part → Bool
begins_bracket (sign BracketOpen ∷ rest) = true
begins_bracket ps = false

-- after `amb` and no `:`, a test has ended
abbrev pub Settled : Subject → List Part → Type 0
Settled ambient rest = begins_colon rest ≡ false
Settled (holds d r) rest = Unit {0}

-- this part comes next, from one place to another
pub record Comes (text : List ℕ) (at from to : ℕ) (p : Part) : Type 0 where
  pub first : parts (drop at text) ≡ p ∷ parts (drop to text)
  pub placed_first : placed at (drop at text) ≡ record { at = from; part = p } ∷ placed to (drop to text)
  pub starts : at ≤ from
  pub goes : from < to
  pub within : to ≤ length text

pub record IsEnd (text : List ℕ) (at : ℕ) : Type 0 where
  pub none : parts (drop at text) ≡ []
  pub none_placed : placed at (drop at text) ≡ []

abbrev pub IsToken : List ℕ → ℕ → Token → Type 0
IsToken text at End = IsEnd text at
IsToken text at (Identifier from to) = Comes text at from to (identifier (take (to - from) (drop from text)))
IsToken text at (SignToken m to) = (from : ℕ) × Comes text at from to (sign m)

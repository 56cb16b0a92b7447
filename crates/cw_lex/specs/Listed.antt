-- What tokens are: where they lie, and which bytes they have.
use Rattle.std.specs.Prelude.{◌≡◌, ℕ, ◌-◌, ◌<◌, ◌≤◌, true, List, [], ◌∷◌, length}
use Rattle.cw_syntax.specs.Names.{slice}
use Rattle.cw_lex.specs.declared.tokens.Token.{Token}
use Rattle.cw_lex.specs.declared.front.Front.TheVariants as front
use Rattle.cw_lex.specs.Fronts.{front_at}

-- a token that lies in its source, is not empty, and whose bytes alone are that token
pub record IsTokenOf (source : List ℕ) (t : Token) : Type 0 where
  pub some : t.from < t.to
  pub within : t.to ≤ length source
  pub alone : front_at true (slice source t.from t.to) ≡ front.Token t.kind (t.to - t.from)

-- the tokens lie between two places, one after the other, and none is empty
abbrev pub AreInOrder : ℕ → ℕ → List Token → Type 0
AreInOrder from to [] = from ≤ to
AreInOrder from to (t ∷ ts) = (from ≤ t.from) × (t.from < t.to) × AreInOrder t.to to ts

-- the bytes of each token, alone, are that token
abbrev pub AreOfTheirKind : List ℕ → List Token → Type 0
AreOfTheirKind source [] = Unit {0}
AreOfTheirKind source (t ∷ ts) = (front_at true (slice source t.from t.to) ≡ front.Token t.kind (t.to - t.from)) × AreOfTheirKind source ts

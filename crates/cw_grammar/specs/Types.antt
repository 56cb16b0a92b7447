-- Types. Public source: ISO/IEC 9899:2011, 6.7.2 (type specifiers), 6.7.3 (qualifiers), 6.7.7 (type names).
use Rattle.std.specs.Prelude.{◌≡◌, ℕ, ◌≤◌, ◌⊎◌, Bool, true, false, List, [], ◌∷◌, ◌++◌, replicate}
use Rattle.cw_syntax.specs.declared.program.CType.{CType}
use Rattle.cw_syntax.specs.declared.program.Base.{Base}
use Rattle.cw_syntax.specs.declared.program.Base.TheVariants as base
use Rattle.cw_grammar.specs.declared.terminals.Terminal.{Terminal}
use Rattle.cw_grammar.specs.declared.terminals.Terminal.TheVariants as w
use Rattle.cw_grammar.specs.declared.terminals.Lexeme.{Lexeme}
use Rattle.cw_grammar.specs.Lexemes.{terminals, IsFlag}

-- `type`: its terminals, its base, and whether it is unsigned
abbrev pub type_terminals : List (List Terminal × (Base × Bool))
type_terminals =
    (w.Void ∷ [], (base.Void, false))
    ∷ (w.Char ∷ [], (base.Char, false))
    ∷ (w.Unsigned ∷ w.Char ∷ [], (base.Char, true))
    ∷ (w.Int ∷ [], (base.Int, false))
    ∷ (w.Unsigned ∷ w.Int ∷ [], (base.Int, true))
    ∷ (w.Unsigned ∷ [], (base.Int, true))
    ∷ (w.Long ∷ [], (base.Long, false))
    ∷ (w.Long ∷ w.Int ∷ [], (base.Long, false))
    ∷ (w.Unsigned ∷ w.Long ∷ [], (base.Long, true))
    ∷ (w.Unsigned ∷ w.Long ∷ w.Int ∷ [], (base.Long, true))
    ∷ []

-- one of these
abbrev pub IsAmong : {X : Type 0} → X → List X → Type 0
IsAmong x [] = ⊥
IsAmong x (y ∷ ys) = (x ≡ y) ⊎ IsAmong x ys

abbrev pub IsType : List Lexeme → Base → Bool → Type 0
IsType ts base unsigned = IsAmong (terminals ts, (base, unsigned)) type_terminals

-- `[ "*" [ "*" ] ]`: how many
abbrev pub AreStars : List Lexeme → ℕ → Type 0
AreStars ts stars = (stars ≤ 2) × (terminals ts ≡ replicate stars w.Star)

-- `[ "const" ] type stars`
abbrev pub IsTypeName : List Lexeme → CType → Type 0
IsTypeName ts kind =
    (constant : Bool) × (c : List Lexeme) × (t : List Lexeme) × (s : List Lexeme)
    × (ts ≡ c ++ (t ++ s)) × IsFlag w.Const c constant × IsType t kind.base kind.unsigned × AreStars s kind.stars

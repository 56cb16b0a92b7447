-- Tokens that lie between two places, one after the other.
use Rattle.std.proofs.Common.{◌≡◌, ℕ, ◌<◌, ◌≤◌, List, [], ◌∷◌, ◌++◌, length, ap, subst, arith, length-append}
use Rattle.cw_lex.specs.declared.tokens.Token.{Token}
use Rattle.cw_lex.specs.Listed.{AreInOrder}
use Rattle.cw_grammar.specs.declared.terminals.Lexeme.{Lexeme}
use Rattle.cw_grammar.specs.declared.terminals.Terminal.{Terminal}
use Rattle.cw_grammar.specs.Declarations.{Expressions, IsDeclaration}
use Rattle.cw_grammar.specs.Lexemes.{terminals, from_of, to_of}
use Rattle.cw_grammar.specs.Spelling.{lexemes_of}
use Rattle.cw_syntax.specs.Trees.{Declaration}

-- the tokens lie between two places, one after the other
abbrev pub Lie : ℕ → ℕ → List Lexeme → Type 0
Lie from to [] = from ≤ to
Lie from to (t ∷ ts) = (from ≤ t.from) × (t.from < t.to) × Lie t.to to ts

pub lie_of : (source : List ℕ) (from to : ℕ) (ts : List Token) → AreInOrder from to ts → Lie from to (lexemes_of source ts)
lie_of source from to [] h = h
lie_of source from to (t ∷ ts) h = (h.0, h.1, lie_of source t.to to ts h.2)

pub lie_at : (from to : ℕ) (ts xs : List Lexeme) → ts ≡ xs → Lie from to ts → Lie from to xs
lie_at from to ts xs e lie = subst (λ (z : List Lexeme). Lie from to z) e lie

pub lie_le : (from to : ℕ) (ts : List Lexeme) → Lie from to ts → from ≤ to
lie_le from to [] h = h
lie_le from to (t ∷ ts) h = let p = h.0 in let q = h.1 in let r = lie_le t.to to ts h.2 in omega arith

-- the tokens of two parts, and a place between both
pub split : (from to : ℕ) (xs ys : List Lexeme) → Lie from to (xs ++ ys) → (at : ℕ) × Lie from at xs × Lie at to ys
split from to [] ys h = (from, (omega arith), h)
split from to (x ∷ xs) ys h = let p = split x.to to xs ys h.2 in (p.0, (h.0, h.1, p.1), p.2)

pub first_within : (from to : ℕ) (ts : List Lexeme) → 0 < length ts → Lie from to ts → (from ≤ from_of ts) × (from_of ts < to)
first_within from to [] some h = absurd (omega arith)
first_within from to (t ∷ ts) some h = (h.0, (let q = h.1 in let r = lie_le t.to to ts h.2 in omega arith))

-- the first and the last of some tokens
pub ends : (from to : ℕ) (ts : List Lexeme) → 0 < length ts → Lie from to ts → (from ≤ from_of ts) × (from_of ts ≤ to_of ts) × (to_of ts ≤ to)
ends from to [] some h = absurd (omega arith)
ends from to (t ∷ []) some h = (h.0, (let p = h.1 in omega arith), h.2)
ends from to (t ∷ (u ∷ ts)) some h =
    let p = ends t.to to (u ∷ ts) (omega arith) h.2 in
    (h.0, (let a = h.1 in let b = p.0 in let c = p.1 in omega arith), p.2)

-- there are tokens where there is a terminal, and where there is a declaration
pub some_terminals : (ts : List Lexeme) (w : Terminal) (ws : List Terminal) → terminals ts ≡ w ∷ ws → 0 < length ts
some_terminals [] w ws e = absurd (cc)
some_terminals (t ∷ ts) w ws e = omega arith

pub some_declaration : (E : Expressions) (ts : List Lexeme) (d : Declaration) → IsDeclaration E ts d → 0 < length ts
some_declaration E ts d (a, b, specs, whole, hs, e1, e2, e3, some, (inner, s, closed, semi, hitems), from, to) =
    omega (arith, ap length whole, ap length closed, length-append a b, length-append inner (s ∷ []))

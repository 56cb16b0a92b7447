-- Tokens one after the other, and what they are in fronts.
use Rattle.std.specs.Prelude.{◌≡◌, ℕ, Bool, true, false, Option, Some, None, List, [], ◌∷◌, ◌++◌, map}
use Rattle.cw_syntax.specs.declared.program.Name.{Name}
use Rattle.cw_syntax.specs.Trees.{Tree, Trees, none, more, Statement, Statements, nil, cons}
use Rattle.cw_grammar.specs.declared.terminals.Terminal.{Terminal}
use Rattle.cw_grammar.specs.declared.terminals.Terminal.TheVariants as w
use Rattle.cw_grammar.specs.declared.terminals.Lexeme.{Lexeme}

abbrev pub Is : Terminal → Lexeme → Type 0
Is terminal t = t.terminal ≡ terminal

abbrev pub terminals : List Lexeme → List Terminal
terminals ts = map (λ t. t.terminal) ts

abbrev pub name_of : Lexeme → Name
name_of t = record { from = t.from; to = t.to }

-- where the first token begins, and where the last ends
abbrev pub from_of : List Lexeme → ℕ
from_of [] = 0
from_of (t ∷ ts) = t.from

abbrev pub to_of : List Lexeme → ℕ
to_of [] = 0
to_of (t ∷ []) = t.to
to_of (t ∷ u ∷ ts) = to_of (u ∷ ts)

-- `[ terminal ]`: whether it stands there
abbrev pub IsFlag : Terminal → List Lexeme → Bool → Type 0
IsFlag terminal ts true = terminals ts ≡ terminal ∷ []
IsFlag terminal ts false = ts ≡ []

-- `[ X ]`, where P says what an X is
abbrev pub IsOptional : {X : Type 0} → (List Lexeme → X → Type 0) → List Lexeme → Option X → Type 0
IsOptional P ts None = ts ≡ []
IsOptional P ts (Some x) = P ts x

-- `{ X }`
abbrev pub AreAll : {X : Type 0} → (List Lexeme → X → Type 0) → List Lexeme → List X → Type 0
AreAll P ts [] = ts ≡ []
AreAll P ts (x ∷ xs) = (a : List Lexeme) × (b : List Lexeme) × (ts ≡ a ++ b) × P a x × AreAll P b xs

-- `[ X { "," X } ]`
abbrev pub AreSeparated : {X : Type 0} → (List Lexeme → X → Type 0) → List Lexeme → List X → Type 0
AreSeparated P ts [] = ts ≡ []
AreSeparated P ts (x ∷ []) = P ts x
AreSeparated P ts (x ∷ y ∷ ys) = (a : List Lexeme) × (c : Lexeme) × (b : List Lexeme) × (ts ≡ a ++ c ∷ b) × Is w.Comma c × P a x × AreSeparated P b (y ∷ ys)

-- an X between two punctuators
abbrev pub IsBetween : {X : Type 0} → (opens closes : Terminal) → (List Lexeme → X → Type 0) → List Lexeme → X → Type 0
IsBetween opens closes P ts x = (o : Lexeme) × (inner : List Lexeme) × (c : Lexeme) × (ts ≡ o ∷ inner ++ c ∷ []) × Is opens o × Is closes c × P inner x

-- an X before a punctuator
abbrev pub IsEnded : {X : Type 0} → (closes : Terminal) → (List Lexeme → X → Type 0) → List Lexeme → X → Type 0
IsEnded closes P ts x = (inner : List Lexeme) × (c : Lexeme) × (ts ≡ inner ++ c ∷ []) × Is closes c × P inner x

-- lists as parts of trees
abbrev pub trees : List Tree → Trees
trees [] = none
trees (x ∷ xs) = more x (trees xs)

abbrev pub statements : List Statement → Statements
statements [] = nil
statements (x ∷ xs) = cons x (statements xs)

-- Tokens and their terminals: what tokens with these terminals are, and the terminals of these tokens.
use Rattle.std.proofs.Common.{◌≡◌, List, [], ◌∷◌, refl, ap}
use Rattle.cw_grammar.specs.declared.terminals.Terminal.{Terminal}
use Rattle.cw_grammar.specs.declared.terminals.Lexeme.{Lexeme}
use Rattle.cw_grammar.specs.Lexemes.{Is, terminals}

pub first_terminal : (ts : List Lexeme) (x : Terminal) (xs : List Terminal) → terminals ts ≡ x ∷ xs → (t : Lexeme) × (us : List Lexeme) × (ts ≡ t ∷ us) × Is x t × (terminals us ≡ xs)
first_terminal [] x xs e = absurd cc
first_terminal (t ∷ us) x xs e = (t, us, refl, (cc), (cc))

pub no_terminals : (ts : List Lexeme) → terminals ts ≡ [] → ts ≡ []
no_terminals [] e = refl
no_terminals (t ∷ ts) e = absurd cc

pub one_terminal : (ts : List Lexeme) (x : Terminal) → terminals ts ≡ x ∷ [] → (t : Lexeme) × (ts ≡ t ∷ []) × Is x t
one_terminal [] x e = absurd cc
one_terminal (t ∷ []) x e = (t, refl, (cc))
one_terminal (t ∷ u ∷ ts) x e = absurd cc

pub two_terminals : (ts : List Lexeme) (x y : Terminal) → terminals ts ≡ x ∷ y ∷ [] → (t : Lexeme) × (u : Lexeme) × (ts ≡ t ∷ u ∷ []) × Is x t × Is y u
two_terminals [] x y e = absurd cc
two_terminals (t ∷ []) x y e = absurd cc
two_terminals (t ∷ u ∷ []) x y e = (t, u, refl, (cc), (cc))
two_terminals (t ∷ u ∷ v ∷ ts) x y e = absurd cc

pub three_terminals : (ts : List Lexeme) (x y z : Terminal) → terminals ts ≡ x ∷ y ∷ z ∷ [] → (t : Lexeme) × (u : Lexeme) × (v : Lexeme) × (ts ≡ t ∷ u ∷ v ∷ []) × Is x t × Is y u × Is z v
three_terminals [] x y z e = absurd cc
three_terminals (t ∷ []) x y z e = absurd cc
three_terminals (t ∷ u ∷ []) x y z e = absurd cc
three_terminals (t ∷ u ∷ v ∷ []) x y z e = (t, u, v, refl, (cc), (cc), (cc))
three_terminals (t ∷ u ∷ v ∷ a ∷ ts) x y z e = absurd cc

pub terminals_one : (t : Lexeme) (terminal : Terminal) → Is terminal t → terminals (t ∷ []) ≡ terminal ∷ []
terminals_one t terminal is = ap (λ (z : Terminal). z ∷ []) is

pub terminals_two : (t u : Lexeme) (x y : Terminal) → Is x t → Is y u → terminals (t ∷ u ∷ []) ≡ x ∷ y ∷ []
terminals_two t u x y p q = rw (p, q) refl

pub terminals_three : (t u v : Lexeme) (x y z : Terminal) → Is x t → Is y u → Is z v → terminals (t ∷ u ∷ v ∷ []) ≡ x ∷ y ∷ z ∷ []
terminals_three t u v x y z p q r = rw (p, q, r) refl

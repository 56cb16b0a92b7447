-- The grammar derives `int main(void){if(a)if(b);else;}`, with the `else` in the inner `if`.
use Rattle.std.proofs.Common.{ℕ, false, List, [], ◌∷◌, ◌++◌, refl, arith, inl, inr}
use Rattle.cw_syntax.specs.declared.program.Base.TheVariants as base
use Rattle.cw_syntax.specs.declared.program.Op.TheVariants as op
use Rattle.cw_syntax.specs.Trees.{Tree, Node, none, Statement, Stated, Chooses, Empties, nothing, just, nil, cons, Definition}
use Rattle.cw_grammar.specs.declared.terminals.Terminal.{Terminal}
use Rattle.cw_grammar.specs.declared.terminals.Terminal.TheVariants as w
use Rattle.cw_grammar.specs.declared.terminals.Lexeme.{Lexeme}
use Rattle.cw_grammar.specs.Lexemes.{Is}
use Rattle.cw_grammar.specs.Expressions.{IsExpression, loosest}
use Rattle.cw_grammar.specs.Statements.{InBlock, Elsewhere, IsStatement}
use Rattle.cw_grammar.specs.Declarations.{Specifiers, IsHeader}
use Rattle.cw_grammar.specs.Files.{Defines, IsFunction, IsFile}

abbrev at : Terminal → ℕ → ℕ → Lexeme
at terminal from to = record { terminal = terminal; from = from; to = to }

name_tree : Lexeme → Tree
name_tree n = Node op.Name none n.from n.to

a_name : (n : Lexeme) → Is w.Name n → IsExpression 3 (n ∷ []) (name_tree n)
unfolding loosest name_tree
a_name n is = inl (inl (inl (inl (inl (inl (inl (inl (inl (inl (inl (inr (inr (inr (inr (inr (inl (inl (n, refl, is, refl))))))))))))))))))

abbrev inner_if : List Lexeme
inner_if = at w.If 20 22 ∷ at w.Open 22 23 ∷ at w.Name 23 24 ∷ at w.Close 24 25 ∷ at w.Semicolon 25 26 ∷ at w.Else 26 30 ∷ at w.Semicolon 30 31 ∷ []

abbrev outer_if : List Lexeme
outer_if = at w.If 15 17 ∷ at w.Open 17 18 ∷ at w.Name 18 19 ∷ at w.Close 19 20 ∷ inner_if

abbrev header : List Lexeme
header = at w.Int 0 3 ∷ at w.Name 4 8 ∷ at w.Open 8 9 ∷ at w.Void 9 13 ∷ at w.Close 13 14 ∷ []

abbrev inner : Statement
inner = Stated (Chooses (name_tree (at w.Name 23 24)) (Stated Empties 25 26) (just (Stated Empties 30 31))) 20 31

abbrev outer : Statement
outer = Stated (Chooses (name_tree (at w.Name 18 19)) inner nothing) 15 31

inner_is : IsStatement 3 2 Elsewhere inner_if inner
inner_is = (
  refl,
  refl,
  (
    at w.If 20 22,
    at w.Open 22 23 ∷ at w.Name 23 24 ∷ at w.Close 24 25 ∷ [],
    at w.Semicolon 25 26 ∷ [],
    at w.Else 26 30,
    at w.Semicolon 30 31 ∷ [],
    refl,
    refl,
    (at w.Open 22 23, at w.Name 23 24 ∷ [], at w.Close 24 25, refl, refl, refl, a_name (at w.Name 23 24) refl),
    (refl, refl, refl),
    refl,
    (refl, refl, refl),
  ),
)

outer_is : IsStatement 3 3 InBlock outer_if outer
outer_is = (
  refl,
  refl,
  (
    at w.If 15 17,
    at w.Open 17 18 ∷ at w.Name 18 19 ∷ at w.Close 19 20 ∷ [],
    inner_if,
    refl,
    (λ e. absurd (cc)),
    refl,
    (at w.Open 17 18, at w.Name 18 19 ∷ [], at w.Close 19 20, refl, refl, refl, a_name (at w.Name 18 19) refl),
    inner_is,
  ),
)

abbrev main : Definition
main = record { name = record { from = 4; to = 8 }; result = record { base = base.Int; unsigned = false; stars = 0 }; params = []; brace = 15; body = cons outer nil }

abbrev plain_int : Specifiers
plain_int = record { external = false; fixed = false; constant = false; base = base.Int; unsigned = false }

header_is : IsHeader header main.name main.result main.params
header_is = (
  at w.Int 0 3 ∷ [],
  [],
  at w.Name 4 8 ∷ [],
  at w.Open 8 9 ∷ at w.Void 9 13 ∷ at w.Close 13 14 ∷ [],
  plain_int,
  0,
  refl,
  ([], [], at w.Int 0 3 ∷ [], refl, refl, refl, inr (inr (inr (inl refl)))),
  (omega arith, refl),
  refl,
  (at w.Name 4 8, refl, refl, refl),
  (at w.Open 8 9, at w.Void 9 13 ∷ [], at w.Close 13 14, refl, refl, refl, inl (refl, refl)),
)

main_is : IsFunction 3 (header ++ (at w.OpenBrace 14 15 ∷ outer_if ++ at w.CloseBrace 31 32 ∷ [])) main
main_is = (
  header,
  at w.OpenBrace 14 15,
  outer_if,
  at w.CloseBrace 31 32,
  outer ∷ [],
  refl,
  header_is,
  tt,
  refl,
  refl,
  (outer_if, [], refl, outer_is, refl),
  refl,
  refl,
)

file_is : IsFile 3 (header ++ (at w.OpenBrace 14 15 ∷ outer_if ++ at w.CloseBrace 31 32 ∷ [])) (record { protos = []; globals = []; functions = main ∷ [] })
file_is = (Defines main ∷ [], (header ++ (at w.OpenBrace 14 15 ∷ outer_if ++ at w.CloseBrace 31 32 ∷ []), [], refl, main_is, refl), refl)

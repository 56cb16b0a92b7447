-- Examples.
use Rattle.std.proofs.Common.{◌≡◌, ◌+◌, ℕ, false, List, [], ◌∷◌, Ok, refl}
use Rattle.cw_syntax.specs.declared.program.CType.{CType}
use Rattle.cw_syntax.specs.declared.program.Base.TheVariants as base
use Rattle.cw_syntax.specs.declared.program.Op.TheVariants as op
use Rattle.cw_syntax.specs.Trees.{Tree, Trees, Node, none, more}
use Rattle.cw_grammar.specs.declared.terminals.Terminal.{Terminal}
use Rattle.cw_grammar.specs.declared.terminals.Terminal.TheVariants as w
use Rattle.cw_grammar.specs.declared.terminals.Lexeme.{Lexeme}
use Rattle.cw_grammar.specs.declared.rules.Rule.TheVariants.{Expression}
use Rattle.cw_grammar.specs.Expressions.{loosest}
use Rattle.cw_expressions.specs.Cursor.{expect, repeat}
use Rattle.cw_expressions.specs.TypeReading.{unsigned_base, base_of, stars_of, type_name, type_between}
use Rattle.cw_expressions.specs.Reading.{Got, argument, arguments, named, between, primary, suffixed, postfix, size_of, prefixed, unary, cast, operand, joined, chain, assigned, expression, read_at}

at : Terminal → ℕ → ℕ → Lexeme
at terminal from to = record { terminal = terminal; from = from; to = to }

name : ℕ → Tree
name from = Node op.Name none from (from + 1)

two : Tree → Tree → Trees
two x y = more x (more y none)

char_type : CType
char_type = record { base = base.Char; unsigned = false; stars = 0 }

int_type : CType
int_type = record { base = base.Int; unsigned = false; stars = 0 }

abbrev IsRead : List Lexeme → Tree → Type 0
IsRead ts e = (x : Got) × (read_at 8 Expression ts ≡ Ok x) × (x.tree ≡ e) × (x.rest ≡ [])

grouped_left : IsRead (at w.Name 0 1 ∷ at w.Minus 1 2 ∷ at w.Name 2 3 ∷ at w.Minus 3 4 ∷ at w.Name 4 5 ∷ []) (Node (op.Binary 14) (two (Node (op.Binary 14) (two (name 0) (name 2)) 0 3) (name 4)) 0 5)
unfolding at name two char_type int_type expect repeat unsigned_base base_of stars_of type_name type_between argument arguments named between primary suffixed postfix size_of
    prefixed unary cast operand joined chain assigned expression read_at loosest
grouped_left = (_, refl, refl, refl)

assigned_right : IsRead (at w.Name 0 1 ∷ at w.Assign 1 2 ∷ at w.Name 2 3 ∷ at w.Assign 3 4 ∷ at w.Name 4 5 ∷ [])
    (Node (op.Assign 0) (two (name 0) (Node (op.Assign 0) (two (name 2) (name 4)) 2 5)) 0 5)
unfolding at name two char_type int_type expect repeat unsigned_base base_of stars_of type_name type_between argument arguments named between primary suffixed postfix size_of
    prefixed unary cast operand joined chain assigned expression read_at loosest
assigned_right = (_, refl, refl, refl)

sign_first : IsRead (at w.Minus 0 1 ∷ at w.Name 1 2 ∷ at w.Star 2 3 ∷ at w.Name 3 4 ∷ []) (Node (op.Binary 15) (two (Node (op.Prefix 1) (more (name 1) none) 0 2) (name 3)) 0 4)
unfolding at name two char_type int_type expect repeat unsigned_base base_of stars_of type_name type_between argument arguments named between primary suffixed postfix size_of
    prefixed unary cast operand joined chain assigned expression read_at loosest
sign_first = (_, refl, refl, refl)

index_before_cast : IsRead (at w.Open 0 1 ∷ at w.Char 1 5 ∷ at w.Close 5 6 ∷ at w.Name 6 7 ∷ at w.OpenBracket 7 8 ∷ at (w.Number 1) 8 9 ∷ at w.CloseBracket 9 10 ∷ [])
    (Node (op.Cast char_type) (more (Node op.Index (two (name 6) (Node (op.Number 1) none 8 9)) 6 10) none) 0 10)
unfolding at name two char_type int_type expect repeat unsigned_base base_of stars_of type_name type_between argument arguments named between primary suffixed postfix size_of
    prefixed unary cast operand joined chain assigned expression read_at loosest
index_before_cast = (_, refl, refl, refl)

size_of_type : IsRead (at w.SizeOf 0 6 ∷ at w.Open 6 7 ∷ at w.Int 7 10 ∷ at w.Close 10 11 ∷ []) (Node (op.SizeOfType int_type) none 0 11)
unfolding at name two char_type int_type expect repeat unsigned_base base_of stars_of type_name type_between argument arguments named between primary suffixed postfix size_of
    prefixed unary cast operand joined chain assigned expression read_at loosest
size_of_type = (_, refl, refl, refl)

size_of_name : IsRead (at w.SizeOf 0 6 ∷ at w.Open 6 7 ∷ at w.Name 7 8 ∷ at w.Close 8 9 ∷ []) (Node op.SizeOf (more (name 7) none) 0 9)
unfolding at name two char_type int_type expect repeat unsigned_base base_of stars_of type_name type_between argument arguments named between primary suffixed postfix size_of
    prefixed unary cast operand joined chain assigned expression read_at loosest
size_of_name = (_, refl, refl, refl)

compared : IsRead (at w.Name 0 1 ∷ at w.Less 1 2 ∷ at w.Name 2 3 ∷ at w.Less 3 4 ∷ at w.Name 4 5 ∷ []) (Node (op.Binary 7) (two (Node (op.Binary 7) (two (name 0) (name 2)) 0 3) (name 4)) 0 5)
unfolding at name two char_type int_type expect repeat unsigned_base base_of stars_of type_name type_between argument arguments named between primary suffixed postfix size_of
    prefixed unary cast operand joined chain assigned expression read_at loosest
compared = (_, refl, refl, refl)

between_keeps_its_span : IsRead (at w.Open 0 1 ∷ at w.Name 1 2 ∷ at w.Plus 2 3 ∷ at w.Name 3 4 ∷ at w.Close 4 5 ∷ at w.Star 5 6 ∷ at w.Name 6 7 ∷ [])
    (Node (op.Binary 15) (two (Node (op.Binary 13) (two (name 1) (name 3)) 1 4) (name 6)) 0 7)
unfolding at name two char_type int_type expect repeat unsigned_base base_of stars_of type_name type_between argument arguments named between primary suffixed postfix size_of
    prefixed unary cast operand joined chain assigned expression read_at loosest
between_keeps_its_span = (_, refl, refl, refl)

called : IsRead (at w.Name 0 1 ∷ at w.Open 1 2 ∷ at w.Name 2 3 ∷ at w.Comma 3 4 ∷ at w.Name 4 5 ∷ at w.PlusPlus 5 7 ∷ at w.Close 7 8 ∷ [])
    (Node (op.Call (record { from = 0; to = 1 })) (two (name 2) (Node (op.Suffix 0) (more (name 4) none) 4 7)) 0 8)
unfolding at name two char_type int_type expect repeat unsigned_base base_of stars_of type_name type_between argument arguments named between primary suffixed postfix size_of
    prefixed unary cast operand joined chain assigned expression read_at loosest
called = (_, refl, refl, refl)

tighter : IsRead (at w.Name 0 1 ∷ at w.Plus 1 2 ∷ at w.Name 2 3 ∷ at w.Star 3 4 ∷ at w.Name 4 5 ∷ at w.Ampersand 5 6 ∷ at w.Name 6 7 ∷ [])
    (Node (op.Binary 4) (two (Node (op.Binary 13) (two (name 0) (Node (op.Binary 15) (two (name 2) (name 4)) 2 5)) 0 5) (name 6)) 0 7)
unfolding at name two char_type int_type expect repeat unsigned_base base_of stars_of type_name type_between argument arguments named between primary suffixed postfix size_of
    prefixed unary cast operand joined chain assigned expression read_at loosest
tighter = (_, refl, refl, refl)

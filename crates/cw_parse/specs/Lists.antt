-- Working definitions: lists, read item by item.
use Rattle.std.specs.Prelude.{suc, Bool, List, [], ◌∷◌, ◌++◌, length, Result, Ok}
use Rattle.cw_grammar.specs.declared.terminals.Lexeme.{Lexeme}
use Rattle.cw_expressions.specs.declared.refusal.Refusal.{Refusal}
use Rattle.cw_expressions.specs.Cursor.{◌>>=◌, after, repeat}

-- what was read, and the tokens after it
abbrev pub Read : Type 0 → Type 0
Read X = Result (X × List Lexeme) Refusal

-- how an item is read
abbrev pub Reader : Type 0 → Type 0
Reader X = List Lexeme → Read X

-- the tokens after what was read
abbrev pub rest_after : {X : Type 0} → X × List Lexeme → List Lexeme
rest_after s = s.1

-- one item more
unfoldable pub one_more : {X : Type 0} → Reader X → List X × List Lexeme → Read (List X)
one_more read s = do
  x ← read s.1
  Ok (s.0 ++ x.0 ∷ [], x.1)

-- items, as long as tokens of some kind are next
unfoldable pub many : {X : Type 0} → Reader X → (List Lexeme → Bool) → List X × List Lexeme → Read (List X)
many read goes s = repeat rest_after goes (one_more read) (suc (length s.1)) s

-- an item behind a comma
abbrev pub behind : {X : Type 0} → Reader X → Reader X
behind read ts = read (after ts)

-- items between commas, at least one
unfoldable pub separated : {X : Type 0} → Reader X → (List Lexeme → Bool) → Reader (List X)
separated read goes ts = do
  x ← read ts
  many (behind read) goes (x.0 ∷ [], x.1)

-- The expression that is next. Public source: ISO/IEC 9899:2011, 6.5.
use Rattle.std.specs.Prelude.{◌≡◌, ℕ, Bool, true, false, List, [], ◌∷◌, ◌++◌, Result, Ok, Err}
use Rattle.cw_syntax.specs.Trees.{Tree}
use Rattle.cw_grammar.specs.declared.terminals.Terminal.{Terminal}
use Rattle.cw_grammar.specs.declared.terminals.Terminal.TheVariants as w
use Rattle.cw_grammar.specs.declared.terminals.Lexeme.{Lexeme}
use Rattle.cw_grammar.specs.declared.rules.Rule.TheVariants.{Expression}
use Rattle.cw_grammar.specs.Expressions.{IsExpression, nesting_limit}
use Rattle.cw_expressions.specs.declared.refusal.Refusal.{Refusal}
use Rattle.cw_expressions.specs.Cursor.{◌>>=◌}
use Rattle.cw_expressions.specs.Reading.{read_at}

-- The tokens before the rest are the expression, with at most this nesting.
abbrev pub IsNext : ℕ → List Lexeme → Tree → List Lexeme → Type 0
IsNext n ts e rest = (front : List Lexeme) × (ts ≡ front ++ rest) × IsExpression n front e

-- the punctuators that follow an expression: `) ] } , ;`
abbrev pub ends : Terminal → Bool
ends w.Close = true
ends w.CloseBracket = true
ends w.CloseBrace = true
ends w.Comma = true
ends w.Semicolon = true
ends _ = false

-- nothing is left, or one of these punctuators is next
abbrev pub IsEnd : List Lexeme → Type 0
IsEnd [] = Unit {0}
IsEnd (t ∷ ts) = ends t.terminal ≡ true

abbrev pub Answer : Type 0
Answer = Result (Tree × List Lexeme) Refusal

-- an expression, and the tokens after it
abbrev pub answer : Tree → List Lexeme → Answer
answer e rest = Ok (e, rest)

abbrev pub refused : Refusal → Answer
refused refusal = Err refusal

-- the expression at the front, within the greatest nesting that is allowed, and the tokens after it
unfoldable pub next_expression : List Lexeme → Answer
next_expression ts = do
  x ← read_at nesting_limit Expression ts
  answer x.tree x.rest

-- A rule of expressions holds those that it is made of.
use Rattle.std.proofs.Common.{ℕ, zero, suc, ◌≤◌, List, [], ◌∷◌, arith, inl, inr}
use Rattle.cw_syntax.specs.Trees.{Tree}
use Rattle.cw_grammar.specs.declared.terminals.Lexeme.{Lexeme}
use Rattle.cw_grammar.specs.declared.terminals.Terminal.{Terminal}
use Rattle.cw_grammar.specs.declared.rules.Rule.{Rule}
use Rattle.cw_grammar.specs.declared.rules.Rule.TheVariants.{Expression, Level, Unary, Postfix}
use Rattle.cw_grammar.specs.Lexemes.{AreSeparated, IsBetween}
use Rattle.cw_grammar.specs.Expressions.{Derives, IsPrimary, IsPostfix, IsUnary, IsLevel, IsRule, IsDerived, loosest}

pub postfix_unary : (n : ℕ) (ts : List Lexeme) (e : Tree) → IsDerived n Postfix ts e → IsDerived n Unary ts e
postfix_unary zero ts e h = absurd h
postfix_unary (suc n) ts e h = inr (inr (inr (inr h)))

pub unary_operand : (n : ℕ) (ts : List Lexeme) (e : Tree) → IsDerived n Unary ts e → IsDerived n (Level 0) ts e
unary_operand zero ts e h = absurd h
unary_operand (suc n) ts e h = inr h

pub level_above : (n l : ℕ) (ts : List Lexeme) (e : Tree) → IsDerived n (Level l) ts e → IsDerived n (Level (suc l)) ts e
level_above zero l ts e h = absurd h
level_above (suc n) l ts e h = inl h

pub loosest_expression : (n : ℕ) (ts : List Lexeme) (e : Tree) → IsDerived n (Level loosest) ts e → IsDerived n Expression ts e
loosest_expression zero ts e h = absurd h
loosest_expression (suc n) ts e h = inl h

-- Statements, by recursion on the nesting and by cases on the form: each line is a rule of the grammar.
-- Public source: ISO/IEC 9899:2011, 6.8 (statements; an `else` belongs to the nearest `if` that allows it).
use Rattle.std.specs.Prelude.{◌≡◌, ◌≢◌, ℕ, zero, suc, List, [], ◌∷◌, ◌++◌}
use Rattle.cw_syntax.specs.Trees.{Tree, Statement, Stated, Form, Block, Declares, Evaluates, Empties, Labels, Chooses, Whiles, Does, Fors, Breaks, Continues, Returns, Perhaps, nothing, just}
use Rattle.cw_grammar.specs.declared.terminals.Terminal.TheVariants as w
use Rattle.cw_grammar.specs.declared.terminals.Lexeme.{Lexeme}
use Rattle.cw_grammar.specs.Lexemes.{Is, terminals, name_of, from_of, to_of, IsOptional, AreAll, IsBetween, IsEnded, statements}
use Rattle.cw_grammar.specs.Expressions.{IsExpression}
use Rattle.cw_grammar.specs.Declarations.{Expressions, IsDeclaration}

-- Where a statement stands: in a block, where a declaration may stand too; before an `else`, where it may not end in an
-- `if` without one; elsewhere.
pub data Setting : Type 0 where
  InBlock : Setting
  BeforeElse : Setting
  Elsewhere : Setting

-- where a statement stands that is the end of another
abbrev pub last : Setting → Setting
last InBlock = Elsewhere
last BeforeElse = BeforeElse
last Elsewhere = Elsewhere

-- "(" expr ")"
abbrev pub IsTest : Expressions → List Lexeme → Tree → Type 0
IsTest E ts e = IsBetween w.Open w.Close E ts e

-- the first part of the head of a `for`: `decl | [ expr ] ";"`
abbrev pub IsInit : Expressions → List Lexeme → Perhaps → Type 0
IsInit E ts nothing = terminals ts ≡ w.Semicolon ∷ []
IsInit E ts (just (Stated (Evaluates e) from to)) = (from ≡ from_of ts) × (to ≡ to_of ts) × IsEnded w.Semicolon E ts e
IsInit E ts (just (Stated (Declares d) from to)) = (from ≡ from_of ts) × (to ≡ to_of ts) × IsDeclaration E ts d
IsInit E ts (just _) = ⊥

-- One rule. E says what an expression is, and P what an inner statement is.
abbrev pub IsForm : Expressions → (Setting → List Lexeme → Statement → Type 0) → Setting → List Lexeme → Form → Type 0
IsForm E P setting ts (Block kids) = (inner : List Statement) × (kids ≡ statements inner) × IsBetween w.OpenBrace w.CloseBrace (AreAll (P InBlock)) ts inner
IsForm E P setting ts (Declares d) = (setting ≡ InBlock) × IsDeclaration E ts d
IsForm E P setting ts (Evaluates e) = IsEnded w.Semicolon E ts e
IsForm E P setting ts Empties = terminals ts ≡ w.Semicolon ∷ []
IsForm E P setting ts (Labels name mark body) =
    (label : Lexeme) × (colon : Lexeme) × (rest : List Lexeme) × (ts ≡ label ∷ colon ∷ rest)
    × Is w.Name label × Is w.Colon colon × (name ≡ name_of label) × (mark ≡ colon.to) × P (last setting) rest body
IsForm E P setting ts (Chooses test body nothing) =
    (if_keyword : Lexeme) × (condition : List Lexeme) × (arm : List Lexeme) × (ts ≡ if_keyword ∷ condition ++ arm)
    × (setting ≢ BeforeElse) × Is w.If if_keyword × IsTest E condition test × P Elsewhere arm body
IsForm E P setting ts (Chooses test body (just other)) =
    (if_keyword : Lexeme) × (condition : List Lexeme) × (arm : List Lexeme) × (else_keyword : Lexeme) × (second_arm : List Lexeme)
    × (ts ≡ if_keyword ∷ condition ++ (arm ++ else_keyword ∷ second_arm))
    × Is w.If if_keyword × IsTest E condition test × P BeforeElse arm body × Is w.Else else_keyword × P (last setting) second_arm other
IsForm E P setting ts (Whiles test body) =
    (while_keyword : Lexeme) × (condition : List Lexeme) × (inner : List Lexeme) × (ts ≡ while_keyword ∷ condition ++ inner)
    × Is w.While while_keyword × IsTest E condition test × P (last setting) inner body
IsForm E P setting ts (Does body test) =
    (do_keyword : Lexeme) × (inner : List Lexeme) × (while_keyword : Lexeme) × (condition : List Lexeme) × (semicolon : Lexeme)
    × (ts ≡ do_keyword ∷ inner ++ (while_keyword ∷ condition ++ semicolon ∷ []))
    × Is w.Do do_keyword × P Elsewhere inner body × Is w.While while_keyword × IsTest E condition test × Is w.Semicolon semicolon
IsForm E P setting ts (Fors init test step body) =
    (for_keyword : Lexeme) × (opens : Lexeme) × (start : List Lexeme) × (condition : List Lexeme) × (turn : List Lexeme) × (inner : List Lexeme)
    × (ts ≡ for_keyword ∷ opens ∷ start ++ (condition ++ (turn ++ inner))) × Is w.For for_keyword × Is w.Open opens × IsInit E start init
    × IsEnded w.Semicolon (IsOptional E) condition test × IsEnded w.Close (IsOptional E) turn step × P (last setting) inner body
IsForm E P setting ts Breaks = terminals ts ≡ w.Break ∷ w.Semicolon ∷ []
IsForm E P setting ts Continues = terminals ts ≡ w.Continue ∷ w.Semicolon ∷ []
IsForm E P setting ts (Returns value) =
    (return_keyword : Lexeme) × (rest : List Lexeme) × (ts ≡ return_keyword ∷ rest) × Is w.Return return_keyword × IsEnded w.Semicolon (IsOptional E) rest value

-- The tokens derive the statement, with at most these nestings of expressions and of statements.
abbrev pub IsStatement : (limit n : ℕ) → Setting → List Lexeme → Statement → Type 0
IsStatement limit zero setting ts s = ⊥
IsStatement limit (suc n) setting ts (Stated form from to) = (from ≡ from_of ts) × (to ≡ to_of ts) × IsForm (IsExpression limit) (IsStatement limit n) setting ts form

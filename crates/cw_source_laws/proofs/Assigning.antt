-- What holds of the names among the tokens of a program holds of the names to which its statements assign.
use Rattle.std.proofs.Common.{ℕ, zero, suc, List, [], ◌∷◌, ◌++◌, sym, subst}
use Rattle.cw_syntax.specs.Trees.{Tree, Statement, Stated, Form, Block, Declares, Evaluates, Empties, Labels, Chooses, Whiles, Does, Fors, Breaks}
use Rattle.cw_syntax.specs.Trees.{Continues, Returns, nothing, just}
use Rattle.cw_syntax.specs.Trees.{Definition, File}
use Rattle.cw_grammar.specs.declared.terminals.Lexeme.{Lexeme}
use Rattle.cw_grammar.specs.Lexemes.{AreAll, statements}
use Rattle.cw_grammar.specs.Expressions.{IsExpression, nesting_limit}
use Rattle.cw_grammar.specs.Declarations.{Expressions}
use Rattle.cw_grammar.specs.Spelling.{lexemes_of}
use Rattle.cw_grammar.specs.Statements.{Setting, InBlock, BeforeElse, Elsewhere, last, IsForm, IsStatement}
use Rattle.cw_grammar.specs.Files.{Part, Declares as DeclaresPart, Holds, Defines, IsPart, IsFunction, IsProgram, file_of}
use Rattle.cw_positions.specs.Opens.{EachStands, EachStandsIn, EachStandsAll, EachStandsFrom}
use Rattle.cw_source_laws.specs.Marked.{AssignsName, ReadProgramsAssignNames}
use Rattle.cw_source_laws.proofs.Lexed.{EachNamed, tokens_named}
use Rattle.cw_source_laws.proofs.Derived.{each_two, each_at, expression_assigns}

-- a rule, where the claim holds of the expressions and the statements in it
module _ (source : List ℕ) (E : Expressions) (P : Setting → List Lexeme → Statement → Type 0)
    (expression : (ts : List Lexeme) (e : Tree) → EachNamed source ts → E ts e → AssignsName source e)
    (rec : (setting : Setting) (ts : List Lexeme) (st : Statement) → EachNamed source ts → P setting ts st → EachStands (AssignsName source) st) where
  all_assign : (ts : List Lexeme) (ss : List Statement) → EachNamed source ts → AreAll (P InBlock) ts ss
      → EachStandsAll (AssignsName source) (statements ss)
  all_assign ts [] h none = tt
  all_assign ts (st ∷ ss) h (x, y, whole, one, rest) =
      let p = each_two source x y (each_at source ts (x ++ y) whole h) in
      (rec InBlock x st p.0 one, all_assign y ss p.1 rest)

  form_assigns : (setting : Setting) (ts : List Lexeme) (form : Form) → EachNamed source ts → IsForm E P setting ts form
      → EachStandsIn (AssignsName source) form
  form_assigns setting ts (Block kids) h (inner, kids_are, (o, x, c, whole, opens, closes, all)) =
      let p = each_two source x (c ∷ []) (each_at source ts (o ∷ x ++ c ∷ []) whole h).1 in
      subst (EachStandsAll (AssignsName source)) (sym kids_are) (all_assign x inner p.0 all)
  form_assigns setting ts (Declares d) h is = tt
  form_assigns setting ts (Evaluates e) h (inner, c, whole, closes, is) =
      expression inner e (each_two source inner (c ∷ []) (each_at source ts (inner ++ c ∷ []) whole h)).0 is
  form_assigns setting ts Empties h is = tt
  form_assigns setting ts (Labels name mark body) h (n, k, x, whole, n_is, k_is, name_is, mark_is, is) =
      rec (last setting) x body (each_at source ts (n ∷ k ∷ x) whole h).1.1 is
  form_assigns setting ts (Chooses test arm nothing) h (i, x, y, whole, setting_is, i_is, test_is, is) =
      let p = each_two source x y (each_at source ts (i ∷ x ++ y) whole h).1 in
      (rec Elsewhere y arm p.1 is, tt)
  form_assigns setting ts (Chooses test arm (just other)) h (i, x, y, e, z, whole, i_is, test_is, is, e_is, other_is) =
      let p = each_two source x (y ++ e ∷ z) (each_at source ts (i ∷ x ++ (y ++ e ∷ z)) whole h).1 in
      let q = each_two source y (e ∷ z) p.1 in
      (rec BeforeElse y arm q.0 is, rec (last setting) z other q.1.1 other_is)
  form_assigns setting ts (Whiles test body) h (w, x, y, whole, w_is, test_is, is) =
      let p = each_two source x y (each_at source ts (w ∷ x ++ y) whole h).1 in
      rec (last setting) y body p.1 is
  form_assigns setting ts (Does body test) h (d, x, w, y, c, whole, d_is, is, w_is, test_is, c_is) =
      let p = each_two source x (w ∷ y ++ c ∷ []) (each_at source ts (d ∷ x ++ (w ∷ y ++ c ∷ [])) whole h).1 in
      rec Elsewhere x body p.0 is
  form_assigns setting ts (Fors init test step body) h (f, o, x, y, z, v, whole, f_is, o_is, init_is, test_is, step_is, is) =
      let p = each_two source x (y ++ (z ++ v)) (each_at source ts (f ∷ o ∷ x ++ (y ++ (z ++ v))) whole h).1.1 in
      let q = each_two source y (z ++ v) p.1 in
      rec (last setting) v body (each_two source z v q.1).1 is
  form_assigns setting ts Breaks h is = tt
  form_assigns setting ts Continues h is = tt
  form_assigns setting ts (Returns value) h is = tt

statement_assigns : (source : List ℕ) (limit n : ℕ) (setting : Setting) (ts : List Lexeme) (st : Statement) → EachNamed source ts
    → IsStatement limit n setting ts st
    → EachStands (AssignsName source) st
statement_assigns source limit zero setting ts st h is = absurd is
statement_assigns source limit (suc n) setting ts (Stated form from to) h (from_is, to_is, is) =
    form_assigns source (IsExpression limit) (IsStatement limit n) (expression_assigns source limit) (statement_assigns source limit n) setting ts
    form h is

function_assigns : (source : List ℕ) (n : ℕ) (ts : List Lexeme) (f : Definition) → EachNamed source ts → IsFunction n ts f
    → EachStandsAll (AssignsName source) f.body
function_assigns source n ts f h (header, opens, inner, closes, body, whole, header_is, named, open_is, brace_is, all, body_is, close_is) =
    let p = each_two source header (opens ∷ inner ++ closes ∷ []) (each_at source ts (header ++ (opens ∷ inner ++ closes ∷ [])) whole h) in
    let q = each_two source inner (closes ∷ []) p.1.1 in
    subst (EachStandsAll (AssignsName source)) (sym body_is)
    (all_assign source (IsExpression n) (IsStatement n n) (expression_assigns source n) (statement_assigns source n n) inner body q.0 all)

parts_assign : (source : List ℕ) (n : ℕ) (ts : List Lexeme) (parts : List Part) → EachNamed source ts → AreAll (IsPart n) ts parts
    → EachStandsFrom (AssignsName source) (file_of parts).functions
parts_assign source n ts [] h none = tt
parts_assign source n ts (DeclaresPart p ∷ parts) h (x, y, whole, one, rest) =
    parts_assign source n y parts (each_two source x y (each_at source ts (x ++ y) whole h)).1 rest
parts_assign source n ts (Holds d ∷ parts) h (x, y, whole, one, rest) =
    parts_assign source n y parts (each_two source x y (each_at source ts (x ++ y) whole h)).1 rest
parts_assign source n ts (Defines f ∷ parts) h (x, y, whole, one, rest) =
    let p = each_two source x y (each_at source ts (x ++ y) whole h) in
    (function_assigns source n x f p.0 one, parts_assign source n y parts p.1 rest)

file_assigns : (source : List ℕ) (ts : List Lexeme) (file : File) → EachNamed source ts → IsProgram ts file → EachStandsFrom (AssignsName source) file.functions
unfolding IsProgram
file_assigns source ts file h (parts, all, is) =
    subst (λ (f : File). EachStandsFrom (AssignsName source) f.functions) (sym is) (parts_assign source nesting_limit ts parts h all)

pub read_programs_assign : ReadProgramsAssignNames
read_programs_assign source file reads =
    file_assigns source (lexemes_of source reads.tokens) file (tokens_named source reads.tokens reads.lexed) reads.derived

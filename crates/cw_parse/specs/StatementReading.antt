-- Working definitions: reading statements and files from left to right, on lists. Proofs compare the code with this, and this with the grammar.
use Rattle.std.specs.Prelude.{ℕ, zero, suc, Bool, true, false, ◌&&◌, not, is_some, Option, List, [], ◌∷◌, ◌++◌, length, Result, Ok, Err, if◌then◌else◌}
use Rattle.cw_syntax.specs.declared.program.Name.{Name}
use Rattle.cw_syntax.specs.declared.program.Param.{Param}
use Rattle.cw_syntax.specs.Trees.{Tree, Statement, Stated, Form, Block, Declares, Evaluates, Empties, Labels, Chooses, Whiles, Does, Fors, Breaks, Continues, Returns, Perhaps}
use Rattle.cw_syntax.specs.Trees.{nothing, just, Prototype, File}
use Rattle.cw_grammar.specs.declared.terminals.Terminal.{Terminal}
use Rattle.cw_grammar.specs.declared.terminals.Terminal.TheVariants as w
use Rattle.cw_grammar.specs.declared.terminals.Lexeme.{Lexeme}
use Rattle.cw_grammar.specs.Lexemes.{name_of, statements}
use Rattle.cw_grammar.specs.Declarations.{Specifiers}
use Rattle.cw_grammar.specs.Expressions.{nesting_limit}
use Rattle.cw_grammar.specs.Files.{Part, Declares as DeclaresPart, Holds, Defines}
use Rattle.cw_expressions.specs.declared.refusal.Refusal.{Refusal}
use Rattle.cw_expressions.specs.declared.refusal.Refusal.TheVariants.{Syntax, TooDeep}
use Rattle.cw_expressions.specs.Cursor.{◌>>=◌, begins, after, first, expect, repeat}
use Rattle.cw_expressions.specs.Next.{next_expression}
use Rattle.cw_parse.specs.Lists.{Read, Reader, rest_after, many}
use Rattle.cw_parse.specs.DeclarationReading.{optional_expression, declaration, starts_declaration, front, header_behind, header, begins_header}

-- an expression in parentheses
unfoldable pub condition : List Lexeme → Read Tree
condition ts = do
  o ← expect w.Open ts
  e ← next_expression o.1
  c ← expect w.Close e.1
  Ok (e.0, c.1)

-- an expression, unless this punctuator is next, and past it: where it ends, and what follows it
unfoldable pub ended : Terminal → List Lexeme → Read (Option Tree × ℕ)
ended closes ts = do
  e ← optional_expression closes ts
  c ← expect closes e.1
  Ok ((e.0, c.0.to), c.1)

-- a terminal that begins a declaration is next
abbrev pub declares : List Lexeme → Bool
declares [] = false
declares (t ∷ ts) = starts_declaration t.terminal

-- a declaration, as a statement
unfoldable pub declared : List Lexeme → Read Statement
declared ts = do
  d ← declaration ts
  Ok (Stated (Declares d.0) d.0.from d.0.to, d.1)

-- an expression before a semicolon, as a statement
unfoldable pub evaluated : List Lexeme → Read Statement
evaluated ts = do
  t ← first ts
  e ← next_expression ts
  s ← expect w.Semicolon e.1
  Ok (Stated (Evaluates e.0) t.0.from s.0.to, s.1)

-- the first part of the head of a `for`
unfoldable pub start : List Lexeme → Read Perhaps
start ts =
    if begins w.Semicolon ts then Ok (nothing, after ts)
    else if declares ts then (do
      d ← declared ts
      Ok (just d.0, d.1))
    else do
      e ← evaluated ts
      Ok (just e.0, e.1)

-- a terminal and a semicolon behind it
unfoldable pub short : Form → Lexeme → List Lexeme → Read Statement
short form t ts = do
  s ← expect w.Semicolon ts
  Ok (Stated form t.from s.0.to, s.1)

-- behind `return`
unfoldable pub returned : Lexeme → List Lexeme → Read Statement
returned t ts = do
  e ← ended w.Semicolon ts
  Ok (Stated (Returns e.0.0) t.from e.0.1, e.1)

-- where a statement ends
abbrev pub end_of : Statement → ℕ
end_of (Stated form from to) = to

-- no brace is next
abbrev pub goes_on : List Lexeme → Bool
goes_on ts = not (begins w.CloseBrace ts)

-- A reader of inner statements takes whether a declaration may stand there.
module _ (read : Bool → Reader Statement) where
  -- behind `{`
  unfoldable pub block : Lexeme → List Lexeme → Read Statement
  block t ts = do
    ss ← many (read true) goes_on ([], ts)
    c ← expect w.CloseBrace ss.1
    Ok (Stated (Block (statements ss.0)) t.from c.0.to, c.1)

  -- behind a name and its `:`
  unfoldable pub labelled : Lexeme → List Lexeme → Read Statement
  labelled t ts = do
    k ← expect w.Colon ts
    s ← read false k.1
    Ok (Stated (Labels (name_of t) k.0.to s.0) t.from (end_of s.0), s.1)

  -- behind the first arm of an `if`
  unfoldable pub chosen : Lexeme → Tree → Statement → List Lexeme → Read Statement
  chosen t e s ts = if begins w.Else ts then (do
    o ← read false (after ts)
    Ok (Stated (Chooses e s (just o.0)) t.from (end_of o.0), o.1)) else
      Ok (Stated (Chooses e s nothing) t.from (end_of s), ts)

  -- behind `if`
  unfoldable pub branched : Lexeme → List Lexeme → Read Statement
  branched t ts = do
    e ← condition ts
    s ← read false e.1
    chosen t e.0 s.0 s.1

  -- behind `while`
  unfoldable pub looped : Lexeme → List Lexeme → Read Statement
  looped t ts = do
    e ← condition ts
    s ← read false e.1
    Ok (Stated (Whiles e.0 s.0) t.from (end_of s.0), s.1)

  -- behind `do`
  unfoldable pub done : Lexeme → List Lexeme → Read Statement
  done t ts = do
    s ← read false ts
    h ← expect w.While s.1
    e ← condition h.1
    c ← expect w.Semicolon e.1
    Ok (Stated (Does s.0 e.0) t.from c.0.to, c.1)

  -- behind `for`
  unfoldable pub counted : Lexeme → List Lexeme → Read Statement
  counted t ts = do
    o ← expect w.Open ts
    i ← start o.1
    e ← ended w.Semicolon i.1
    p ← ended w.Close e.1
    s ← read false p.1
    Ok (Stated (Fors i.0 e.0.0 p.0.0 s.0) t.from (end_of s.0), s.1)

  -- by its first terminal
  unfoldable pub stated : List Lexeme → Read Statement
  stated [] = Err Syntax
  stated (t ∷ ts) = elim t.terminal [
    | w.OpenBrace ↦ block t ts
    | w.Semicolon ↦ Ok (Stated Empties t.from t.to, ts)
    | w.If ↦ branched t ts
    | w.While ↦ looped t ts
    | w.Do ↦ done t ts
    | w.For ↦ counted t ts
    | w.Break ↦ short Breaks t ts
    | w.Continue ↦ short Continues t ts
    | w.Return ↦ returned t ts
    | w.Name ↦ (if begins w.Colon ts then labelled t ts else evaluated (t ∷ ts))
    | _ ↦ evaluated (t ∷ ts)
  ]

  unfoldable pub statement : Bool → List Lexeme → Read Statement
  statement in_block ts = if in_block && declares ts then declared ts else stated ts

-- a statement at the front, with at most this nesting
unfoldable pub read_statement : ℕ → Bool → List Lexeme → Read Statement
read_statement zero in_block ts = Err TooDeep
read_statement (suc n) in_block ts = statement (read_statement n) in_block ts

-- ---- files

-- whether each parameter has a name
abbrev pub all_named : List Param → Bool
all_named [] = true
all_named (p ∷ ps) = if is_some p.name then all_named ps else false

-- behind the header of a function
unfoldable pub body : Prototype → List Lexeme → Read Part
body p ts = if all_named p.params then (do
  o ← expect w.OpenBrace ts
  ss ← many (read_statement nesting_limit true) goes_on ([], o.1)
  c ← expect w.CloseBrace ss.1
  Ok (Defines (record { name = p.name; result = p.result; params = p.params; brace = o.0.to; body = statements ss.0 }), c.1)) else
    Err Syntax

-- a prototype or a function
unfoldable pub headed : List Lexeme → Read Part
headed ts = do
  p ← header ts
  if begins w.Semicolon p.1 then Ok (DeclaresPart p.0, after p.1) else body p.0 p.1

unfoldable pub held : List Lexeme → Read Part
held ts = do
  d ← declaration ts
  Ok (Holds d.0, d.1)

-- a part by what it is, which is looked at first
unfoldable pub parted : List Lexeme → Read Part
parted ts = do
  is_header ← begins_header ts
  if is_header then headed ts else held ts

-- a prototype or a function behind its specifiers, stars and name
unfoldable pub headed_behind : (Specifiers × ℕ) × Name → List Lexeme → Read Part
headed_behind f ts = do
  p ← header_behind f ts
  if begins w.Semicolon p.1 then Ok (DeclaresPart p.0, after p.1) else body p.0 p.1

-- a part, of which what it begins with is read once
unfoldable pub part : List Lexeme → Read Part
part ts = do
  f ← front ts
  if begins w.Open f.1 then headed_behind f.0 f.1 else held ts

abbrev pub some_left : List Lexeme → Bool
some_left [] = false
some_left (t ∷ ts) = true

-- a file with one part more, behind those of its kind
abbrev pub added : File → Part → File
added file (DeclaresPart p) = record { protos = file.protos ++ p ∷ []; globals = file.globals; functions = file.functions }
added file (Holds d) = record { protos = file.protos; globals = file.globals ++ d ∷ []; functions = file.functions }
added file (Defines f) = record { protos = file.protos; globals = file.globals; functions = file.functions ++ f ∷ [] }

unfoldable pub one_part : File × List Lexeme → Read File
one_part s = do
  x ← part s.1
  Ok (added s.0 x.0, x.1)

unfoldable pub parts : File × List Lexeme → Read File
parts s = repeat rest_after some_left one_part (suc (length s.1)) s

abbrev pub no_parts : File
no_parts = record { protos = []; globals = []; functions = [] }

-- all of the tokens
unfoldable pub file : List Lexeme → Result File Refusal
file ts = do
  f ← parts (no_parts, ts)
  Ok f.0

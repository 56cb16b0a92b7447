-- Working definitions: reading declarations and headers from left to right, on lists. Proofs compare the code with this, and this with the grammar.
use Rattle.std.specs.Prelude.{ℕ, Bool, true, false, ◌&&◌, not, Option, Some, None, List, [], ◌∷◌, Result, Ok, if◌then◌else◌}
use Rattle.cw_syntax.specs.declared.program.Name.{Name}
use Rattle.cw_syntax.specs.declared.program.Param.{Param}
use Rattle.cw_syntax.specs.Trees.{Tree, Trees, none, more, Declared, Declaration, Prototype}
use Rattle.cw_grammar.specs.declared.terminals.Terminal.{Terminal}
use Rattle.cw_grammar.specs.declared.terminals.Terminal.TheVariants as w
use Rattle.cw_grammar.specs.declared.terminals.Lexeme.{Lexeme}
use Rattle.cw_grammar.specs.Terminals.{same}
use Rattle.cw_grammar.specs.Lexemes.{name_of, trees}
use Rattle.cw_grammar.specs.Declarations.{Specifiers, pointer}
use Rattle.cw_expressions.specs.declared.refusal.Refusal.{Refusal}
use Rattle.cw_expressions.specs.Cursor.{◌>>=◌, begins, after, first, expect}
use Rattle.cw_expressions.specs.TypeReading.{base_of, stars_of, type_name}
use Rattle.cw_expressions.specs.Next.{next_expression}
use Rattle.cw_parse.specs.Lists.{Read, separated}

-- ---- specifiers

-- `extern` or `static`, where one of them is next: which, and the tokens after it
abbrev pub storage : List Lexeme → (Bool × Bool) × List Lexeme
storage ts = if begins w.Extern ts then ((true, false), after ts) else if begins w.Static ts then ((false, true), after ts) else ((false, false), ts)

-- whether this terminal is next, and the tokens after it
abbrev pub flag : Terminal → List Lexeme → Bool × List Lexeme
flag terminal ts = if begins terminal ts then (true, after ts) else (false, ts)

unfoldable pub specifiers : List Lexeme → Read Specifiers
specifiers ts = do
  let s = storage ts
  let c = flag w.Const s.1
  b ← base_of c.1
  Ok (record { external = s.0.0; fixed = s.0.1; constant = c.0; base = b.0.0; unsigned = b.0.1 }, b.1)

unfoldable pub next_name : List Lexeme → Read Name
next_name ts = do
  n ← expect w.Name ts
  Ok (name_of n.0, n.1)

-- ---- declarations

-- an expression, unless this punctuator is next
unfoldable pub optional_expression : Terminal → List Lexeme → Read (Option Tree)
optional_expression closes ts = if begins closes ts then Ok (None, ts) else do
  e ← next_expression ts
  Ok (Some e.0, e.1)

unfoldable pub array : List Lexeme → Read (Option (Option Tree))
array ts = if begins w.OpenBracket ts then (do
  size ← optional_expression w.CloseBracket (after ts)
  c ← expect w.CloseBracket size.1
  Ok (Some size.0, c.1)) else Ok (None, ts)

-- a comma before another element
abbrev pub more_elements : List Lexeme → Bool
more_elements ts = begins w.Comma ts && not (begins w.CloseBrace (after ts))

-- what stands in the braces of an initialiser, and whether a comma is its end
unfoldable pub elements : List Lexeme → Read (List Tree)
elements ts = do
  es ← separated next_expression more_elements ts
  let f = flag w.Comma es.1
  Ok (es.0, f.1)

-- what stands behind `=`
unfoldable pub value : List Lexeme → Read (Trees × Bool)
value ts = if begins w.OpenBrace ts then (do
  es ← elements (after ts)
  c ← expect w.CloseBrace es.1
  Ok ((trees es.0, true), c.1)) else do
    e ← next_expression ts
    Ok ((more e.0 none, false), e.1)

unfoldable pub initialiser : List Lexeme → Read (Trees × Bool)
initialiser ts = if begins w.Assign ts then value (after ts) else Ok ((none, false), ts)

unfoldable pub item : Specifiers → List Lexeme → Read Declared
item specs ts = do
  let s = stars_of ts
  n ← next_name s.1
  a ← array n.1
  i ← initialiser a.1
  Ok (record { kind = pointer specs s.0; name = n.0; array = a.0; init = i.0.0; braces = i.0.1 }, i.1)

unfoldable pub declaration : List Lexeme → Read Declaration
declaration ts = do
  t ← first ts
  specs ← specifiers ts
  items ← separated (item specs.0) (begins w.Comma) specs.1
  s ← expect w.Semicolon items.1
  Ok (record { external = specs.0.external; fixed = specs.0.fixed; constant = specs.0.constant; items = items.0; from = t.0.from; to = s.0.to }, s.1)

-- ---- headers

-- a name, where one is next
abbrev pub optional_name : List Lexeme → Option Name × List Lexeme
optional_name [] = (None, [])
optional_name (t ∷ ts) = if same t.terminal w.Name then (Some (name_of t), ts) else (None, t ∷ ts)

-- `[]`, where a bracket is next
unfoldable pub brackets : List Lexeme → Read Bool
brackets ts = if begins w.OpenBracket ts then (do
  c ← expect w.CloseBracket (after ts)
  Ok (true, c.1)) else Ok (false, ts)

unfoldable pub param : List Lexeme → Read Param
param ts = do
  k ← type_name ts
  let n = optional_name k.1
  b ← brackets n.1
  Ok (record { kind = k.0; name = n.0; array = b.0 }, b.1)

-- `void` alone in its parentheses
abbrev pub is_void : List Lexeme → Bool
is_void ts = begins w.Void ts && begins w.Close (after ts)

unfoldable pub params : List Lexeme → Read (List Param)
params ts =
    if begins w.Close ts then Ok ([], ts)
    else if is_void ts then Ok ([], after ts)
    else separated param (begins w.Comma) ts

-- what a prototype, a function and a declaration begin with: specifiers, stars and a name
unfoldable pub front : List Lexeme → Read ((Specifiers × ℕ) × Name)
front ts = do
  specs ← specifiers ts
  let s = stars_of specs.1
  n ← next_name s.1
  Ok (((specs.0, s.0), n.0), n.1)

-- a header behind these, seen as its prototype
unfoldable pub header_behind : (Specifiers × ℕ) × Name → List Lexeme → Read Prototype
header_behind f ts = do
  o ← expect w.Open ts
  ps ← params o.1
  c ← expect w.Close ps.1
  Ok (record { name = f.1; result = pointer f.0.0 f.0.1; params = ps.0 }, c.1)

unfoldable pub header : List Lexeme → Read Prototype
header ts = do
  f ← front ts
  header_behind f.0 f.1

-- whether `(` follows what comes first: so it is where a header is next, and not where a declaration is
unfoldable pub begins_header : List Lexeme → Result Bool Refusal
begins_header ts = do
  f ← front ts
  Ok (begins w.Open f.1)

-- a terminal that begins a declaration
abbrev pub starts_declaration : Terminal → Bool
starts_declaration w.Extern = true
starts_declaration w.Static = true
starts_declaration w.Const = true
starts_declaration w.Void = true
starts_declaration w.Char = true
starts_declaration w.Unsigned = true
starts_declaration w.Int = true
starts_declaration w.Long = true
starts_declaration _ = false

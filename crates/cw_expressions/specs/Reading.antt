-- Working definitions: reading expressions from left to right, on lists. Proofs compare the code with this, and this with the grammar.
use Rattle.std.specs.Prelude.{ℕ, zero, suc, ◌+◌, max, nat_lt, nat_eq, Bool, true, false, ◌&&◌, Option, Some, None, is_some, List, [], ◌∷◌, ◌++◌, length, Result, Ok, Err, if◌then◌else◌}
use Rattle.cw_syntax.specs.declared.program.Op.{Op}
use Rattle.cw_syntax.specs.declared.program.Op.TheVariants as op
use Rattle.cw_syntax.specs.Trees.{Tree, Node}
use Rattle.cw_grammar.specs.declared.terminals.Terminal.{Terminal}
use Rattle.cw_grammar.specs.declared.terminals.Terminal.TheVariants as w
use Rattle.cw_grammar.specs.declared.terminals.Lexeme.{Lexeme}
use Rattle.cw_grammar.specs.declared.rules.Rule.{Rule}
use Rattle.cw_grammar.specs.declared.rules.Rule.TheVariants.{Expression, Level, Unary, Postfix}
use Rattle.cw_grammar.specs.Terminals.{same}
use Rattle.cw_grammar.specs.Operators as operators
use Rattle.cw_grammar.specs.Lexemes.{name_of, trees}
use Rattle.cw_grammar.specs.Expressions.{loosest}
use Rattle.cw_expressions.specs.declared.refusal.Refusal.{Refusal}
use Rattle.cw_expressions.specs.declared.refusal.Refusal.TheVariants.{Syntax, TooDeep}
use Rattle.cw_expressions.specs.Cursor.{◌>>=◌, begins, after, first, known, expect, repeat}
use Rattle.cw_expressions.specs.TypeReading.{starts_type, type_between}

-- What was read: its tree, whether it is a unary, its nesting, where its first token begins and its last ends, and the
-- tokens after it.
pub record Got : Type 0 where
  pub tree : Tree
  pub unary : Bool
  pub depth : ℕ
  pub from : ℕ
  pub to : ℕ
  pub rest : List Lexeme

abbrev pub rest_of : Got → List Lexeme
rest_of x = x.rest

abbrev pub Read : Type 0
Read = Result Got Refusal

-- a node that was read
abbrev pub built : Op → List Tree → (unary : Bool) → (depth from to : ℕ) → List Lexeme → Got
built op parts unary depth from to rest = record { tree = Node op (trees parts) from to; unary = unary; depth = depth; from = from; to = to; rest = rest }

-- a node of this nesting, unless its parts nest too deep
abbrev pub above : (limit depth : ℕ) → Got → Read
above limit depth x = if nat_lt limit depth then Err TooDeep else Ok x

-- arguments that were read, the greatest nesting among them, and the tokens after them
pub record Arguments : Type 0 where
  pub list : List Tree
  pub depth : ℕ
  pub rest : List Lexeme

abbrev pub rest_of_arguments : Arguments → List Lexeme
rest_of_arguments x = x.rest

-- whether a type in parentheses is next
abbrev pub begins_cast : List Lexeme → Bool
begins_cast [] = false
begins_cast (o ∷ []) = false
begins_cast (o ∷ t ∷ ts) = same o.terminal w.Open && starts_type t.terminal

-- past strings: the place after the last, and the tokens after it
abbrev pub past_strings : ℕ → List Lexeme → ℕ × List Lexeme
past_strings to [] = (to, [])
past_strings to (t ∷ ts) = if same t.terminal w.Text then past_strings t.to ts else (to, t ∷ ts)

abbrev pub next_of : {X : Type 0} → (Terminal → Option X) → List Lexeme → Option X
next_of table [] = None
next_of table (t ∷ ts) = table t.terminal

-- a binary operator of this level
abbrev pub at_level : ℕ → Option (ℕ × ℕ) → Option ℕ
at_level level None = None
at_level level (Some x) = if nat_eq x.1 level then Some x.0 else None

abbrev pub binary_at : ℕ → List Lexeme → Option ℕ
binary_at level ts = at_level level (next_of operators.binary ts)

abbrev pub goes_on_at : ℕ → List Lexeme → Bool
goes_on_at level ts = is_some (binary_at level ts)

-- `[`, `++` or `--`
abbrev pub is_suffixed : List Lexeme → Bool
is_suffixed ts = if begins w.OpenBracket ts then true else is_some (next_of operators.suffix ts)

module _ (read : Rule → List Lexeme → Read) (limit : ℕ) where
  unfoldable pub argument : Arguments → Result Arguments Refusal
  argument before = do
    x ← read Expression (after before.rest)
    Ok (record { list = before.list ++ x.tree ∷ []; depth = max before.depth x.depth; rest = x.rest })

  -- arguments up to a parenthesis
  unfoldable pub arguments : List Lexeme → Result Arguments Refusal
  arguments ts = if begins w.Close ts then Ok (record { list = []; depth = 0; rest = ts }) else do
    x ← read Expression ts
    repeat rest_of_arguments (begins w.Comma) argument (suc (length x.rest)) (record { list = x.tree ∷ []; depth = x.depth; rest = x.rest })

  -- a name, or a call of it
  unfoldable pub named : Lexeme → List Lexeme → Read
  named t ts = if begins w.Open ts then (do
    xs ← arguments (after ts)
    c ← expect w.Close xs.rest
    Ok (built (op.Call (name_of t)) xs.list true (xs.depth + 1) t.from c.0.to c.1)) else
      Ok (built op.Name [] true 1 t.from t.to ts)

  unfoldable pub between : Lexeme → List Lexeme → Read
  between t ts = do
    x ← read Expression ts
    c ← expect w.Close x.rest
    Ok (record { tree = x.tree; unary = true; depth = x.depth + 1; from = t.from; to = c.0.to; rest = c.1 })

  unfoldable pub primary : List Lexeme → Read
  primary [] = Err Syntax
  primary (t ∷ ts) = elim t.terminal [
    | w.Name ↦ named t ts
    | w.Number value ↦ Ok (built (op.Number value) [] true 1 t.from t.to ts)
    | w.Character value ↦ Ok (built (op.Char value) [] true 1 t.from t.to ts)
    | w.Text ↦ (let s = past_strings t.to ts in Ok (built op.Text [] true 1 t.from s.0 s.1))
    | w.Open ↦ between t ts
    | _ ↦ Err Syntax
  ]

  -- behind a postfix: an index, `++` or `--`
  unfoldable pub suffixed : Got → Read
  suffixed x = if begins w.OpenBracket x.rest then (do
    y ← read Expression (after x.rest)
    c ← expect w.CloseBracket y.rest
    above limit (max x.depth y.depth) (built op.Index (x.tree ∷ y.tree ∷ []) true (max x.depth y.depth + 1) x.from c.0.to c.1))
      else do
        t ← first x.rest
        number ← known (operators.suffix t.0.terminal)
        above limit x.depth (built (op.Suffix number) (x.tree ∷ []) true (x.depth + 1) x.from t.0.to t.1)

  unfoldable pub postfix : List Lexeme → Read
  postfix ts = do
    x ← primary ts
    repeat rest_of is_suffixed suffixed (suc (length x.rest)) x

  unfoldable pub size_of : Lexeme → List Lexeme → Read
  size_of t ts = if begins_cast ts then (do
    k ← type_between ts
    Ok (built (op.SizeOfType k.0.0) [] true 1 t.from k.0.1.1 k.1)) else do
      x ← read Unary ts
      Ok (built op.SizeOf (x.tree ∷ []) true (x.depth + 1) t.from x.to x.rest)

  -- behind a prefix
  unfoldable pub prefixed : ℕ → Rule → Lexeme → List Lexeme → Read
  prefixed number rule t ts = do
    x ← read rule ts
    Ok (built (op.Prefix number) (x.tree ∷ []) true (x.depth + 1) t.from x.to x.rest)

  unfoldable pub unary : List Lexeme → Read
  unary [] = Err Syntax
  unary (t ∷ ts) = elim (operators.sign t.terminal) [
    | Some number ↦ prefixed number (Level 0) t ts
    | None ↦ elim (operators.step t.terminal) [
      | Some number ↦ prefixed number Unary t ts
      | None ↦ (if same t.terminal w.SizeOf then size_of t ts else postfix (t ∷ ts))
    ]
  ]

  unfoldable pub cast : List Lexeme → Read
  cast ts = do
    k ← type_between ts
    x ← read (Level 0) k.1
    Ok (built (op.Cast k.0.0) (x.tree ∷ []) false (x.depth + 1) k.0.1.0 x.to x.rest)

  unfoldable pub operand : List Lexeme → Read
  operand ts = if begins_cast ts then cast ts else unary ts

  -- behind an operator of the level above this one
  unfoldable pub joined : ℕ → Got → Read
  joined below x = do
    number ← known (binary_at (suc below) x.rest)
    y ← read (Level below) (after x.rest)
    above limit (max x.depth y.depth) (built (op.Binary number) (x.tree ∷ y.tree ∷ []) false (max x.depth y.depth + 1) x.from y.to y.rest)

  unfoldable pub chain : ℕ → List Lexeme → Read
  chain zero ts = operand ts
  chain (suc below) ts = do
    x ← chain below ts
    repeat rest_of (goes_on_at (suc below)) (joined below) (suc (length x.rest)) x

  unfoldable pub assigned : ℕ → Got → Read
  assigned number x = do
    y ← read Expression (after x.rest)
    above limit (max x.depth y.depth) (built (op.Assign number) (x.tree ∷ y.tree ∷ []) false (max x.depth y.depth + 1) x.from y.to y.rest)

  unfoldable pub expression : List Lexeme → Read
  expression ts = do
    x ← chain loosest ts
    elim (next_of operators.assign x.rest) [
      | Some number ↦ (if x.unary then assigned number x else Ok x)
      | None ↦ Ok x
    ]

  abbrev pub by_rule : Rule → List Lexeme → Read
  by_rule Expression ts = expression ts
  by_rule (Level l) ts = chain l ts
  by_rule Unary ts = unary ts
  by_rule Postfix ts = postfix ts

-- what stands at the front by this rule, with at most this nesting
unfoldable pub read_at : ℕ → Rule → List Lexeme → Read
read_at zero rule ts = Err TooDeep
read_at (suc n) rule ts = by_rule (read_at n) n rule ts

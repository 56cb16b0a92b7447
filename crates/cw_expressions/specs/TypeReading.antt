-- Working definitions: reading types from left to right, on lists.
use Rattle.std.specs.Prelude.{ℕ, Bool, true, false, List, [], ◌∷◌, Result, Ok, Err, if◌then◌else◌}
use Rattle.cw_syntax.specs.declared.program.CType.{CType}
use Rattle.cw_syntax.specs.declared.program.Base.{Base}
use Rattle.cw_syntax.specs.declared.program.Base.TheVariants as base
use Rattle.cw_grammar.specs.declared.terminals.Terminal.{Terminal}
use Rattle.cw_grammar.specs.declared.terminals.Terminal.TheVariants as w
use Rattle.cw_grammar.specs.declared.terminals.Lexeme.{Lexeme}
use Rattle.cw_expressions.specs.declared.refusal.Refusal.{Refusal}
use Rattle.cw_expressions.specs.declared.refusal.Refusal.TheVariants.{Syntax}
use Rattle.cw_expressions.specs.Cursor.{◌>>=◌, begins, after, expect}

-- a terminal that begins a type, or a type with `const`
abbrev pub starts_type : Terminal → Bool
starts_type w.Const = true
starts_type w.Void = true
starts_type w.Unsigned = true
starts_type w.Char = true
starts_type w.Int = true
starts_type w.Long = true
starts_type _ = false

-- past this terminal, where it is next
abbrev pub skip : Terminal → List Lexeme → List Lexeme
skip terminal ts = if begins terminal ts then after ts else ts

abbrev pub Based : Type 0
Based = Result ((Base × Bool) × List Lexeme) Refusal

abbrev pub based : Base → Bool → List Lexeme → Based
based b unsigned ts = Ok ((b, unsigned), ts)

-- what follows `unsigned`
unfoldable pub unsigned_base : List Lexeme → Based
unsigned_base [] = based base.Int true []
unsigned_base (t ∷ ts) = elim t.terminal [
  | w.Char ↦ based base.Char true ts
  | w.Int ↦ based base.Int true ts
  | w.Long ↦ based base.Long true (skip w.Int ts)
  | _ ↦ based base.Int true (t ∷ ts)
]

unfoldable pub base_of : List Lexeme → Based
base_of [] = Err Syntax
base_of (t ∷ ts) = elim t.terminal [
  | w.Void ↦ based base.Void false ts
  | w.Char ↦ based base.Char false ts
  | w.Int ↦ based base.Int false ts
  | w.Long ↦ based base.Long false (skip w.Int ts)
  | w.Unsigned ↦ unsigned_base ts
  | _ ↦ Err Syntax
]

-- how many stars are next, up to two, and what follows them
unfoldable pub stars_of : List Lexeme → ℕ × List Lexeme
stars_of ts =
    if begins w.Star ts
    then (if begins w.Star (after ts) then (2, after (after ts)) else (1, after ts))
    else (0, ts)

unfoldable pub type_name : List Lexeme → Result (CType × List Lexeme) Refusal
type_name ts = do
  b ← base_of (skip w.Const ts)
  let s = stars_of b.1
  Ok (record { base = b.0.0; unsigned = b.0.1; stars = s.0 }, s.1)

-- a type in parentheses, where it begins and ends, and the tokens after it
unfoldable pub type_between : List Lexeme → Result ((CType × (ℕ × ℕ)) × List Lexeme) Refusal
type_between ts = do
  o ← expect w.Open ts
  k ← type_name o.1
  c ← expect w.Close k.1
  Ok ((k.0, (o.0.from, c.0.to)), c.1)

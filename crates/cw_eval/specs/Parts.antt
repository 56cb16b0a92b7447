-- One of the arguments of an external call, of the expressions of a braced list, of the names of a declaration.
use Rattle.std.specs.Prelude.{ℕ, nat_lt}
use Rattle.cw_syntax.specs.Names.{text}
use Rattle.cw_syntax.specs.Trees.{Tree, Declared, op_of}
use Rattle.cw_value.specs.declared.values.Arg.{Arg}
use Rattle.cw_value.specs.Expressions.{Scope, Memory, Outcome, Location, argued, is_span, from_of, to_of, location_of, value}
use Rattle.cw_value.specs.Declarations.{Done, by_location, listed_one}

abbrev pub argument : Scope → Tree → Memory → Outcome Arg
argument s t m = argued (is_span s (op_of t) (from_of t) (to_of t)) (from_of t) (to_of t) (value s t) m

abbrev pub listed_at : Scope → Location → (size i : ℕ) → Tree → Memory → Outcome Done
listed_at s p size i t m = listed_one s (nat_lt i size) (from_of t) p i (value s t) m

abbrev pub declared_one : Scope → Declared → Memory → Outcome Done
declared_one s i m = by_location s (location_of s (text s.source i.name)) i m

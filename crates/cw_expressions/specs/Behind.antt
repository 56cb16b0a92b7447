-- Working definitions: what may stand behind an operand that is all of what a rule reads.
use Rattle.std.specs.Prelude.{ℕ, nat_lt, Bool, true, false, Option, Some, None, is_some, if◌then◌else◌}
use Rattle.cw_grammar.specs.declared.terminals.Terminal.{Terminal}
use Rattle.cw_grammar.specs.declared.rules.Rule.{Rule}
use Rattle.cw_grammar.specs.declared.rules.Rule.TheVariants.{Level}
use Rattle.cw_grammar.specs.Operators.{binary, assign}
use Rattle.cw_expressions.specs.Next.{ends}

-- a binary operator of a looser level
abbrev pub is_looser : ℕ → Option (ℕ × ℕ) → Bool
is_looser level None = false
is_looser level (Some x) = nat_lt level x.1

-- whether this terminal ends what the rule reads
abbrev pub is_behind : Rule → Terminal → Bool
is_behind (Level level) terminal = if ends terminal then true else (if is_some (assign terminal) then true else is_looser level (binary terminal))
is_behind rule terminal = ends terminal

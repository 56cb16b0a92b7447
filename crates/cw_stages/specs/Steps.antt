-- Why a list of steps, which is a file of a command, is refused.
use Rattle.std.specs.Prelude.{ℕ, ◌++◌, codes}
use Rattle.std.specs.Fmt.{decimal}
use Rattle.cw_commands.specs.declared.outcome.Cause.TheVariants.{Grammar}
use Rattle.cw_commands.specs.Outcomes.{Due, Refused}

-- the refusal by the first line that is no step
abbrev pub steps_refusal : (line : ℕ) → Due
steps_refusal line = Refused Grammar (codes "steps: line " ++ decimal line)

-- Why `values` is refused by its answers, which are a file of a command, and by a name of the program.
use Rattle.std.specs.Prelude.{ℕ, List, ◌++◌, codes}
use Rattle.std.specs.Fmt.{decimal}
use Rattle.cw_source.specs.Lines.{at_place}
use Rattle.cw_commands.specs.declared.outcome.Cause.TheVariants.{Grammar}
use Rattle.cw_commands.specs.Outcomes.{Due, Refused}

-- the refusal by the first line of the answers that doesn't fit
abbrev pub answers_refusal : (line : ℕ) → Due
answers_refusal line = Refused Grammar (codes "answers: line " ++ decimal line)

-- the refusal by the first name that may not be declared where it is, in the source that is left of a woven text
abbrev pub form_refusal : (source : List ℕ) → (at : ℕ) → Due
form_refusal source at = Refused Grammar (codes "woven: " ++ at_place source at (codes "value form"))

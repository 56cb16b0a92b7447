use Rattle.std.proofs.Common.{◌≡◌, length}
use Rattle.cw_expressions.specs.Reading.{past_strings}
use Rattle.cw_expressions.proofs.expressions.strings_end.Given as goal

abbrev pub invariant-strings : goal.invariant-strings
invariant-strings l = past_strings l.end l.rest ≡ past_strings l.to l.tokens

abbrev pub decreases-strings : goal.decreases-strings
decreases-strings l = length l.rest

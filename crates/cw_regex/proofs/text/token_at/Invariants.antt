use Rattle.cw_regex.proofs.Comings.{Skips}
use Rattle.cw_regex.proofs.text.token_at.Given as goal

abbrev pub invariant-loop-from : goal.invariant-loop-from
invariant-loop-from l = Skips l.text l.at l.from

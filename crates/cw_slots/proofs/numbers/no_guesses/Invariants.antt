use Rattle.cw_slots.specs.Numbers.{AreGuesses}
use Rattle.cw_slots.proofs.numbers.no_guesses.Given as goal

abbrev pub invariant-loop : goal.invariant-loop
invariant-loop l = AreGuesses l.all.entries l.guesses.items

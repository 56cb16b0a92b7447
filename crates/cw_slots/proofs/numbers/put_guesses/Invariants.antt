use Rattle.cw_slots.specs.Numbers.{AreGuesses}
use Rattle.cw_slots.proofs.numbers.put_guesses.Given as goal

abbrev pub invariant-loop-text : goal.invariant-loop-text
invariant-loop-text l = AreGuesses l.all.entries l.guesses.items

use Rattle.std.proofs.Common.{◌≡◌, ◌+◌, ◌++◌, length}
use Rattle.std.specs.List.{All}
use Rattle.cw_steps.specs.Steps.{FitsStep, steps_text}
use Rattle.cw_steps.proofs.reading.read_steps.Given as goal

abbrev pub invariant-lines : goal.invariant-lines
invariant-lines l = record {
  text : l.text ≡ steps_text l.steps.items ++ l.rest;
  fits : All FitsStep l.steps.items;
  number : l.number ≡ length l.steps.items + 1;
}

abbrev pub decreases-lines : goal.decreases-lines
decreases-lines l = length l.rest

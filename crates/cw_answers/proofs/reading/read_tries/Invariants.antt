use Rattle.std.proofs.Common.{◌≡◌, ◌++◌, map, length}
use Rattle.std.specs.List.{All}
use Rattle.cw_text_lines.specs.Lines.{whole_lines}
use Rattle.cw_answers.specs.AnswerLines.{line_fields, FitsLine, Try}
use Rattle.cw_answers.proofs.reading.read_tries.Given as goal

abbrev pub invariant-tries : goal.invariant-tries
invariant-tries l = record {
  text : l.text ≡ whole_lines line_fields (map Try l.tries.items) ++ l.rest;
  fits : All FitsLine (map Try l.tries.items);
}

abbrev pub decreases-tries : goal.decreases-tries
decreases-tries l = length l.rest

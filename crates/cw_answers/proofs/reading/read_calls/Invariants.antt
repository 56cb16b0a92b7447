use Rattle.std.proofs.Common.{◌≡◌, ◌++◌, map, length}
use Rattle.std.specs.List.{All}
use Rattle.cw_text_lines.specs.Lines.{whole_lines}
use Rattle.cw_answers.specs.AnswerLines.{line_fields, FitsLine, Call}
use Rattle.cw_answers.proofs.reading.read_calls.Given as goal

abbrev pub invariant-calls : goal.invariant-calls
invariant-calls l = record {
  text : l.text ≡ whole_lines line_fields (map Call l.calls.items) ++ l.rest;
  fits : All FitsLine (map Call l.calls.items);
}

abbrev pub decreases-calls : goal.decreases-calls
decreases-calls l = length l.rest

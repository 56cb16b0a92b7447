use Rattle.std.proofs.Common.{◌≡◌, ◌++◌, map, length}
use Rattle.std.specs.List.{All}
use Rattle.std.specs.List.Sorted.{IsStrictlySortedBy}
use Rattle.cw_text_lines.specs.Lines.{whole_lines}
use Rattle.cw_answers.specs.AnswerLines.{line_fields, FitsLine}
use Rattle.cw_answers.specs.AnswersText.{name_line}
use Rattle.cw_answers.specs.Reading.{name_of, by_name}
use Rattle.cw_answers.proofs.reading.read_names.Given as goal

abbrev pub invariant-names : goal.invariant-names
invariant-names l = record {
  text : l.text ≡ whole_lines line_fields (map name_line (map name_of l.names.items)) ++ l.rest;
  fits : All FitsLine (map name_line (map name_of l.names.items));
  ascend : IsStrictlySortedBy by_name (map name_of l.names.items);
}

abbrev pub decreases-names : goal.decreases-names
decreases-names l = length l.rest

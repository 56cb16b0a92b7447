use Rattle.std.proofs.Common.{◌≡◌, true, [], map, length, ◌+◌, ◌*◌}
use Rattle.cw_syntax.specs.Trees.{statement_of}
use Rattle.cw_parse.specs.Lists.{many}
use Rattle.cw_parse.specs.StatementReading.{goes_on, read_statement}
use Rattle.cw_parse.proofs.statements.+parser.Given as goal

abbrev pub decreases-read : goal.decreases-read
decreases-read l = 8 * l.depth

abbrev pub decreases-statement_at : goal.decreases-statement_at
decreases-statement_at l = 8 * l.depth + 7

abbrev pub decreases-nested_at : goal.decreases-nested_at
decreases-nested_at l = 8 * l.depth + 5

abbrev pub decreases-block_at : goal.decreases-block_at
decreases-block_at l = 8 * l.depth + 4

abbrev pub decreases-listed_at : goal.decreases-listed_at
decreases-listed_at l = 8 * l.depth + 1

abbrev pub decreases-labelled_in_place : goal.decreases-labelled_in_place
decreases-labelled_in_place l = 8 * l.depth + 5

abbrev pub decreases-labelled_at : goal.decreases-labelled_at
decreases-labelled_at l = 8 * l.depth + 4

abbrev pub decreases-branched_at : goal.decreases-branched_at
decreases-branched_at l = 8 * l.depth + 4

abbrev pub decreases-chosen_at : goal.decreases-chosen_at
decreases-chosen_at l = 8 * l.depth + 3

abbrev pub decreases-looped_at : goal.decreases-looped_at
decreases-looped_at l = 8 * l.depth + 4

abbrev pub decreases-done_at : goal.decreases-done_at
decreases-done_at l = 8 * l.depth + 4

abbrev pub decreases-counted_at : goal.decreases-counted_at
decreases-counted_at l = 8 * l.depth + 4

abbrev pub invariant-listed_at-statements : goal.invariant-listed_at-statements
invariant-listed_at-statements l = many (read_statement l.depth true) goes_on (map statement_of l.list.items, l.rest) ≡ many (read_statement l.depth true) goes_on ([], l.fn.tokens)

abbrev pub decreases-listed_at-statements : goal.decreases-listed_at-statements
decreases-listed_at-statements l = length l.rest

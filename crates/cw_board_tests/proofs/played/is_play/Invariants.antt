use Rattle.cw_boards.specs.Held.{IsBoard}
use Rattle.cw_board_tests.proofs.played.is_play.Given as goal

abbrev pub invariant-loop-entry : goal.invariant-loop-entry
invariant-loop-entry l = IsBoard l.checked l.policy l.board

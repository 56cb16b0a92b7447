use Rattle.std.proofs.Common.{◌≡◌, ◌+◌, length, take}
use Rattle.std.specs.Prelude.{sum_by}
use Rattle.cw_stages.proofs.Rowed.{backs}
use Rattle.cw_stages.proofs.numbers.strategy_rows.Given as goal

abbrev pub invariant-loop-number : goal.invariant-loop-number
invariant-loop-number l = record {
  rows : l.rows ≡ length l.strategy.rows + sum_by backs (take l.number l.strategy.rows);
}

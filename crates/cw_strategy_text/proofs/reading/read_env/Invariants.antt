use Rattle.std.proofs.Common.{◌≡◌, map, length, vec_len}
use Rattle.cw_certs.specs.Strategies.{row_of}
use Rattle.cw_strategy_text.specs.Faults.{Begins}
use Rattle.cw_strategy_text.specs.StrategyText.{row_count}
use Rattle.cw_strategy_text.proofs.reading.read_env.Given as goal

abbrev pub invariant-rows : goal.invariant-rows
invariant-rows l = record {
  front : Begins l.format l.text l.states (map row_of l.rows.items) l.rest;
  count : l.count ≡ row_count (map row_of l.rows.items);
  len : vec_len l.rows ≡ length l.rows.items;
}

abbrev pub decreases-rows : goal.decreases-rows
decreases-rows l = length l.rest

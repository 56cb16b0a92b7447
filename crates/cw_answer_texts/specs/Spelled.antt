-- What is made of a game has a text.
use Rattle.std.specs.Prelude.{◌≤◌, length}
use Rattle.cw_core.specs.Quantities.{limit_of}
use Rattle.cw_core.specs.declared.quantity.Quantity.TheVariants.{Points, Rows}
use Rattle.cw_rights.specs.Policies.{policy_of}
use Rattle.cw_certs.specs.Tables.{Table}
use Rattle.cw_certs.specs.Strategies.{Strategy}
use Rattle.cw_certs.specs.Ascending.{Ascends}
use Rattle.cw_game.specs.Conditions.{IsGoodTable, IsGoodStrategy}
use Rattle.cw_product.specs.Product.{Held, game_of}
use Rattle.cw_product.specs.Made.{IsMade}
use Rattle.cw_lazy_table.specs.Lazy.{table_rows}
use Rattle.cw_least_strategy.specs.Backs.{BacksAscend}
use Rattle.cw_least_strategy.specs.Strategies.{rows_of}
use Rattle.cw_strategy_text.specs.StrategyText.{Fits}
use Rattle.cw_table_text.specs.Grammar.{IsTable}

-- a game that was made of a graph that has no more points than a program may have
pub record IsGameMade (h : Held) : Type 0 where
  pub made : IsMade h
  pub points : length h.graph.nodes.items ≤ limit_of Points

-- A table that meets the conditions, whose lists ascend and whose rows are within their limit, has a text.
abbrev pub TablesHaveTexts : Type 0
TablesHaveTexts = (h : Held) (t : Table) → IsGameMade h → IsGoodTable (game_of h) t → Ascends t → table_rows t ≤ limit_of Rows → IsTable (policy_of h.states.policy).format t

-- So has a strategy that meets the conditions, the backs of each row ascending.
abbrev pub StrategiesHaveTexts : Type 0
StrategiesHaveTexts = (h : Held) (s : Strategy) → IsGameMade h → IsGoodStrategy (game_of h) s → BacksAscend s → rows_of s ≤ limit_of Rows → Fits (policy_of h.states.policy).format s

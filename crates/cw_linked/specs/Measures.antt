-- Working definitions: how much is left to do.
use Rattle.std.specs.Prelude.{ℕ, zero, suc, ◌+◌, ◌-◌, ◌*◌, List, Option, Some, None, length, slice_get, count_by, sum_by}
use Rattle.std.specs.List.{range_with_len}
use Rattle.cw_core.specs.Quantities.{limit_of}
use Rattle.cw_core.specs.declared.quantity.Quantity.TheVariants.{Cells}
use Rattle.cw_game.specs.Games.{Game}
use Rattle.cw_game.specs.Pairs.{has}
use Rattle.cw_solve.specs.declared.contexts.Context.{Context}
use Rattle.cw_solve.specs.Tables.{is_none}
use Rattle.cw_linked.specs.declared.work.Work.{Work}

-- how many states a set has
abbrev pub states_in : Game → ℕ → ℕ
states_in g set = count_by (has set) (range_with_len 0 g.states.count)

abbrev pub promised_in : Game → Option Context → ℕ
promised_in g None = 0
promised_in g (Some c) = states_in g c.promise

-- How often a link can still be tied: it goes nowhere, or to the context of the number before. Each time that it is tied anew its promise has fewer states.
abbrev pub ties_left : Game → List Context → ℕ → ℕ
ties_left g contexts zero = g.states.count + 1
ties_left g contexts (suc i) = promised_in g (slice_get contexts i)

-- The cells that may still come, each with its height and its link's ties, the cells without a height, and the ties of the links that are there.
abbrev pub work_left : Game → Work → ℕ
work_left g w =
    (limit_of Cells - length w.store.heights) * (g.states.count + 2)
    + count_by is_none w.store.heights
    + sum_by (ties_left g w.blocks.contexts.items) w.store.to

use Rattle.std.proofs.Common.{◌≡◌, ◌++◌, drop}
use Rattle.std.specs.List.{flat_map}
use Rattle.cw_deeds.specs.Rows.{function_rows}
use Rattle.cw_deeds.proofs.items.put_functions.Given as goal

abbrev pub invariant-loop-function : goal.invariant-loop-function
invariant-loop-function l =
    l.rows.items ++ flat_map (function_rows l.scene) (drop l.function-index l.functions)
    ≡ l.initial.rows.items ++ flat_map (function_rows l.scene) l.functions

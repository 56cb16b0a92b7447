use Rattle.std.proofs.Common.{◌≡◌, [], map, drop, take}
use Rattle.cw_value.specs.Starts.{turns}
use Rattle.cw_eval.specs.Shown.{memory_of}
use Rattle.cw_starts.specs.Held.{item_at}
use Rattle.cw_starts.specs.Sources.{source_in}
use Rattle.cw_starts.proofs.turns.begin.Given as goal

abbrev pub invariant-loop-i : goal.invariant-loop-i
invariant-loop-i l =
    turns (source_in l.turning.source) (map item_at (take l.i l.turning.items.now)) (map item_at (drop l.i l.turning.items.now)) (memory_of l.m)
    ≡ turns (source_in l.turning.source) [] (map item_at l.turning.items.now) (memory_of l.initial.m)

use Rattle.std.proofs.Common.{take, ◌≡◌}
use Rattle.std.specs.Prelude.{filter_map}
use Rattle.cw_boards.specs.Seen.{passed_by}
use Rattle.cw_boards.proofs.paths.passed_all.Given as goal

abbrev pub invariant-loop-seen : goal.invariant-loop-seen
invariant-loop-seen l = l.path.items ≡ filter_map passed_by (take l.seen-index l.states)

use Rattle.std.proofs.Common.{arith}
use Rattle.std.proofs.lemmas.Grind.{common_steps}
use Rattle.std.proofs.lemmas.List.Elements.{filter_map-append}
use Rattle.cw_boards.proofs.paths.passed_all.Goals as goal

pub loop-seen-preserved : goal.loop-seen-preserved
loop-seen-preserved c = grind (arith, common_steps, filter_map-append)

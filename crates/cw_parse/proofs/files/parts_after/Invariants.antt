use Rattle.std.proofs.Common.{◌≡◌, length}
use Rattle.cw_parse.specs.StatementReading.{parts}
use Rattle.cw_parse.specs.StatementView.{filed}
use Rattle.cw_parse.proofs.files.parts_after.Given as goal

abbrev pub invariant-parts : goal.invariant-parts
invariant-parts l = parts (filed l.so_far) ≡ parts (filed l.fn.first)

abbrev pub decreases-parts : goal.decreases-parts
decreases-parts l = length l.so_far.1.now

use Rattle.std.proofs.Common.{◌≤◌, drop}
use Rattle.cw_apart.specs.Starts.{Ascend}
use Rattle.cw_machine.specs.Knowing.{said_in}
use Rattle.cw_machine.proofs.said.are_apart.Given as goal

abbrev pub invariant-loop-statement : goal.invariant-loop-statement
invariant-loop-statement l =
    (l.from ≤ 4294967296)
    × (Ascend l.from 4294967296 (said_in (drop l.statement-index l.statements)) → Ascend 0 4294967296 (said_in l.statements))

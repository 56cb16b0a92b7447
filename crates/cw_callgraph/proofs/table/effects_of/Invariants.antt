use Rattle.cw_callgraph.specs.Finding.{AreEffects}
use Rattle.cw_callgraph.proofs.table.effects_of.Given as goal

abbrev pub invariant-loop-function : goal.invariant-loop-function
invariant-loop-function l = AreEffects l.table.rows.items l.bars.heads.items l.bars.bodies.items l.function l.effects.items

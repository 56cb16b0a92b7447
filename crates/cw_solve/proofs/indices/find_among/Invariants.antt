use Rattle.std.proofs.Common.{◌≤◌, length}
use Rattle.cw_solve.specs.Contexts.{context}
use Rattle.cw_solve.specs.Indexed.{AreOthers}
use Rattle.cw_solve.proofs.indices.find_among.Given as goal

abbrev pub invariant-loop-at : goal.invariant-loop-at
invariant-loop-at l = record {
  within : l.at ≤ length l.numbers;
  others : AreOthers l.contexts (context l.function l.promise) l.numbers l.at;
}

abbrev pub decreases-loop-at : goal.decreases-loop-at
decreases-loop-at l = l.at

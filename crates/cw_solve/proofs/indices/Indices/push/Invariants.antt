use Rattle.std.proofs.Common.{◌≡◌, ℕ, ◌+◌, ◌-◌, length}
use Rattle.cw_solve.specs.Indexed.{numbers_of}
use Rattle.cw_solve.proofs.indices.Indices.push.Given as goal

abbrev pub invariant-loop-self : goal.invariant-loop-self
invariant-loop-self l = (f : ℕ) → numbers_of l.self f ≡ numbers_of l.fn.self f

abbrev pub decreases-loop-self : goal.decreases-loop-self
decreases-loop-self l = 1 + l.function-2 - length l.self.lists.items

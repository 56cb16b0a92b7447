use Rattle.std.proofs.Common.{subst}
use Rattle.cw_solve.specs.Solved.{Held}
use Rattle.cw_solve.proofs.Keeping.{IsKnownIn, kept_known}
use Rattle.cw_solve.proofs.solved.Solved.fact_is_known.Goals as goal

pub returns : goal.returns
returns c = record { known = subst (λ (h : Held). IsKnownIn h.game) c.self.view_is (kept_known c.self.inside.game.now c.self.inside.table c.self.invariant) }

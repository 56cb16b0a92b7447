use Rattle.std.proofs.Common.{subst}
use Rattle.cw_product.specs.Product.{game_of}
use Rattle.cw_solve.specs.Contexts.{AreTheNeeded}
use Rattle.cw_solve.specs.Solved.{Held}
use Rattle.cw_solve.proofs.Keeping.{kept_needed}
use Rattle.cw_solve.proofs.solved.Solved.fact_is_kept.Goals as goal

pub returns-clause-needed : goal.returns-clause-needed
returns-clause-needed c = subst (λ (h : Held). AreTheNeeded (game_of h.game) h.contexts) c.self.view_is (kept_needed c.self.inside.game.now c.self.inside.table c.self.invariant)

use Rattle.std.proofs.Common.{ℕ, List, ◌<◌, subst}
use Rattle.std.specs.Prelude.{slice_index}
use Rattle.cw_product.specs.Product.{game_of}
use Rattle.cw_solve.specs.Low.{HeightsAreLow}
use Rattle.cw_solve.specs.Solved.{Held}
use Rattle.cw_solve.proofs.Low.{kept_low}
use Rattle.cw_solve.proofs.solved.Solved.fact_heights_are_low.Goals as goal

pub returns : goal.returns
returns c =
    subst (λ (h : Held). HeightsAreLow (game_of h.game)) c.self.view_is
    (kept_low c.self.inside.game.now c.self.inside.table c.self.invariant
    (subst (λ (l : List ℕ). (k : ℕ) → slice_index l k < 4294967296) c.deref.ensures.value c.fact_fit.ensures))

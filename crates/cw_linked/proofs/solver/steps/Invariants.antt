use Rattle.cw_product.specs.Product.{game_of}
use Rattle.cw_linked.specs.Homes.{IsHome}
use Rattle.cw_linked.specs.Listed.{HasListed}
use Rattle.cw_linked.specs.Measures.{work_left}
use Rattle.cw_linked.specs.Popped.{IsWork}
use Rattle.cw_linked.proofs.solver.steps.Given as goal

abbrev pub invariant-steps : goal.invariant-steps
invariant-steps l = record { work : IsWork (game_of l.game) l.work; listed : HasListed l.indices l.work.blocks.contexts.items; home : IsHome (game_of l.game) l.work.blocks.contexts.items l.home }

abbrev pub decreases-steps : goal.decreases-steps
decreases-steps l = work_left (game_of l.game) l.work

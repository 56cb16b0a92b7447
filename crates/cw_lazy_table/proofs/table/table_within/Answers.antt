use Rattle.std.proofs.Common.{ℕ, List, sym, subst}
use Rattle.cw_product.specs.Product.{game_of}
use Rattle.cw_solve.specs.Solved.{Held}
use Rattle.cw_lazy_table.specs.Choices.{IsReady}
use Rattle.cw_lazy_table.specs.Numbered.{ArePromises}
use Rattle.cw_lazy_table.proofs.table.table_within.Goals as goal

pub table_by-requires-clause-ready : goal.table_by-requires-clause-ready
table_by-requires-clause-ready c = subst (λ (s : Held). IsReady c.args.game.now s) (sym c.in_ok-looked.ensures) c.requires.ready

pub table_by-requires-clause-promises : goal.table_by-requires-clause-promises
table_by-requires-clause-promises c =
    subst (λ (l : List ℕ). ArePromises (game_of c.args.game.now) l) (sym c.deref-3.ensures.value) c.in_ok-promises.ensures

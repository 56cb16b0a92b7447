use Rattle.std.proofs.Common.{Some, subst}
use Rattle.cw_product.specs.Product.{game_of}
use Rattle.cw_run.specs.Walks.{here_of, next_is}
use Rattle.cw_procs.specs.Walks.{links_of, LeadsTo}
use Rattle.cw_procs.proofs.world.move_one.Goals as goal

pub returns-in-Some-clause-moves : goal.returns-in-Some-clause-moves
returns-in-Some-clause-moves g c = (
  next_is c.in-Some.next,
  subst (λ l. LeadsTo (game_of c.args.game.now) c.args.table.now (here_of c.args.here) c.args.calls (links_of l) c.args.by (Some (next_is c.in-Some.next))) c.deref.ensures.value
      c.in-Some.ensures.leads,
  c.go.ensures.kept,
  c.go.ensures.moved,
)

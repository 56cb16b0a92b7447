use Rattle.std.proofs.Common.{Some, subst}
use Rattle.cw_certs.specs.declared.moves.Move.TheVariants.{Left, Right}
use Rattle.cw_product.specs.Product.{game_of}
use Rattle.cw_run.specs.Walks.{here_of, next_is}
use Rattle.cw_procs.specs.Walks.{links_of, LeadsTo}
use Rattle.cw_procs.proofs.world.fork_one.Goals as goal

pub returns-in-Some-find-clause-forks : goal.returns-in-Some-find-clause-forks
returns-in-Some-find-clause-forks g c = (
  next_is c.in-Some.right,
  next_is c.in-Some-find.left,
  subst (λ l. LeadsTo (game_of c.args.game.now) c.args.table.now (here_of c.args.here) c.args.calls (links_of l) Right (Some (next_is c.in-Some.right))) c.deref.ensures.value
      c.in-Some.ensures.leads,
  subst (λ l. LeadsTo (game_of c.args.game.now) c.args.table.now (here_of c.args.here) c.args.calls (links_of l) Left (Some (next_is c.in-Some-find.left))) c.deref-in-Some.ensures.value
      c.in-Some-find.ensures.leads,
  c.part.ensures.parts,
)

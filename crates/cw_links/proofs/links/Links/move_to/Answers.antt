use Rattle.cw_links.proofs.Moves.{without-without}
use Rattle.cw_links.proofs.links.Links.move_to.Goals as goal

pub put_front-requires-clause-unlinked : goal.put_front-requires-clause-unlinked
put_front-requires-clause-unlinked c = rw c.unlink.ensures.lists (without-without c.args.self.now.lists c.args.cell)

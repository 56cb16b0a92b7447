use Rattle.cw_audit.proofs.Limits.{done_least}
use Rattle.cw_audit.proofs.finish.moves_of.Goals as goal

pub tell-requires-clause-least : goal.tell-requires-clause-least
tell-requires-clause-least c = done_least c.args.game.now c.args.search.now c.requires.fair c.requires.kept c.requires.settled c.in-Some.hit c.in-Some.is

use Rattle.cw_lex.proofs.Places.{place_found, place_least, place_none}
use Rattle.cw_lex.proofs.punctuators.first_place.Goals as goal

pub returns-clause-found : goal.returns-clause-found
returns-clause-found c = place_found c.args.source.now c.args.needle.now c.find.result c.find.ensures

pub returns-clause-least : goal.returns-clause-least
returns-clause-least c = place_least c.args.source.now c.args.needle.now c.find.result c.requires.some c.find.ensures

pub returns-clause-none : goal.returns-clause-none
returns-clause-none c = place_none c.args.source.now c.args.needle.now c.find.result c.requires.some c.find.ensures

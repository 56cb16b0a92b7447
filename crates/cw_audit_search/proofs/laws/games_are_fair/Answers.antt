use Rattle.cw_audit_search.proofs.Lawful.{games_fair}
use Rattle.cw_audit_search.proofs.laws.games_are_fair.Goals as goal

pub returns : goal.returns
returns c = record { fair = games_fair }

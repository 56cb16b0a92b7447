use Rattle.cw_apart.proofs.Apart.{statements_are_found}
use Rattle.cw_apart.proofs.laws.statements_are_found.Goals as goal

pub returns : goal.returns
returns c = record { found = statements_are_found }

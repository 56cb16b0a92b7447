use Rattle.cw_source.proofs.Starting.{functions_few}
use Rattle.cw_source.proofs.laws.functions_are_few.Goals as goal

pub returns : goal.returns
returns c = record { few = functions_few }

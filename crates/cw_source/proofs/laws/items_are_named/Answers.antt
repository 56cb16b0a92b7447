use Rattle.cw_source.proofs.Named.{items_named}
use Rattle.cw_source.proofs.laws.items_are_named.Goals as goal

pub returns : goal.returns
returns c = record { named = items_named }

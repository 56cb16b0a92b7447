use Rattle.cw_model.proofs.Moving.{never_grow_by_moves}
use Rattle.cw_model.proofs.laws.rights_never_grow.Goals as goal

pub returns : goal.returns
returns c = record { shrink = never_grow_by_moves }

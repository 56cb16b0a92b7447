use Rattle.cw_emit.proofs.Cutting.{source_is_one}
use Rattle.cw_emit.proofs.laws.one_source.Goals as goal

pub returns : goal.returns
returns c = source_is_one

use Rattle.cw_source.proofs.Unmarked.{no_marker}
use Rattle.cw_source.proofs.laws.no_marker_within.Goals as goal

pub returns : goal.returns
returns c = record { unmarked = no_marker }

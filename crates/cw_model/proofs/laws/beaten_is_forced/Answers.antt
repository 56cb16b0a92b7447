-- The play that is followed is determined by the weaver's choices, and these are finitely many.
use Rattle.std.proofs.Common.{[]}
use Rattle.cw_model.specs.Boards.{start_board}
use Rattle.cw_model.proofs.Beaten.{beaten_is_forced}
use Rattle.cw_model.proofs.laws.beaten_is_forced.Goals as goal

pub returns : goal.returns
returns c = record { forced = λ p s row beats. beaten_is_forced p s beats.0 row (start_board p) [] beats.1 }

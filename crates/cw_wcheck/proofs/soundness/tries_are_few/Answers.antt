-- The phases of a front pass each of its primitives once.
use Rattle.cw_wcheck.proofs.Runs.{few}
use Rattle.cw_wcheck.proofs.soundness.tries_are_few.Goals as goal

pub returns : goal.returns
returns c = record { few = few }

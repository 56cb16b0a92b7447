-- Each move after which a violation would be forced is one that the woven program makes or answers.
use Rattle.cw_model.proofs.Running.{never_forced}
use Rattle.cw_model.proofs.laws.sound_is_never_forced.Goals as goal

pub returns : goal.returns
returns c = record { never = never_forced }

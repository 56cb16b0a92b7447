use Rattle.cw_worlds.proofs.Meeting.{worlds_meet}
use Rattle.cw_worlds.proofs.laws.worlds_meet.Goals as goal

pub returns : goal.returns
returns c = record { meet = worlds_meet }

use Rattle.cw_consequences.proofs.Readings.{formats_agree}
use Rattle.cw_consequences.proofs.laws.formats_agree.Goals as goal

pub returns : goal.returns
returns c = formats_agree

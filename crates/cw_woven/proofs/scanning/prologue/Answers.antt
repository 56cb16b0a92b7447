use Rattle.cw_woven.proofs.Parting.{prologue_answer}
use Rattle.cw_woven.proofs.scanning.prologue.Goals as goal

pub returns : goal.returns
returns c = prologue_answer c.args.text.now c.in_ok-remainder.remainder.now c.cut_at.result c.in_ok-remainder.ensures.some c.cut_at.ensures.some c.cut_at.ensures.none

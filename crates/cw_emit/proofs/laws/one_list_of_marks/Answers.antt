use Rattle.cw_emit.proofs.OneList.{marks_are_one}
use Rattle.cw_emit.proofs.laws.one_list_of_marks.Goals as goal

pub returns : goal.returns
returns c = marks_are_one

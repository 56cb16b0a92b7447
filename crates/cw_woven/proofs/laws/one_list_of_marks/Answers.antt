use Rattle.cw_woven.proofs.OneReading.{one_list_of_marks}
use Rattle.cw_woven.proofs.laws.one_list_of_marks.Goals as goal

pub returns : goal.returns
returns c = one_list_of_marks

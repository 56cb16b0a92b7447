use Rattle.cw_source.proofs.Marking.{marks_in_order}
use Rattle.cw_source.proofs.laws.marks_are_in_order.Goals as goal

pub returns : goal.returns
returns c = record { in_order = marks_in_order }

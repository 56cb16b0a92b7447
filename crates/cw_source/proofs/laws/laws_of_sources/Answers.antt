use Rattle.cw_source.proofs.OneAnswer.{one_program, one_fault, never_both}
use Rattle.cw_source.proofs.laws.laws_of_sources.Goals as goal

pub returns : goal.returns
returns c = record { one_program = one_program; one_fault = one_fault; never_both = never_both }

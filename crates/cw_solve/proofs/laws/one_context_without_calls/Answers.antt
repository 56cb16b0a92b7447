use Rattle.cw_solve.proofs.Few.{one_context, without_calls}
use Rattle.cw_solve.proofs.laws.one_context_without_calls.Goals as goal

pub returns-clause-one : goal.returns-clause-one
returns-clause-one c = λ g all never a. one_context g never all a

pub returns-clause-programs : goal.returns-clause-programs
returns-clause-programs c = without_calls

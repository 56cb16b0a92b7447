use Rattle.cw_consequences.proofs.Formed.{form_is_checked, form_is_judged}
use Rattle.cw_consequences.proofs.laws.what_procs_writes_is_accepted.Goals as goal

pub returns-clause-checked : goal.returns-clause-checked
returns-clause-checked c = form_is_checked

pub returns-clause-judged : goal.returns-clause-judged
returns-clause-judged c = form_is_judged

use Rattle.cw_audit_laws.proofs.Tries.{meets_untried, rows_try}
use Rattle.cw_audit_laws.proofs.laws.what_meets_tries_nothing.Goals as goal

pub returns-clause-tried : goal.returns-clause-tried
returns-clause-tried c = meets_untried

pub returns-clause-rows : goal.returns-clause-rows
returns-clause-rows c = rows_try

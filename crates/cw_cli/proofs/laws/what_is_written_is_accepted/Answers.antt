use Rattle.cw_cli.proofs.Agreeing.{refuted_is_judged, woven_is_checked}
use Rattle.cw_cli.proofs.laws.what_is_written_is_accepted.Goals as goal

pub returns-clause-checked : goal.returns-clause-checked
returns-clause-checked c = woven_is_checked

pub returns-clause-judged : goal.returns-clause-judged
returns-clause-judged c = refuted_is_judged

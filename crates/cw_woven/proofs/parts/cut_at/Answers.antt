use Rattle.cw_woven.proofs.Finding.{none_at, finds_some}
use Rattle.cw_woven.proofs.parts.cut_at.Goals as goal

pub returns-in_err-at-clause-none : goal.returns-in_err-at-clause-none
returns-in_err-at-clause-none c = rw c.from_residual.ensures (none_at c.args.text.now c.args.needle.now c.in_err-at.ensures)

pub returns-clause-some : goal.returns-clause-some
returns-clause-some c = finds_some c.args.text.now c.args.needle.now c.in_ok-at.at c.in_ok-at.ensures

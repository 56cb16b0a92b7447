use Rattle.cw_text.proofs.Finding.{free_before, free_throughout, parts}
use Rattle.cw_text.proofs.cutting.next_line.Goals as goal

pub returns-in_err-at-clause-none : goal.returns-in_err-at-clause-none
returns-in_err-at-clause-none c = rw c.from_residual.ensures (free_throughout 10 c.args.text.now c.in_err-at.ensures)

pub returns-clause-parts : goal.returns-clause-parts
returns-clause-parts c = parts 10 c.args.text.now c.in_ok-at.at c.in_ok-at.ensures

pub returns-clause-first : goal.returns-clause-first
returns-clause-first c = free_before 10 c.args.text.now c.in_ok-at.at c.in_ok-at.ensures

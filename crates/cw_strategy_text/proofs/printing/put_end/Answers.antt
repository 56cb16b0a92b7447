use Rattle.cw_text.specs.Lines.{end_line}
use Rattle.cw_strategy_text.proofs.printing.put_end.Goals as goal

pub returns-clause-text : goal.returns-clause-text
unfolding end_line
returns-clause-text g c = c.put.ensures.text

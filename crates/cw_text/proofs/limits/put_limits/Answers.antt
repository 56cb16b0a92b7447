use Rattle.cw_text.specs.LimitsText.{limits_line}
use Rattle.cw_text.proofs.Numbered.{three_pieces}
use Rattle.cw_text.proofs.limits.put_limits.Goals as goal

pub returns-clause-text : goal.returns-clause-text
unfolding limits_line
returns-clause-text g c = three_pieces _ _ _ _ _ _ _ c.put.ensures.text (rw c.deref.ensures.value at c.put_each_limit.ensures.text) c.put-2.ensures.text

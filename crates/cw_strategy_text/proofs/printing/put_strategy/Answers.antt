-- The parts of a text, one after another.
use Rattle.cw_certs.specs.Strategies.{strategy_of}
use Rattle.cw_strategy_text.proofs.Puts.{strategy_put}
use Rattle.cw_strategy_text.proofs.printing.put_strategy.Goals as goal

pub returns-clause-text : goal.returns-clause-text
returns-clause-text g c = strategy_put c.args.format (strategy_of c.args.cert.now) _ _ _ _ c.put_head.ensures.text (rw c.deref.ensures.value at c.put_rows.ensures.text) c.put_end.ensures.text

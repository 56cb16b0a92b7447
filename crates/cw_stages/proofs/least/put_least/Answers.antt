-- The parts of a text, one after another.
use Rattle.cw_strategy_text.proofs.Puts.{strategy_put}
use Rattle.cw_stages.proofs.least.put_least.Goals as goal

pub returns-clause-text : goal.returns-clause-text
returns-clause-text g c = strategy_put c.args.format c.args.strategy.now _ _ _ _ (rw c.states.ensures at c.put_head.ensures.text) c.put_rows.ensures.text c.put_end.ensures.text

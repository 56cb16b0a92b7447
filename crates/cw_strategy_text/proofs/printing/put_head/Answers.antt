-- The pieces of a text's head, one after another.
use Rattle.cw_strategy_text.proofs.Puts.{head_put}
use Rattle.cw_strategy_text.proofs.printing.put_head.Goals as goal

pub returns-clause-text : goal.returns-clause-text
returns-clause-text g c = head_put c.args.format c.args.states _ _ _ _ _ _ c.put.ensures.text (rw c.from.ensures at c.put_number.ensures.text) c.put-2.ensures.text
    (rw c.from-2.ensures at c.put_number-2.ensures.text) c.put-3.ensures.text

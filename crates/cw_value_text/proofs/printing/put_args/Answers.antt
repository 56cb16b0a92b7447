use Rattle.cw_value_text.proofs.Puts.{args_put}
use Rattle.cw_value_text.proofs.printing.put_args.Goals as goal

pub returns-in-Some-clause-text : goal.returns-in-Some-clause-text
returns-in-Some-clause-text g c = args_put c.args.source.now c.args.args.now c.in-Some.first.now c.in-Some.others.now _ _ _ c.in-Some.ensures.cases.0 c.put_arg.ensures.text c.put_others.ensures.text

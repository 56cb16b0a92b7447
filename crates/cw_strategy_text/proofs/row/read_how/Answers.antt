use Rattle.cw_strategy_text.proofs.Hows.{no_kind}
use Rattle.cw_strategy_text.proofs.row.read_how.Goals as goal

pub returns-in_default-kind_of : goal.returns-in_default-kind_of
returns-in_default-kind_of c = no_kind c.args.fields.now c.in-Some.field.now c.take.new.self c.in-Some.ensures.some c.in_default-kind_of.ensures

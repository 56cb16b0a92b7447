use Rattle.cw_regex.proofs.Runs.{identifier_at}
use Rattle.cw_regex.proofs.text.front_at.Goals as goal

pub returns-then-is_name_byte : goal.returns-then-is_name_byte
returns-then-is_name_byte c = identifier_at c.args.text.now c.args.at c.identifier_end.result c.identifier_end.ensures.after c.identifier_end.ensures.within c.identifier_end.ensures.identifier c.identifier_end.ensures.stop

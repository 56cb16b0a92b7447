use Rattle.cw_commands.proofs.Lone.{one_argument}
use Rattle.cw_commands.proofs.laws.one_argument_is_no_command.Goals as goal

pub returns : goal.returns
returns c = one_argument

use Rattle.cw_source_laws.proofs.Leaving.{leaves_main}
use Rattle.cw_source_laws.proofs.calls.read_programs_leave_main.Goals as goal

pub returns : goal.returns
returns c = leaves_main

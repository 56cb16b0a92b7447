use Rattle.cw_rights.specs.Policies.{policy_of}
use Rattle.cw_syntax.specs.Trees.{file_of}
use Rattle.cw_resolve.specs.Scenes.{names_of}
use Rattle.cw_source_laws.proofs.Opening.{read_programs_assign}
use Rattle.cw_source.proofs.Runnable.{runnable}
use Rattle.cw_play_tests.proofs.runs.is_run.Goals as goal

pub run_woven-requires-clause-runnable : goal.run_woven-requires-clause-runnable
run_woven-requires-clause-runnable c = runnable (names_of (policy_of c.args.game.now.states.policy)) c.args.checked.now.source.now (file_of c.args.checked.now.program) c.requires.reads

pub run_woven-requires-clause-assigns : goal.run_woven-requires-clause-assigns
run_woven-requires-clause-assigns c = read_programs_assign c.args.checked.now.source.now (file_of c.args.checked.now.program) c.requires.reads

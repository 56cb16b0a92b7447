use Rattle.std.proofs.Common.{map}
use Rattle.cw_rights.specs.Policies.{policy_of}
use Rattle.cw_syntax.specs.Trees.{file_of}
use Rattle.cw_resolve.specs.Scenes.{names_of}
use Rattle.cw_source_laws.proofs.Opening.{read_programs_assign}
use Rattle.cw_procs.specs.Played.{end_of, entry_of}
use Rattle.cw_source.proofs.Runnable.{runnable}
use Rattle.cw_stages.specs.Stops.{told_of}
use Rattle.cw_worlding.proofs.Shown.{world_is_told}
use Rattle.cw_worlding.proofs.worlding.shown.Goals as goal

pub run_world-requires-clause-runnable : goal.run_world-requires-clause-runnable
run_world-requires-clause-runnable g c = runnable (names_of (policy_of c.args.game.now.states.policy)) c.args.checked.now.source.now (file_of c.args.checked.now.program) c.requires.reads

pub run_world-requires-clause-assigns : goal.run_world-requires-clause-assigns
run_world-requires-clause-assigns g c = read_programs_assign c.args.checked.now.source.now (file_of c.args.checked.now.program) c.requires.reads

pub returns-clause-due : goal.returns-clause-due
returns-clause-due g c =
    let source = c.args.checked.now.source.now in
    let file = file_of c.args.checked.now.program in
    let whole = policy_of c.args.game.now.states.policy in
    world_is_told source whole file c.args.table.now (map entry_of c.args.steps.now) (end_of c.in_ok-end.end) c.begin-writer.result.text c.run_world.new.writer.text (told_of c.world_told.result)
    c.begin-writer.ensures.text c.in_ok-end.ensures.world c.world_told.ensures.due

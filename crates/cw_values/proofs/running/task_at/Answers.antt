use Rattle.std.proofs.Common.{◌<◌, length, arith}
use Rattle.cw_starts.specs.Sources.{source_in}
use Rattle.cw_values.proofs.Tasks.{here, past, right}
use Rattle.cw_values.proofs.running.task_at.Goals as goal

pub returns-in-None-clause-row : goal.returns-in-None-clause-row
returns-in-None-clause-row c =
    let h = c.in-None.ensures.lookup in
    past c.args.run.now.known.tasks.now c.args.number (omega (arith, h))

pub returns-in-Some : goal.returns-in-Some
returns-in-Some c =
    let known = c.args.run.now.known in
    let found = c.in-Some.ensures.lookup in
    let within : c.args.number < length known.tasks.now = omega arith in
    record {
      row = here known.tasks.now c.args.number c.in-Some.task.now within found.1;
      task = right known.tasks.now c.args.number c.in-Some.task.now within found.1 (source_in known.source).file.functions c.requires.known.tasks;
    }

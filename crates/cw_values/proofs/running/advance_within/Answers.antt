use Rattle.std.proofs.Common.{Option, Ok, sym, ap, subst}
use Rattle.cw_core.specs.declared.ids.PointId.{PointId}
use Rattle.cw_starts.specs.Sources.{source_in}
use Rattle.cw_values.specs.Stands.{Advances}
use Rattle.cw_values.proofs.Advancing.{front, row_is, err_advances, inner_advances}
use Rattle.cw_values.proofs.running.advance_within.Goals as goal

pub returns-in-Ok : goal.returns-in-Ok
returns-in-Ok c = λ policy g is_run h.
    let run = c.args.run.now in
    let f = front policy run is_run c.args.m.now g c.args.point h in
    let goes = c.in-Ok.ensures.goes f.item f.frames (row_is policy run is_run c.args.m.now g c.args.point h c.args.task.now.row c.requires.row) in
    subst (λ (o : Option PointId). Advances policy (source_in run.known.source) (Ok (record { way = c.in-Ok.way; next = o })) c.step_within.new.m g) (sym c.within.ensures)
    (inner_advances policy run is_run c.args.m.now g c.args.point h c.args.node.now c.args.task.now.row c.requires.node c.requires.row c.requires.inner c.in-Ok.way c.step_within.new.m goes
    (ap (λ w. w.items) c.in-Ok.ensures.waits))

pub returns-in-Err : goal.returns-in-Err
returns-in-Err c = λ policy g is_run h.
    let run = c.args.run.now in
    let f = front policy run is_run c.args.m.now g c.args.point h in
    err_advances policy run is_run c.args.m.now g c.args.point h c.in-Err.halt c.step_within.new.m
    (c.in-Err.ensures.goes f.item f.frames (row_is policy run is_run c.args.m.now g c.args.point h c.args.task.now.row c.requires.row))

use Rattle.std.proofs.Common.{Option, Ok, sym, subst}
use Rattle.cw_core.specs.declared.ids.PointId.{PointId}
use Rattle.cw_deeds.specs.declared.items.Row.TheVariants as row
use Rattle.cw_starts.specs.Sources.{source_in}
use Rattle.cw_values.specs.Stands.{Advances}
use Rattle.cw_values.proofs.Advancing.{front, row_is, err_advances, end_advances, waits_below}
use Rattle.cw_values.proofs.running.advance_back.Goals as goal

pub returns-in-Ok : goal.returns-in-Ok
returns-in-Ok c = λ policy g is_run h.
    let run = c.args.run.now in
    let f = front policy run is_run c.args.m.now g c.args.point h in
    let is_end = row_is policy run is_run c.args.m.now g c.args.point h row.Ends c.requires.row in
    let goes = c.in-Ok.ensures.goes f.item f.frames is_end (waits_below policy run is_run c.args.m.now g c.args.point h) in
    subst (λ (o : Option PointId). Advances policy (source_in run.known.source) (Ok (record { way = c.in-Ok.way; next = o })) c.step_end.new.m g) (sym c.innermost-back.ensures)
    (end_advances policy run is_run c.args.m.now g c.args.point h c.requires.row c.in-Ok.way c.step_end.new.m goes c.in-Ok.ensures.waits)

pub returns-in-Err : goal.returns-in-Err
returns-in-Err c = λ policy g is_run h.
    let run = c.args.run.now in
    let f = front policy run is_run c.args.m.now g c.args.point h in
    let is_end = row_is policy run is_run c.args.m.now g c.args.point h row.Ends c.requires.row in
    err_advances policy run is_run c.args.m.now g c.args.point h c.in-Err.halt c.step_end.new.m
    (c.in-Err.ensures.goes f.item f.frames is_end (waits_below policy run is_run c.args.m.now g c.args.point h))

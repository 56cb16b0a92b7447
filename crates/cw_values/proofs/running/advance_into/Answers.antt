use Rattle.std.proofs.Common.{sym, ◌∙◌}
use Rattle.cw_deeds.specs.declared.items.Row.TheVariants as row
use Rattle.cw_values.proofs.Advancing.{front, row_is, err_advances, call_advances, has_callee}
use Rattle.cw_values.proofs.running.advance_into.Goals as goal

pub returns-in_default-part_of : goal.returns-in_default-part_of
returns-in_default-part_of c = λ policy g is_run h.
    let run = c.args.run.now in
    absurd (has_callee policy run is_run c.args.m.now g c.args.point h c.args.node.now c.args.at c.args.callee c.args.taker c.requires.node c.requires.row
    (sym c.part_of.ensures ∙ c.in_default-part_of.is))

pub returns-in-Ok : goal.returns-in-Ok
returns-in-Ok c = λ policy g is_run h.
    let run = c.args.run.now in
    let f = front policy run is_run c.args.m.now g c.args.point h in
    let is_call = row_is policy run is_run c.args.m.now g c.args.point h (row.Calls c.args.at c.args.callee c.args.taker) c.requires.row in
    call_advances policy run is_run c.args.m.now g c.args.point h c.args.node.now c.args.at c.args.callee c.args.taker c.requires.node c.requires.row c.in-Some.back c.in-Some-part_of.part
    (sym c.successor.ensures ∙ c.in-Some.is) (sym c.part_of.ensures ∙ c.in-Some-part_of.is)
    c.in-Ok.way c.step_call.new.m (c.in-Ok.ensures.goes f.item f.frames is_call) c.in-Ok.ensures.backs c.in-Ok.ensures.waiting

pub returns-in-Err : goal.returns-in-Err
returns-in-Err c = λ policy g is_run h.
    let run = c.args.run.now in
    let f = front policy run is_run c.args.m.now g c.args.point h in
    let is_call = row_is policy run is_run c.args.m.now g c.args.point h (row.Calls c.args.at c.args.callee c.args.taker) c.requires.row in
    err_advances policy run is_run c.args.m.now g c.args.point h c.in-Err.halt c.step_call.new.m (c.in-Err.ensures.goes f.item f.frames is_call)

use Rattle.std.proofs.Common.{◌+◌, arith}
use Rattle.cw_links.proofs.rows.row_in.Goals as goal

pub slice_bounds-result-end : goal.slice_bounds-result-end
slice_bounds-result-end g c =
    let rise = c.requires.flat.rise c.args.number c.requires.within in
    let within = c.requires.flat.within (c.args.number + 1) in
    omega (arith, rise, within)

pub slice_bounds-result-count : goal.slice_bounds-result-count
slice_bounds-result-count g c =
    let rise = c.requires.flat.rise c.args.number c.requires.within in
    let within = c.requires.flat.within (c.args.number + 1) in
    omega (arith, rise, within)

pub slice_bounds-result-start : goal.slice_bounds-result-start
slice_bounds-result-start g c =
    let rise = c.requires.flat.rise c.args.number c.requires.within in
    let within = c.requires.flat.within (c.args.number + 1) in
    omega (arith, rise, within)

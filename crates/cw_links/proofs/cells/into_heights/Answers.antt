use Rattle.std.proofs.Common.{◌<◌, length, get_or, arith}
use Rattle.std.proofs.lemmas.List.{get_or_default}
use Rattle.std.proofs.lemmas.List.Edits.{map_over_more}
use Rattle.cw_links.specs.Cells.{height_in}
use Rattle.cw_links.proofs.cells.into_heights.Goals as goal

pub loop-number-preserved : goal.loop-number-preserved
loop-number-preserved c =
    let numbers = c.loop-number.numbers in
    let i = c.loop-number.number-index in
    let number = get_or numbers i 0 in
    let inside : i < length numbers = omega arith in
    rw c.height_in.ensures (map_over_more height_in c.args.numbers.now numbers i number (omega arith) c.loop-number.invariant (get_or_default numbers i 0 number inside))

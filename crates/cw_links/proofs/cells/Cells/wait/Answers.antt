use Rattle.std.proofs.Common.{◌*◌, set, sym, ap, ◌∙◌}
use Rattle.std.specs.Prelude.{slice_index}
use Rattle.cw_links.specs.Cells.{Celled, height_in, key_in}
use Rattle.cw_links.proofs.CellNumbers.{height_of_even, key_of_even, told_set, told_same}
use Rattle.cw_links.proofs.cells.Cells.wait.Goals as goal

pub returns-clause-heights : goal.returns-clause-heights
returns-clause-heights c =
    let s = c.self.inside in
    let none = ap (λ (k : Celled). slice_index k.heights c.args.cell) c.self.view_is ∙ c.requires.none in
    told_same height_in s.numbers.items c.args.cell (2 * c.args.height) (height_of_even c.args.height ∙ sym none) ∙ ap (λ (k : Celled). k.heights) c.self.view_is

pub returns-clause-asked : goal.returns-clause-asked
returns-clause-asked c =
    let s = c.self.inside in
    told_set key_in s.numbers.items c.args.cell (2 * c.args.height) (2 * c.args.height) (key_of_even c.args.height)
    ∙ ap (λ (k : Celled). set k.asked c.args.cell (2 * c.args.height)) c.self.view_is

use Rattle.std.proofs.Common.{◌*◌, ◌+◌, set, ap, ◌∙◌}
use Rattle.cw_links.specs.Cells.{Celled, height_in, key_in}
use Rattle.cw_links.proofs.CellNumbers.{height_of_odd, key_of_odd, told_set}
use Rattle.cw_links.proofs.cells.Cells.take.Goals as goal

pub returns-clause-heights : goal.returns-clause-heights
returns-clause-heights c =
    let s = c.self.inside in
    told_set height_in s.numbers.items c.args.cell (2 * c.args.height + 1) c.args.height (height_of_odd c.args.height)
    ∙ ap (λ (k : Celled). set k.heights c.args.cell c.args.height) c.self.view_is

pub returns-clause-asked : goal.returns-clause-asked
returns-clause-asked c =
    let s = c.self.inside in
    told_set key_in s.numbers.items c.args.cell (2 * c.args.height + 1) 0 (key_of_odd c.args.height) ∙ ap (λ (k : Celled). set k.asked c.args.cell 0) c.self.view_is

use Rattle.std.proofs.Common.{◌≤◌, ◌∙◌, arith}
use Rattle.cw_io.proofs.Following.{text_on}
use Rattle.cw_io.proofs.writer.Writer.put_in_fronts.Goals as goal

pub fronts-preserved : goal.fronts-preserved
fronts-preserved g c =
    let test = c.fronts-test.true in
    let is = c.min-end.ensures in
    let up : c.fronts.at ≤ c.min-end.result = omega (arith, test, is) in (
      omega (arith, test, is),
      c.fill.ensures.text ∙ text_on c.args.self.now.text c.fronts.self.text c.args.piece.now c.fronts.at c.min-end.result up c.fronts.invariant.1,
      c.fill.ensures.begun ∙ c.fronts.invariant.2,
      c.fill.ensures.follows,
    )

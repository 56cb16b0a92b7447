use Rattle.std.proofs.Common.{◌≡◌, take, arith, rules}
use Rattle.cw_boards.specs.Held.{seams_before}
use Rattle.cw_boards.specs.Numbered.{capped}
use Rattle.cw_boards.proofs.Below.{whole, some_fit}
use Rattle.cw_boards.proofs.steps.entry_seam.Goals as goal

pub returns : goal.returns
returns c =
    let s = c.args.scene.now in
    let fs = c.args.functions.now in
    let counted : c.seams_before.result ≡ capped (seams_before s (take c.args.number fs)) = search rules in
    whole c.seams_before.result (seams_before s (take c.args.number fs)) counted (omega (arith, some_fit s fs c.args.number, c.requires.few))

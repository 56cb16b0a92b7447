use Rattle.std.proofs.Common.{List, ℕ, ◌++◌, sym, ap, ◌∙◌}
use Rattle.std.specs.Fmt.{decimal}
use Rattle.cw_woven.proofs.Fields.{same_middle}
use Rattle.cw_woven.proofs.spelling.is_of_seam.Goals as goal

pub returns-in-Some : goal.returns-in-Some
returns-in-Some c =
    let front = c.args.front.now in
    let back = c.args.back.now in
    let is = c.in-Some.ensures.some in (
      λ t. is ∙ ap (λ (l : List ℕ). front ++ (l ++ back)) (c.is_decimal.ensures.0 t),
      λ h. c.is_decimal.ensures.1 (same_middle front c.in-Some.number.now (decimal c.args.seam) back (sym is ∙ h)),
    )

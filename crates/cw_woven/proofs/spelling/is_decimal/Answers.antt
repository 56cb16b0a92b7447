use Rattle.std.proofs.Common.{◌≡◌, ◌≤◌, sym, ap, ◌∙◌, arith, eqb-true, eq-eqb}
use Rattle.std.specs.Fmt.{decimal}
use Rattle.std.proofs.lemmas.Fmt.{decimal_injective}
use Rattle.cw_woven.proofs.spelling.is_decimal.Goals as goal

pub returns-in-Some : goal.returns-in-Some
returns-in-Some c =
    let found = c.in-Some.found in
    let most = c.in-Some.ensures.some.0 in
    let is = c.from.ensures in (
      λ t. sym c.in-Some.ensures.some.1 ∙ ap decimal (eqb-true found c.from-in-Some.result t ∙ c.from-in-Some.ensures),
      λ h. eq-eqb found c.from-in-Some.result (decimal_injective found c.args.number (omega (arith, most, is)) (omega arith) (c.in-Some.ensures.some.1 ∙ h) ∙ sym c.from-in-Some.ensures),
    )

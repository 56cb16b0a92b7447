use Rattle.std.proofs.Common.{arith, length, ap, refl}
use Rattle.cw_core.proofs.SetTexts.{spelling_some}
use Rattle.cw_core.proofs.reading_ranges.read_ranges.Goals as goal

pub returns-clause-within : goal.returns-clause-within
returns-clause-within c =
    let some = spelling_some c.in_ok-set.set c.fact_members_are_below_1024.ensures.below in
    let e = ap length (c.if-not-is_spelled.ensures.spelled.0 refl) in
    (omega (arith, some, e), omega (arith, c.leading_spelling-spelling.ensures.within, c.text_from.ensures.length))

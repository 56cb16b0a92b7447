use Rattle.std.proofs.Common.{arith, refl}
use Rattle.std.proofs.lemmas.Fmt.{length-decimal-le}
use Rattle.itoa.proofs.Decimal.{length_four}
use Rattle.cw_core.proofs.line.decimal_length.Goals as goal

pub fours-preserved : goal.fours-preserved
fours-preserved c =
    let long = length_four c.fours.left c.fours-test.true c.fours.auto.left-fits.fits in
    let most = length-decimal-le 20 c.args.n (omega arith) (omega arith) (omega arith) in
    let so_far = c.fours.invariant.sum in
    record { sum = omega (arith, long, so_far); few = omega (arith, long, so_far, most) }

pub returns-clause-few : goal.returns-clause-few
returns-clause-few c =
    let most = length-decimal-le 20 c.args.n (omega arith) (omega arith) (omega arith) in
    omega (arith, c.fours.invariant.sum, c.short_length.ensures.length, most)

pub returns-clause-length : goal.returns-clause-length
returns-clause-length c = omega (arith, c.fours.invariant.sum, c.short_length.ensures.length)

use Rattle.std.proofs.Common.{sym, arith, ◌/◌}
use Rattle.itoa.proofs.Decimal.{length_one, length_two, length_pair}
use Rattle.cw_core.proofs.line.short_length.Goals as goal

pub returns-then-n-lt10-clause-length : goal.returns-then-n-lt10-clause-length
returns-then-n-lt10-clause-length c = sym (length_one c.args.n c.if-n-lt10.true)

pub returns-then-n-lt100-clause-length : goal.returns-then-n-lt100-clause-length
returns-then-n-lt100-clause-length c = sym (length_two c.args.n c.if-n-lt10.false c.if-n-lt100.true)

pub returns-then-n-lt1000-clause-length : goal.returns-then-n-lt1000-clause-length
returns-then-n-lt1000-clause-length c =
    let low = c.if-n-lt100.false in
    let high = c.if-n-lt1000.true in
    omega (arith, length_pair c.args.n low (omega (arith, high)), length_one (c.args.n / 100) (omega (arith, high)))

pub returns-else-n-lt1000-clause-length : goal.returns-else-n-lt1000-clause-length
returns-else-n-lt1000-clause-length c =
    let low = c.if-n-lt1000.false in
    let high = c.requires.below in
    omega (arith, length_pair c.args.n (omega (arith, low)) (omega (arith, high)), length_two (c.args.n / 100) (omega (arith, low)) (omega (arith, high)))

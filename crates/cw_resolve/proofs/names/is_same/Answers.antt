use Rattle.std.proofs.Common.{arith}
use Rattle.cw_resolve.proofs.Alike.{alike}
use Rattle.cw_resolve.proofs.names.is_same.Goals as goal

pub returns : goal.returns
returns c =
    let all = c.bytes-test.false in
    alike c.args.name.now c.args.other.now c.bytes.invariant.many (λ k l. c.bytes.invariant.same k (omega (arith, all)) l)

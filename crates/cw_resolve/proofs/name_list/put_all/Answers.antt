use Rattle.std.proofs.Common.{◌≡◌, ◌+◌, ◌-◌, ◌<◌, length, arith}
use Rattle.cw_resolve.proofs.Numbered.{have_numbers, one_more}
use Rattle.cw_resolve.proofs.name_list.put_all.Goals as goal

pub loop-at-preserved : goal.loop-at-preserved
loop-at-preserved c =
    let short : c.loop-at.at - 1 < length c.args.names.now = omega (arith, c.loop-at.invariant.0, c.loop-at-test.true) in
    let next : c.loop-at.at - 1 + 1 ≡ c.loop-at.at = omega (arith, c.loop-at-test.true) in (
      omega (arith, short),
      one_more c.args.names.now (c.loop-at.at - 1) _ c.loop-at.numbers.entries c.insert.new.self.entries short c.in_ok-insert.ensures.updates.0
          (rw next c.loop-at.invariant.1),
    )

pub returns : goal.returns
returns c = have_numbers c.loop-at.numbers.entries c.args.names.now c.loop-at.at (omega (arith, c.loop-at-test.false)) c.loop-at.invariant.1

use Rattle.std.proofs.Common.{◌≡◌, ◌+◌, ◌-◌, ◌<◌, length, arith, sym}
use Rattle.cw_scope.proofs.Firsts.{one_more}
use Rattle.cw_scope.proofs.functions.by_name.Goals as goal

pub loop-at-preserved : goal.loop-at-preserved
loop-at-preserved c =
    let short : c.loop-at.at - 1 < length c.args.functions.now = omega (arith, c.loop-at.invariant.0, c.loop-at-test.true) in
    let next : c.loop-at.at - 1 + 1 ≡ c.loop-at.at = omega (arith, c.loop-at-test.true) in (
      omega (arith, short),
      one_more c.args.source.now _ c.args.functions.now (c.loop-at.at - 1) c.text.result c.loop-at.held.entries c.insert.new.self.entries short
          (sym c.index-functions-at.is) c.text.ensures.bytes c.in_ok-insert.ensures.updates.0 (rw next c.loop-at.invariant.1),
    )

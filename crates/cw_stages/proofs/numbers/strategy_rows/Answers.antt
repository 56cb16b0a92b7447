use Rattle.std.proofs.Common.{arith, add-one}
use Rattle.cw_certs.specs.Strategies.{Row, how_of}
use Rattle.cw_stages.proofs.Rowed.{one_more}
use Rattle.cw_stages.proofs.numbers.strategy_rows.Goals as goal

pub loop-number-preserved : goal.loop-number-preserved
loop-number-preserved c =
    let row : Row = record { pos = c.row.result.pos.0; state = c.row.result.state.0; aim = c.row.result.aim.now; how = how_of c.row.result.how.now } in
    let more = one_more c.args.strategy.now.rows c.loop-number.number row c.row.ensures in
    let so_far = c.loop-number.invariant.rows in
    let backs = c.backs_in-rows.ensures in
    record { rows = rw add-one (omega (arith, more, so_far, backs)) }

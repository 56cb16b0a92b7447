use Rattle.std.proofs.Common.{◌≢◌, length, ap, sym, arith}
use Rattle.cw_resolve.specs.Acts.{act_of}
use Rattle.cw_resolve.proofs.Acting.{closes_none}
use Rattle.cw_resolve.proofs.actions.closed_by.Goals as goal

pub returns-in_default-3 : goal.returns-in_default-3
returns-in_default-3 c =
    let n : length c.args.arguments.now ≢ 1 = λ e. absurd (omega arith) in
    sym (ap act_of (closes_none c.args.scene.now c.args.name.now c.args.arguments.now n))

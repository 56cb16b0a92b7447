use Rattle.std.proofs.Common.{◌≤◌, length, sym, arith}
use Rattle.cw_scope.proofs.Starting.{long_start}
use Rattle.cw_scope.proofs.entries.is_start.Goals as goal

pub returns-in-len2-up : goal.returns-in-len2-up
returns-in-len2-up c =
    let n : 2 ≤ length c.args.init.now = omega arith in
    sym (long_start c.args.braces c.args.init.now n)

use Rattle.std.proofs.Common.{rules, ◌≢◌, length}
use Rattle.cw_regex.proofs.Joining.{cat_joined}
use Rattle.cw_regex.proofs.build.sequence.Goals as goal

pub returns-then-len-ne1 : goal.returns-then-len-ne1
returns-then-len-ne1 c =
    let more : length c.args.factors.items ≢ 1 = search rules in
    cat_joined c.args.factors more

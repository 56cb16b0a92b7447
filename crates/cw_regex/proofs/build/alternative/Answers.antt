use Rattle.std.proofs.Common.{rules, ◌≢◌, length}
use Rattle.cw_regex.proofs.Joining.{or_joined}
use Rattle.cw_regex.proofs.build.alternative.Goals as goal

pub returns-then-len-ne1 : goal.returns-then-len-ne1
returns-then-len-ne1 c =
    let more : length c.args.terms.items ≢ 1 = search rules in
    or_joined c.args.terms more

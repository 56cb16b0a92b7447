use Rattle.std.proofs.Common.{◌≤◌, arith}
use Rattle.cw_regex.proofs.Depth.{shallow, deep}
use Rattle.cw_regex.proofs.read.sound.Goals as goal

pub returns-then-most-gt64-clause-fault : goal.returns-then-most-gt64-clause-fault
returns-then-most-gt64-clause-fault c = (c.in-Ok.ensures.ok, deep c.args.text.now c.in-Ok.most c.in-Ok.ensures.most c.if-most-gt64.true)

pub all_known-requires-clause-shallow : goal.all_known-requires-clause-shallow
all_known-requires-clause-shallow c =
    let few : c.in-Ok.most ≤ 64 = grind (arith) in
    shallow c.args.text.now c.in-Ok.most c.in-Ok.ensures.most few

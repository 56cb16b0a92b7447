use Rattle.std.proofs.Common.{arith}
use Rattle.cw_links.proofs.Nearing.{takes_now}
use Rattle.cw_links.proofs.nearest.take_now.Goals as goal

pub returns-in-None-clause-some : goal.returns-in-None-clause-some
returns-in-None-clause-some c = omega (arith, c.in-None.ensures.cases.0, c.args.near.now.present.ok.0, c.requires.some)

pub returns-in-Some-clause-kept : goal.returns-in-Some-clause-kept
returns-in-Some-clause-kept c = record { some = λ _. c.requires.kept.some c.requires.some; behind = c.requires.kept.behind; above = c.requires.kept.above }

pub returns-in-Some-clause-taken : goal.returns-in-Some-clause-taken
returns-in-Some-clause-taken c =
    let n = c.args.near.now in
    takes_now n.present.items n.present_key n.soon.items n.soon_key c.args.later.now c.pop.new.self.items c.in-Some.element c.requires.kept.behind c.in-Some.ensures.items
    (c.requires.kept.some c.requires.some)
    (λ k lt. c.requires.kept.above k (omega (arith, lt, c.requires.least)))

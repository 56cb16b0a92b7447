use Rattle.std.proofs.Common.{rules, ◌≡◌, true}
use Rattle.std.specs.BTreeSet.{contains}
use Rattle.cw_fixpoint.proofs.Keys.{see_new, adds_none}
use Rattle.cw_fixpoint.proofs.sees.see.Goals as goal

pub returns-in_ok-push-clause-same : goal.returns-in_ok-push-clause-same
returns-in_ok-push-clause-same g c =
    let k = see_new g.K.Ord.cmp g.met.K.Ord.total c.requires.exact c.args.seen.now.items c.args.set.now c.insert.new.self c.args.key c.requires.seen c.in_ok-insert.ensures.updates
    (search rules) c.in_ok-insert.ensures.ordered in
    rw c.in_ok-push.ensures.items k

pub returns-else-branch-clause-more : goal.returns-else-branch-clause-more
returns-else-branch-clause-more g c =
    let e : contains g.K.Ord.cmp c.args.set.now c.args.key ≡ true = search rules in
    adds_none g.K.Ord.cmp g.met.K.Ord.total c.requires.exact c.args.seen.now.items c.args.set.now c.args.key c.requires.seen e

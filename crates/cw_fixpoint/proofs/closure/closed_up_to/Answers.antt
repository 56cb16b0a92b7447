use Rattle.std.proofs.Common.{rules, ◌<◌, ◌≤◌, length}
use Rattle.cw_fixpoint.proofs.Reach.{reached_many, searched_all}
use Rattle.cw_fixpoint.proofs.closure.closed_up_to.Goals as goal

pub returns-then-most-len-clause-many : goal.returns-then-most-len-clause-many
returns-then-most-len-clause-many g c =
    let s = c.in_ok-search.ensures.searched in
    let l : c.args.most < length c.search.new.seen.items = search rules in
    reached_many g.K.Ord.cmp (g.S.Steps.after c.args.steps.now) c.args.starts.now c.search.new.seen.items c.search.new.set.keys s.passed c.args.most s.so_far l

pub returns-clause-reached : goal.returns-clause-reached
returns-clause-reached g c =
    let l : length c.search.new.seen.items ≤ c.args.most = search rules in
    searched_all g.K.Ord.cmp (g.S.Steps.after c.args.steps.now) c.args.starts.now c.search.new.seen.items c.search.new.set.keys c.args.most c.in_ok-keys.keys.items
    c.in_ok-search.ensures.searched l c.in_ok-keys.ensures.items c.in_ok-keys.ensures.order

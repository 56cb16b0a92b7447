use Rattle.std.proofs.Common.{rules, ◌+◌, ◌<◌, ◌≤◌, length, arith, ⊎_elim}
use Rattle.cw_joins.specs.Members.{pair_cmp}
use Rattle.cw_joins.proofs.Ending.{members_of, pairs_of, more_than}
use Rattle.cw_joins.proofs.Orders.{pair_total, pair_exact}
use Rattle.cw_joins.proofs.Hints.{as_many}
use Rattle.cw_joins.proofs.joined.joined_up_to.Goals as goal

pub returns-then-are_more-clause-many : goal.returns-then-are_more-clause-many
returns-then-are_more-clause-many g c =
    let s = c.in_ok-search.ensures.searched in
    let t = c.in_ok-search.search in
    let more : c.args.most < length t.seen.keys.items + length t.pairs.keys.items = search rules in
    more_than (g.J.Joins.rules c.args.joins.now) c.args.start t.seen.keys.items t.pairs.keys.items s.so_far.wait s.so_far.end s.passed s.so_far.reached g.K.Ord.cmp
    g.met.K.Ord.total c.requires.exact s.so_far.keys.once s.so_far.pairs.once c.args.most more

pub in_order-requires-clause-seen : goal.in_order-requires-clause-seen
in_order-requires-clause-seen g c = (g.I.Indices.index c.args.indices.now, c.in_ok-search.ensures.searched.so_far.keys)

pub returns-clause-members : goal.returns-clause-members
returns-clause-members g c =
    let s = c.in_ok-search.ensures.searched in
    let t = c.in_ok-search.search in
    let few : length t.seen.keys.items + length t.pairs.keys.items ≤ c.args.most = search rules in
    let all : length t.seen.keys.items ≤ s.passed = ⊎_elim (λ l. l) (λ m. absurd (omega (arith, m, few))) s.done in
    members_of (g.J.Joins.rules c.args.joins.now) c.args.start t.seen.keys.items t.pairs.keys.items s.so_far.wait s.so_far.end s.passed s.so_far.reached g.K.Ord.cmp
    all c.in_ok-members.members.items c.in_ok-members.ensures

pub returns-clause-pairs : goal.returns-clause-pairs
returns-clause-pairs g c =
    let s = c.in_ok-search.ensures.searched in
    let t = c.in_ok-search.search in
    let few : length t.seen.keys.items + length t.pairs.keys.items ≤ c.args.most = search rules in
    let all : length t.seen.keys.items ≤ s.passed = ⊎_elim (λ l. l) (λ m. absurd (omega (arith, m, few))) s.done in
    pairs_of (g.J.Joins.rules c.args.joins.now) c.args.start t.seen.keys.items t.pairs.keys.items s.so_far.wait s.so_far.end s.passed s.so_far.reached g.K.Ord.cmp
    all c.in_ok-pairs.pairs.items c.in_ok-pairs.ensures

pub returns-clause-few : goal.returns-clause-few
returns-clause-few g c =
    let s = c.in_ok-search.ensures.searched.so_far in
    let t = c.in_ok-search.search in
    let few : length t.seen.keys.items + length t.pairs.keys.items ≤ c.args.most = search rules in
    let a = as_many g.K.Ord.cmp g.met.K.Ord.total c.requires.exact t.seen.keys.items c.in_ok-members.members.items s.keys.once c.in_ok-members.ensures in
    let b = as_many (pair_cmp g.K.Ord.cmp) (pair_total g.K.Ord.cmp g.met.K.Ord.total) (pair_exact g.K.Ord.cmp c.requires.exact) t.pairs.keys.items c.in_ok-pairs.pairs.items s.pairs.once
    c.in_ok-pairs.ensures in
    omega (arith, few, a, b)

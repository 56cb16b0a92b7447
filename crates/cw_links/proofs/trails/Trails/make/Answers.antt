use Rattle.std.proofs.Common.{arith}
use Rattle.cw_links.proofs.Trailing.{made_trails, made_lists}
use Rattle.cw_links.proofs.trails.Trails.make.Goals as goal

pub invariant_of-result : goal.invariant_of-result
invariant_of-result g c =
    made_trails (λ x. x.after) c.in_ok-first.first.items c.new.result.items c.args.lists (omega arith) (c.in_ok-first.ensures.items_if_clones_equal (λ y e. e)) c.new.ensures.items

pub returns-clause-lists : goal.returns-clause-lists
returns-clause-lists g c =
    made_lists (λ x. x.after) c.in_ok-first.first.items c.new.result.items c.args.lists (omega arith) (c.in_ok-first.ensures.items_if_clones_equal (λ y e. e)) c.new.ensures.items

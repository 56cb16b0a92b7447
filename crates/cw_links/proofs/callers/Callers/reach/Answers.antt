use Rattle.std.proofs.Common.{◌≤◌, ◌*◌, refl, arith}
use Rattle.cw_links.proofs.Linking.{same_linked, longer_linked}
use Rattle.cw_links.proofs.callers.Callers.reach.Goals as goal

pub invariant_of-self : goal.invariant_of-self
invariant_of-self c =
    let s = c.self.inside in
    same_linked s.chains c.reach.new.self s.to.items s.to.items s.lists c.self.invariant refl c.in_err-reach.ensures.refused c.in_err-reach.ensures.values

pub invariant_of-self-2 : goal.invariant_of-self-2
invariant_of-self-2 c =
    let s = c.self.inside in
    let more : s.lists ≤ 2 * c.args.lists = omega (arith, c.if-lists-self.false) in
    longer_linked s.chains c.reach.new.self s.to.items s.lists (2 * c.args.lists) c.self.invariant more c.in_ok-reach.ensures.lists c.in_ok-reach.ensures.values

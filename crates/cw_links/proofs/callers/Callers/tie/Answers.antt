use Rattle.std.proofs.Common.{◌<◌, length, ap, arith}
use Rattle.cw_links.specs.Callers.{Calling}
use Rattle.cw_links.proofs.Linking.{moved_linked}
use Rattle.cw_links.proofs.callers.Callers.tie.Goals as goal

pub invariant_of-self : goal.invariant_of-self
invariant_of-self c =
    let s = c.self.inside in
    let to = ap (λ (v : Calling). length v.to) c.self.view_is in
    let lists = ap (λ (v : Calling). length v.lists) c.self.view_is in
    let link : c.args.link < length s.to.items = omega (arith, to, c.requires.link) in
    let list : c.args.list < s.lists = omega (arith, lists, c.requires.list, c.self.invariant.linked.long) in
    moved_linked s.chains c.move_to.new.self s.to.items s.lists c.args.link c.args.list c.self.invariant link list c.move_to.ensures.lists c.move_to.ensures.values

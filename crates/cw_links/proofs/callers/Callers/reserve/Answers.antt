use Rattle.cw_links.proofs.Linking.{same_linked}
use Rattle.cw_links.proofs.callers.Callers.reserve.Goals as goal

pub invariant_of-self-in_err-reserve-2 : goal.invariant_of-self-in_err-reserve-2
invariant_of-self-in_err-reserve-2 c =
    let s = c.self.inside in
    same_linked s.chains c.reserve-2.new.self s.to.items c.reserve.new.self.items s.lists c.self.invariant c.in_ok-reserve.ensures.items c.reserve-2.ensures.lists c.reserve-2.ensures.values

pub invariant_of-self-2 : goal.invariant_of-self-2
invariant_of-self-2 c =
    let s = c.self.inside in
    same_linked s.chains c.reserve-2.new.self s.to.items c.reserve.new.self.items s.lists c.self.invariant c.in_ok-reserve.ensures.items c.reserve-2.ensures.lists c.reserve-2.ensures.values

use Rattle.std.proofs.Common.{◌≡◌, ◌<◌, ◌++◌, ◌∷◌, [], ℕ, List, length, sym, ap, subst, arith, rules}
use Rattle.cw_links.specs.Callers.{Calling, AreLinked}
use Rattle.cw_links.proofs.Linking.{pushed_linked}
use Rattle.cw_links.proofs.callers.Callers.push.Goals as goal

pub invariant_of-self : goal.invariant_of-self
invariant_of-self c =
    let s = c.self.inside in
    let view = ap (λ (v : Calling). length v.to) c.self.view_is in
    let few : length s.to.items < 4194304 = omega (arith, view, c.requires.few) in
    let items : c.push.new.self.items ≡ s.to.items ++ 0 ∷ [] = search rules in
    subst (λ (ts : List ℕ). AreLinked ts c.push_in.new.chains s.lists) (sym items)
    (pushed_linked s.chains c.push_in.new.chains s.to.items s.lists c.self.invariant few c.push_in.ensures.lists c.push_in.ensures.values)

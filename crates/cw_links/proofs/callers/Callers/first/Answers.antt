use Rattle.std.proofs.Common.{ℕ, ◌<◌, List, length, ap, subst}
use Rattle.std.specs.Prelude.{slice_index, Contains}
use Rattle.cw_links.specs.Lists.{list_at}
use Rattle.cw_links.specs.Callers.{Calling}
use Rattle.cw_links.proofs.callers.Callers.first.Goals as goal

pub returns-clause-there : goal.returns-clause-there
returns-clause-there c =
    let s = c.self.inside in
    let to = ap (λ (v : Calling). v.to) c.self.view_is in
    let lists = ap (λ (v : Calling). v.lists) c.self.view_is in
    subst (λ (ls : List (List ℕ)). (k : ℕ) → k < length c.args.self.now.to → Contains (list_at ls (slice_index c.args.self.now.to k)) k) lists
    (subst (λ (ts : List ℕ). (k : ℕ) → k < length ts → Contains (list_at s.chains.lists (slice_index ts k)) k) to c.self.invariant.linked.there)

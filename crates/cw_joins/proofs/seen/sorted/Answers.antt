use Rattle.std.proofs.lemmas.List.Sorted.{IsPermutation-sym, Contains-permutation}
use Rattle.cw_joins.proofs.seen.sorted.Goals as goal

pub returns : goal.returns
returns g c =
    let old = c.args.seen.keys.items in
    let new = c.sort.new.self.items in
    let p = c.sort.ensures.permutation in
    let e = c.in_ok-found.ensures in
    (e.0, λ x. (λ i. Contains-permutation new old x (IsPermutation-sym old new p) ((e.1 x).0 i), λ i. (e.1 x).1 (Contains-permutation old new x p i)))

use Rattle.std.proofs.lemmas.List.Sorted.{IsNonDecreasingBy-from_sort}
use Rattle.cw_callgraph.specs.Finding.{next_in}
use Rattle.cw_callgraph.proofs.Walked.{in_order, below_in_order}
use Rattle.cw_callgraph.proofs.reach.reach.Goals as goal

pub returns-clause-reach : goal.returns-clause-reach
returns-clause-reach c =
    let found = c.in_ok-found.found.numbers.items in
    let sorted = c.sort_unstable.new.self.items in
    in_order (next_in c.args.calls.now.rows.items) c.args.function found sorted c.in_ok-found.ensures.sound.apart c.in_ok-found.ensures.reached c.sort_unstable.ensures.permutation
    (IsNonDecreasingBy-from_sort (λ x. x) sorted c.sort_unstable.ensures.sorted)

pub returns-clause-within : goal.returns-clause-within
returns-clause-within c = below_in_order _ c.in_ok-found.found.numbers.items c.sort_unstable.new.self.items c.in_ok-found.ensures.within c.sort_unstable.ensures.permutation

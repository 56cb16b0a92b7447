use Rattle.std.proofs.Common.{◌<◌, length, get_or, arith}
use Rattle.std.proofs.lemmas.List.{get_or_default}
use Rattle.cw_callgraph.proofs.Kept.{below_at}
use Rattle.cw_callgraph.proofs.found.find_all.Goals as goal

pub find-requires-clause-within : goal.find-requires-clause-within
find-requires-clause-within c =
    let numbers = c.args.numbers.now in
    let i = c.loop-number.number-index in
    let lt : i < length numbers = c.loop-number-test.true in
    let below = below_at (length c.args.found.now.flags.items) numbers i (get_or numbers i 0) c.requires.within lt (get_or_default numbers i 0 (get_or numbers i 0) lt) in
    omega (arith, below, c.loop-number.invariant.wide)

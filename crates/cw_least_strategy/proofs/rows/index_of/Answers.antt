use Rattle.std.proofs.Common.{sym, arith}
use Rattle.std.proofs.lemmas.Option.{slice_get_within}
use Rattle.cw_fixpoint.proofs.Numbers.{number_at}
use Rattle.cw_least_strategy.specs.Small.{small_cmp}
use Rattle.cw_least_strategy.proofs.Small.{small_exact, small_total}
use Rattle.cw_least_strategy.proofs.rows.index_of.Goals as goal

pub returns-then-stands_at-clause-is : goal.returns-then-stands_at-clause-is
returns-then-stands_at-clause-is c =
    sym (number_at small_cmp small_total small_exact c.args.keys.now _ c.args.wanted.now c.requires.order (c.stands_at.ensures c.if-stands_at.true))

pub returns-then-stands_at-clause-within : goal.returns-then-stands_at-clause-within
returns-then-stands_at-clause-within c =
    let within = slice_get_within c.args.keys.now _ c.args.wanted.now (c.stands_at.ensures c.if-stands_at.true) in
    omega (arith, within)

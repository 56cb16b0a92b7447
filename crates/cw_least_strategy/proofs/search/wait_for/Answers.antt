use Rattle.std.proofs.Common.{◌<◌, ◌≤◌, ◌≡◌, ◌++◌, ◌∷◌, [], length, take, subst, sym, ◌+◌, arith}
use Rattle.std.specs.Prelude.{get_or}
use Rattle.std.proofs.lemmas.List.{take_more, take_all}
use Rattle.cw_least_strategy.specs.Descents.{Joins}
use Rattle.cw_least_strategy.proofs.Descending.{joins_push}
use Rattle.cw_least_strategy.specs.declared.key.SmallKey.{SmallKey}
use Rattle.cw_least_strategy.specs.Small.{small_cmp}
use Rattle.cw_least_strategy.proofs.Small.{small_exact, small_total}
use Rattle.cw_least_strategy.proofs.search.wait_for.Goals as goal

pub loop-key-preserved : goal.loop-key-preserved
loop-key-preserved c =
    let i = c.loop-key.key-index in
    let keys = c.args.keys.now in
    let key : SmallKey = get_or keys i (record { height = 0; pos = 0; state = 0; aim = 0 }) in
    let lt : i < length keys = c.loop-key-test.true in
    let all : take (i + 1) keys ≡ take i keys ++ key ∷ [] = take_more keys i (record { height = 0; pos = 0; state = 0; aim = 0 }) lt in
    let old = c.args.waiting.now.keys in
    subst (λ l. Joins old l c.insert.new.self.keys) (sym all)
    (joins_push small_cmp small_total small_exact old (take i keys) c.loop-key.waiting c.insert.new.self key c.loop-key.invariant c.in_ok-insert.ensures.updates)

pub returns : goal.returns
returns c =
    let le : length c.args.keys.now ≤ c.loop-key.key-index = omega (arith, c.loop-key-test.false) in
    subst (λ l. Joins c.args.waiting.now.keys l c.loop-key.waiting.keys) (take_all c.loop-key.key-index c.args.keys.now le) c.loop-key.invariant

use Rattle.std.proofs.Common.{◌≡◌, map, take}
use Rattle.cw_least_strategy.specs.Small.{wholes}
use Rattle.cw_least_strategy.specs.Strategies.{number}
use Rattle.cw_least_strategy.proofs.rows.numbered.Given as goal

abbrev pub invariant-loop-back : goal.invariant-loop-back
invariant-loop-back l = l.numbers.items ≡ map (λ b. (b.0, number (wholes l.aims l.keys) b.1)) (take l.back-index l.backs)

use Rattle.std.proofs.Common.{ℕ, ap, sym}
use Rattle.cw_least_strategy.specs.declared.key.SmallKey.{SmallKey}
use Rattle.cw_least_strategy.proofs.heights.Lower.small.Goals as goal

pub returns : goal.returns
returns c =
    let to = c.args.self in
    ap (λ (n : ℕ). let k : SmallKey = record { height = to.height; pos = to.pos.0; state = to.state.0; aim = n } in k) (sym c.requires.number)

use Rattle.std.proofs.Common.{ℕ, ◌*◌, ◌/◌, ap, ◌∙◌}
use Rattle.cw_linked.proofs.Dividing.{quotient}
use Rattle.cw_linked.proofs.divisor.Divisor.quotient.Goals as goal

pub returns : goal.returns
returns c =
    ap (λ (n : ℕ). n * c.self.inside.inverse / 4398046511104) c.from.ensures
    ∙ quotient c.self.inside.by c.self.inside.inverse c.args.row c.self.invariant c.requires
    ∙ ap (λ (n : ℕ). c.args.row / n) c.self.view_is

use Rattle.std.proofs.Common.{◌≤◌, ℕ, List, length, sym, subst, arith}
use Rattle.cw_sample.proofs.Short.{source_short}
use Rattle.cw_sample.proofs.sample.make_sample.Goals as goal

pub returns-clause-short : goal.returns-clause-short
returns-clause-short c =
    subst (λ (text : List ℕ). length text ≤ 262144) (sym c.in_ok-source.ensures) (source_short c.args.n (omega (arith, c.if-n-gt400.false)))

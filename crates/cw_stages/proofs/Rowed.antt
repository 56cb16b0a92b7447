-- The rows of a strategy, counted one by one.
use Rattle.std.proofs.Common.{◌≡◌, ℕ, zero, suc, ◌+◌, List, [], ◌∷◌, Some, take, ap, arith}
use Rattle.std.specs.Prelude.{slice_get, sum_by}
use Rattle.std.proofs.lemmas.List.Sums.{sum_by-cons}
use Rattle.std.proofs.lemmas.Option.{same_Some, none-some}
use Rattle.cw_certs.specs.Strategies.{Row}
use Rattle.cw_least_strategy.specs.Strategies.{backs_in}

abbrev pub backs : Row → ℕ
backs r = backs_in r.how

-- the backs of one row more
pub one_more : (rows : List Row) (i : ℕ) (r : Row) → slice_get rows i ≡ Some r → sum_by backs (take (suc i) rows) ≡ sum_by backs (take i rows) + backs r
one_more [] i r at = absurd (none-some r at)
one_more (x ∷ rows) zero r at =
    let a = sum_by-cons backs x [] in
    let b : backs x ≡ backs r = ap backs (same_Some x r at) in
    omega (arith, a, b)
one_more (x ∷ rows) (suc i) r at =
    let a = sum_by-cons backs x (take (suc i) rows) in
    let b = sum_by-cons backs x (take i rows) in
    let h = one_more rows i r at in
    omega (arith, a, b, h)

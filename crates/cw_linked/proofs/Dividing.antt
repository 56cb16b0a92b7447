-- A quotient by a product with an inverse.
use Rattle.std.proofs.Common.{◌≡◌, ℕ, ◌+◌, ◌-◌, ◌*◌, ◌/◌, ◌<◌, ◌≤◌, sym, ap, ◌∙◌, arith, inl, inr}
use Rattle.std.proofs.Math.Nat.{mul-le-mul_left}
use Rattle.std.proofs.lemmas.Bool.{cases_lt}
use Rattle.std.proofs.lemmas.Nat.{div-add-mod', div-mul-add, mod_below, mul-le}
use Rattle.cw_linked.specs.Runs.{IsDivisor}

module _ (by inverse row : ℕ) (is : IsDivisor by inverse) (small : row < 4194304) where
  -- the inverse times the number is above 2^42, by no more than the number
  over : (4398046511104 ≤ inverse * by) × (inverse * by ≤ 4398046511104 + by)
  over =
      let whole = div-add-mod' 4398046511104 by in
      let rest = mod_below 4398046511104 by is.some in
      let product : inverse * by ≡ 4398046511104 / by * by + by = ap (λ (i : ℕ). i * by) is.is ∙ omega arith in
      (omega (arith, whole, rest, product), omega (arith, whole, rest, product))

  -- a row times the number is below 2^42
  below : row * by < 4398046511104
  below =
      let most = mul-le row by 4194303 1048576 (omega (arith, small)) is.few in
      omega (arith, most)

  low : row / by * 4398046511104 ≤ row * inverse
  low =
      let whole = div-add-mod' row by in
      let first = mul-le-mul_left (row / by) over.0 in
      let second = mul-le (row / by * by) inverse row inverse (omega (arith, whole)) (omega arith) in
      let same : row / by * (inverse * by) ≡ row / by * by * inverse = omega arith in
      omega (arith, first, second, same)

  high : row * inverse < (row / by + 1) * 4398046511104
  high = elim (cases_lt (row * inverse) ((row / by + 1) * 4398046511104)) [
    | inl lt ↦ lt
    | inr le ↦
        let whole = div-add-mod' row by in
        let rest = mod_below row by is.some in
        let first = mul-le ((row / by + 1) * 4398046511104) by (row * inverse) by le (omega arith) in
        let left : (row / by + 1) * 4398046511104 * by ≡ (row / by * by + by) * 4398046511104 = omega arith in
        let right : row * inverse * by ≡ row * (inverse * by) = omega arith in
        let most = mul-le-mul_left row over.1 in
        let parts : row * (4398046511104 + by) ≡ row * 4398046511104 + row * by = omega arith in
        absurd (omega (arith, whole, rest, first, left, right, most, parts, below))
  ]

  pub quotient : row * inverse / 4398046511104 ≡ row / by
  quotient =
      let rest : row * inverse - row / by * 4398046511104 < 4398046511104 = omega (arith, low, high) in
      let sum : row / by * 4398046511104 + (row * inverse - row / by * 4398046511104) ≡ row * inverse = omega (arith, low) in
      ap (λ (n : ℕ). n / 4398046511104) (sym sum) ∙ div-mul-add (row / by) 4398046511104 (row * inverse - row / by * 4398046511104) rest

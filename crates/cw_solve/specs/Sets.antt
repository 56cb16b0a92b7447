-- Sets of states as numbers.
use Rattle.std.specs.Prelude.{ℕ, zero, suc, ◌+◌, ◌*◌, Bool, cond}

abbrev pub one_if : Bool → ℕ
one_if b = cond b 1 0

-- the states below n that pass, as the sum of 2 to the power x over them
abbrev pub set_of : (ℕ → Bool) → ℕ → ℕ
set_of passes zero = 0
set_of passes (suc n) = one_if (passes 0) + 2 * set_of (λ x. passes (suc x)) n

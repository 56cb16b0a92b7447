-- Sets of states as numbers: their members.
use Rattle.std.proofs.Common.{◌≡◌, ℕ, zero, suc, ◌+◌, ◌*◌, ◌/◌, Bool, true, false, ◌&&◌, nat_lt, nat_eq, sym, ap, ◌∙◌, arith}
use Rattle.std.specs.Int.{bit_at}
use Rattle.std.proofs.lemmas.Bool.{lt-ltb, le-ltb}
use Rattle.cw_core.specs.StateSet.{has as has_member}
use Rattle.cw_core.proofs.Sets.{has-zero, has-suc}
use Rattle.cw_game.specs.Pairs.{has}
use Rattle.cw_solve.specs.Sets.{one_if, set_of}
use Rattle.cw_lemmas.proofs.Numbers.{nat_lt_suc as less_suc}

half : (b : Bool) (m : ℕ) → (one_if b + 2 * m) / 2 ≡ m
half true m = omega arith
half false m = omega arith

last : (b : Bool) (m : ℕ) → has (one_if b + 2 * m) 0 ≡ b
last true m = let e : bit_at (1 + 2 * m) 0 ≡ 1 = omega arith in ap (λ k. nat_eq k 1) e
last false m = let e : bit_at (0 + 2 * m) 0 ≡ 0 = omega arith in ap (λ k. nat_eq k 1) e

-- the members are the states below n that pass
pub has_set : (passes : ℕ → Bool) (n x : ℕ) → has (set_of passes n) x ≡ (nat_lt x n && passes x)
unfolding has_member
has_set passes zero x = has-zero x ∙ sym (ap (λ b. b && passes x) (le-ltb x 0 (omega arith)))
has_set passes (suc n) zero = last (passes 0) (set_of (λ x. passes (suc x)) n) ∙ sym (ap (λ b. b && passes 0) (lt-ltb 0 (suc n) (omega arith)))
has_set passes (suc n) (suc x) =
    let m = set_of (λ x. passes (suc x)) n in
    has-suc (one_if (passes 0) + 2 * m) x ∙ ap (λ s. has s x) (half (passes 0) m) ∙ has_set (λ x. passes (suc x)) n x ∙ sym (ap (λ b. b && passes (suc x)) (less_suc x n))

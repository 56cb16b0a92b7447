-- Sets of states: all of them, those that have no others, and their members.
use Rattle.std.proofs.Common.{◌≡◌, ℕ, ◌-◌, ◌^◌, ◌<◌, ◌≤◌, Bool, true, false, not, ◌&&◌, ◌==◌, nat_lt, nat_le, nat_eq, refl, sym, ap, ◌∙◌, subst, arith}
use Rattle.std.specs.Ordering.{is_le, nat_cmp}
use Rattle.std.specs.Int.{bit_at}
use Rattle.std.proofs.lemmas.Nat.Bits.{bit_at_ones, bit_at_ones_above}
use Rattle.std.proofs.lemmas.Bool.{false≢true}
use Rattle.std.proofs.lemmas.Bool.Decides.{nat_tests}
use Rattle.cw_lemmas.proofs.Truths.{and_true}
use Rattle.cw_core.specs.StateSet.{has, IsBelow}
use Rattle.cw_core.proofs.Sets.{same_from_members, IsBelow-lt, has-zero}

ones_has : (n s : ℕ) → has (2 ^ n - 1) s ≡ nat_lt s n
unfolding has
ones_has n s = by (nat_lt s n) refl
  where
    by : (t : Bool) → nat_lt s n ≡ t → (bit_at (2 ^ n - 1) s == 1) ≡ t
    by true t = let l : s < n = grind (arith, nat_tests) in ap (λ b. b == 1) (bit_at_ones n s l)
    by false t = let l : n ≤ s = grind (arith, nat_tests) in ap (λ b. b == 1) (bit_at_ones_above n s l)

-- what has the numbers below n that the empty set lacks is all of them
full_is : (set none n : ℕ) → ((i : ℕ) → has none i ≡ false) → ((i : ℕ) → has set i ≡ (nat_lt i n && not (has none i))) → set ≡ 2 ^ n - 1
full_is set none n e h = same_from_members set (2 ^ n - 1) (λ s. h s ∙ ap (λ b. nat_lt s n && not b) (e s) ∙ and_true (nat_lt s n) ∙ sym (ones_has n s))

pub is_all : (set full none n : ℕ) (answer : Bool) → ((i : ℕ) → has none i ≡ false) → ((i : ℕ) → has full i ≡ (nat_lt i n && not (has none i)))
    → answer ≡ nat_eq set full → answer ≡ nat_eq set (2 ^ n - 1)
is_all set full none n answer e h a = a ∙ ap (λ k. nat_eq set k) (full_is full none n e h)

-- a set of numbers below 1,024 isn't all of more
pub is_not_all : (set n : ℕ) → IsBelow 1024 set → 1024 < n → nat_eq set (2 ^ n - 1) ≡ false
is_not_all set n below more = by (nat_eq set (2 ^ n - 1)) refl
  where
    by : (t : Bool) → nat_eq set (2 ^ n - 1) ≡ t → t ≡ false
    by false t = refl
    by true t =
        let same : set ≡ 2 ^ n - 1 = grind (arith, nat_tests) in
        let one : nat_lt 1024 n ≡ true = grind (arith, nat_tests) in
        let member : has set 1024 ≡ true = subst (λ k. has k 1024 ≡ true) (sym same) (ones_has n 1024 ∙ one) in
        absurd (omega (arith, below 1024 member))

pub is_below : (set full none n : ℕ) (answer : Bool) → ((i : ℕ) → has none i ≡ false) → ((i : ℕ) → has full i ≡ (nat_lt i n && not (has none i)))
    → answer ≡ is_le (nat_cmp set full) → answer ≡ nat_lt set (2 ^ n)
is_below set full none n answer e h a = a ∙ le_is set full ∙ ap (λ k. nat_le set k) (full_is full none n e h) ∙ less set (2 ^ n) (IsBelow-lt n 0 (λ s m. absurd (false≢true (sym (has-zero s) ∙ m))))
  where
    le_is : (a b : ℕ) → is_le (nat_cmp a b) ≡ nat_le a b
    le_is a b = grind (arith, nat_tests)

    less : (a b : ℕ) → 0 < b → nat_le a (b - 1) ≡ nat_lt a b
    less a b z = grind (arith, nat_tests)

pub is_below_more : (set n : ℕ) → IsBelow 1024 set → 1024 ≤ n → nat_lt set (2 ^ n) ≡ true
is_below_more set n below more =
    let lt : set < 2 ^ n = IsBelow-lt n set (λ s m. omega (arith, below s m)) in
    grind (arith, nat_tests)

-- Orderings, besides what std has of them.
use Rattle.std.proofs.Common.{◌≡◌, true, refl, ◌⊎◌, ℕ, ◌<◌, Bool, false, cond, nat_lt, ap, inl, inr, nat_eq, arith}
use Rattle.std.specs.declared.cmp.Ordering.{Ordering}
use Rattle.std.specs.declared.cmp.Ordering.TheVariants.{Less, Equal, Greater}
use Rattle.std.specs.Ordering.{is_eq, ordering_then, is_lt, nat_cmp, ordering_reverse}
use Rattle.std.proofs.lemmas.Bool.{ltb-true}
use Rattle.std.proofs.lemmas.Bool.Decides.{nat_tests}

pub is_eq_equal : (o : Ordering) → is_eq o ≡ true → o ≡ Equal
is_eq_equal Less e = cc
is_eq_equal Equal e = refl
is_eq_equal Greater e = cc

pub then_equal : (a b : Ordering) → ordering_then a b ≡ Equal → (a ≡ Equal) × (b ≡ Equal)
then_equal Less b e = cc
then_equal Equal b e = (refl, e)
then_equal Greater b e = cc

pub then_less : (a b : Ordering) → ordering_then a b ≡ Less → (a ≡ Less) ⊎ ((a ≡ Equal) × (b ≡ Less))
then_less Less b e = inl refl
then_less Equal b e = inr (refl, e)
then_less Greater b e = cc

pub lt_less : (o : Ordering) → is_lt o ≡ true → o ≡ Less
lt_less Less e = refl
lt_less Equal e = absurd (cc)
lt_less Greater e = absurd (cc)

pub not_less : (a b : Ordering) → b ≡ ordering_reverse a → a ≡ Less → is_lt b ≡ false
not_less Less b e f = ap is_lt e
not_less Equal b e f = cc
not_less Greater b e f = cc

pub nat_less : (m n : ℕ) → nat_cmp m n ≡ Less → m < n
nat_less m n e = ltb-true m n (by (nat_lt m n) (nat_eq m n) refl e)
  where
    by : (x y : Bool) → nat_lt m n ≡ x → cond x Less (cond y Equal Greater) ≡ Less → nat_lt m n ≡ true
    by true y h k = h
    by false true h k = cc
    by false false h k = cc

pub less_nat : (m n : ℕ) → m < n → nat_cmp m n ≡ Less
less_nat m n l = grind (arith, nat_tests, l)

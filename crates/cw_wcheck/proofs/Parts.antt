-- The rows of a position in a list that ascends, by what stands beside where they begin and end.
use Rattle.std.proofs.Common.{◌≡◌, ℕ, zero, suc, ◌+◌, ◌-◌, ◌<◌, ◌≤◌, List, Bool, true, false, not, ◌||◌, Option, Some, None, length, get_or, take, drop, filter, nat_lt, nat_le, nat_eq, refl, sym, ap, ◌∙◌, arith}
use Rattle.std.specs.Prelude.{slice_get}
use Rattle.std.specs.List.Sorted.{IsStrictlySortedBy, IsPartitionPoint}
use Rattle.std.proofs.lemmas.Bool.{false≢true}
use Rattle.std.proofs.lemmas.Bool.Decides.{nat_tests}
use Rattle.std.proofs.lemmas.Option.{get_or_from_slice_get, slice_get-get_or, slice_get_within}
use Rattle.cw_lemmas.proofs.Truths.{and_first, and_second}
use Rattle.cw_core.specs.declared.ids.MemId.{MemId}
use Rattle.cw_core.specs.declared.ids.PosId.{PosId}
use Rattle.cw_certs.specs.Ascending.{live_cmp}
use Rattle.cw_certs.proofs.Middle.{middle, positions_rise}
use Rattle.cw_wcheck.specs.Working.{is_below, parts_at}

not_true : (a : Bool) → not a ≡ true → a ≡ false
not_true true e = absurd (false≢true e)
not_true false e = refl

or_second : (a b : Bool) → a ≡ false → (a || b) ≡ true → b ≡ true
or_second true b e h = absurd (false≢true (sym e))
or_second false b e h = h

below_there : (b : ℕ) (o : Option (PosId × MemId)) → is_below b o ≡ true → (r : PosId × MemId) × ((o ≡ Some r) × (nat_lt r.0.0 b ≡ true))
below_there b None e = absurd (false≢true e)
below_there b (Some r) e = (r, (refl, e))

module _ (xs : List (PosId × MemId)) (s : IsStrictlySortedBy live_cmp xs) (b i : ℕ) (h : parts_at b xs i ≡ true) where
  there : (n : ℕ) → i ≡ suc n → (r : PosId × MemId) × ((slice_get xs (i - 1) ≡ Some r) × (nat_lt r.0.0 b ≡ true))
  there n e =
      let some : nat_eq i 0 ≡ false = grind (arith, nat_tests, e) in
      below_there b (slice_get xs (i - 1)) (or_second _ _ some (and_first _ _ h))

  pub within : (n : ℕ) → i ≡ n → i ≤ length xs
  within zero e = omega (arith, e)
  within (suc n) e =
      let t = there n e in
      let l : i - 1 < length xs = slice_get_within xs (i - 1) t.0 t.1.0 in
      omega (arith, l, e)

  before : (n : ℕ) → i ≡ n → (k : ℕ) (d : PosId × MemId) → 0 ≤ k → k < i → nat_lt (get_or xs k d).0.0 b ≡ true
  before zero e k d z l = absurd (omega (arith, e, l))
  before (suc n) e k d z l =
      let t = there n e in
      let m : i - 1 < length xs = slice_get_within xs (i - 1) t.0 t.1.0 in
      let le : k ≤ i - 1 = omega (arith, l) in
      let rise : (get_or xs k d).0.0 ≤ (get_or xs (i - 1) d).0.0 = positions_rise xs s k (i - 1) d le m in
      let last : nat_lt (get_or xs (i - 1) d).0.0 b ≡ true = ap (λ r. nat_lt r.0.0 b) (get_or_from_slice_get xs (i - 1) t.0 d t.1.0) ∙ t.1.1 in
      below_too _ _ rise last
    where
      below_too : (m n : ℕ) → m ≤ n → nat_lt n b ≡ true → nat_lt m b ≡ true
      below_too m n le e = grind (arith, nat_tests)

  from : (k : ℕ) (d : PosId × MemId) → i ≤ k → k < length xs → nat_lt (get_or xs k d).0.0 b ≡ false
  from k d le l =
      let m : i < length xs = omega (arith, le, l) in
      let first : nat_lt (get_or xs i d).0.0 b ≡ false = sym (ap (is_below b) (slice_get-get_or xs i d m)) ∙ not_true _ (and_second _ _ h) in
      above_too _ _ (positions_rise xs s i k d le l) first
    where
      above_too : (m n : ℕ) → m ≤ n → nat_lt m b ≡ false → nat_lt n b ≡ false
      above_too m n le e = grind (arith, nat_tests)

  pub points : IsPartitionPoint (λ y. nat_lt y.0.0 b ≡ true) (λ y. nat_lt y.0.0 b ≡ false) xs i
  points = (before i refl, from)

less_le : (n p : ℕ) (t : Bool) → nat_lt n (p + 1) ≡ t → nat_le n p ≡ t
less_le n p true e = grind (arith, nat_tests)
less_le n p false e = grind (arith, nat_tests)

pub part_is : (xs : List (PosId × MemId)) (s : IsStrictlySortedBy live_cmp xs) (p i k : ℕ) → parts_at p xs i ≡ true → parts_at (p + 1) xs k ≡ true
    → take (k - i) (drop i xs) ≡ filter (λ r. nat_eq r.0.0 p) xs
part_is xs s p i k e f =
    let high = points xs s (p + 1) k f in
    middle (λ r. r.0.0) p xs i k (points xs s p i e)
    (λ j d z l. less_le _ p true (high.0 j d z l), λ j d z l. less_le _ p false (high.1 j d z l)) (within xs s p i e i refl)

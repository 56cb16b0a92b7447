-- The order of keys, and the number of a key's row.
use Rattle.std.proofs.Common.{◌≡◌, ℕ, ◌<◌, List, Some, ap, subst, arith}
use Rattle.std.specs.Prelude.{slice_get}
use Rattle.std.specs.FinMap.{IsAntisymmetric, nat_cmp-IsAntisymmetric}
use Rattle.std.specs.List.{Contains}
use Rattle.std.specs.List.Sorted.{IsStrictlySortedBy}
use Rattle.std.specs.declared.cmp.Ordering.TheVariants.{Less}
use Rattle.std.specs.Ordering.{ordering_then, nat_cmp}
use Rattle.std.specs.Cmp.{IsTotalOrder, nat_cmp_total, then_total, on_total}
use Rattle.std.proofs.lemmas.Bool.Decides.{nat_tests}
use Rattle.cw_fixpoint.proofs.Numbers.{contained, number_at, number_less}
use Rattle.cw_lemmas.proofs.Orders.{then_equal as both_equal}
use Rattle.cw_least_strategy.specs.declared.key.Key.{Key}
use Rattle.cw_least_strategy.specs.Strategies.{key_cmp, number}

pub key_total : IsTotalOrder key_cmp
key_total =
    then_total (on_total (λ (k : Key). k.height) nat_cmp_total)
    (then_total (on_total (λ (k : Key). k.pos) nat_cmp_total) (then_total (on_total (λ (k : Key). k.state) nat_cmp_total) (on_total (λ (k : Key). k.aim) nat_cmp_total)))

pub same_key : (h p q a i r s b : ℕ) → h ≡ i → p ≡ r → q ≡ s → a ≡ b → (◌≡◌ {A = Key} (record { height = h; pos = p; state = q; aim = a }) (record { height = i; pos = r; state = s; aim = b }))
same_key h p q a i r s b d e f k = cc

pub key_exact : IsAntisymmetric key_cmp
key_exact x y e =
    let a = both_equal _ _ e in
    let b = both_equal _ _ a.1 in
    let c = both_equal _ _ b.1 in
    same_key x.height x.pos x.state x.aim y.height y.pos y.state y.aim (nat_cmp-IsAntisymmetric _ _ a.0) (nat_cmp-IsAntisymmetric _ _ b.0) (nat_cmp-IsAntisymmetric _ _ c.0)
    (nat_cmp-IsAntisymmetric _ _ c.1)

-- a key of a lesser height is less, and stands before
pub lower_less : (a k : Key) → a.height < k.height → key_cmp a k ≡ Less
lower_less a k l =
    let n : nat_cmp a.height k.height ≡ Less = grind (arith, nat_tests, l) in
    ap (λ o. ordering_then o (ordering_then (nat_cmp a.pos k.pos) (ordering_then (nat_cmp a.state k.state) (nat_cmp a.aim k.aim)))) n

pub before : (keys : List Key) → IsStrictlySortedBy key_cmp keys → (i : ℕ) (a k : Key) → Contains keys a → slice_get keys i ≡ Some k → a.height < k.height → number keys a < i
before keys o i a k c f l =
    subst (λ (j : ℕ). number keys a < j) (number_at key_cmp key_total key_exact keys i k o f)
    (number_less key_cmp key_total key_exact keys a k o c (contained key_cmp key_total key_exact keys i k f) (lower_less a k l))

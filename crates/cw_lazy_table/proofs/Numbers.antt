-- The number of a memory.
use Rattle.std.proofs.Common.{◌≡◌, ℕ, ◌<◌, sym, ap₂}
use Rattle.std.specs.FinMap.{IsAntisymmetric, nat_cmp-IsAntisymmetric}
use Rattle.std.specs.List.{Contains}
use Rattle.std.specs.List.Sorted.{IsStrictlySortedBy}
use Rattle.std.specs.declared.cmp.Ordering.TheVariants.{Less}
use Rattle.cw_core.specs.declared.ids.StateId.{StateId}
use Rattle.cw_certs.specs.Ascending.{mem_cmp}
use Rattle.cw_certs.proofs.Orders.{mem_total}
use Rattle.cw_fixpoint.proofs.Numbers.{contained, at_number, number_at, number_less}
use Rattle.cw_lemmas.proofs.Orders.{then_equal as both_equal}
use Rattle.cw_lazy_table.specs.Lazy.{state_id, Means}
use Rattle.cw_lazy_table.specs.Rowing.{Memories, number}

abbrev mem_of : (q e : ℕ) → StateId × ℕ
mem_of q e = (state_id q, e)

pub mem_exact : IsAntisymmetric mem_cmp
mem_exact x y e =
    let a = both_equal _ _ e in
    ap₂ (λ (q e : ℕ). mem_of q e) (nat_cmp-IsAntisymmetric _ _ a.0) (nat_cmp-IsAntisymmetric _ _ a.1)

-- a memory of the list stands at its number
pub mem_at : (ms : Memories) (q e : ℕ) → Contains ms (mem_of q e) → Means ms (number ms q e) q e
mem_at ms q e c = at_number mem_cmp mem_total mem_exact ms (mem_of q e) c

-- what a number means tells the number
pub number_is : (ms : Memories) (m q e : ℕ) → IsStrictlySortedBy mem_cmp ms → Means ms m q e → m ≡ number ms q e
number_is ms m q e s h = sym (number_at mem_cmp mem_total mem_exact ms m (mem_of q e) s h)

-- a lesser memory has a lesser number
pub mem_less : (ms : Memories) (q e x y : ℕ) → IsStrictlySortedBy mem_cmp ms → Means ms (number ms q e) q e → Means ms (number ms x y) x y → mem_cmp (mem_of q e) (mem_of x y) ≡ Less
    → number ms q e < number ms x y
mem_less ms q e x y s a b l =
    number_less mem_cmp mem_total mem_exact ms (mem_of q e) (mem_of x y) s (contained mem_cmp mem_total mem_exact ms (number ms q e) (mem_of q e) a)
    (contained mem_cmp mem_total mem_exact ms (number ms x y) (mem_of x y) b) l

-- Pairs in order.
use Rattle.std.proofs.Common.{ap₂}
use Rattle.std.specs.FinMap.{IsAntisymmetric}
use Rattle.std.specs.declared.cmp.Ordering.{Ordering}
use Rattle.std.specs.Cmp.{IsTotalOrder}
use Rattle.std.proofs.lemmas.Cmp.{on_total, then_total}
use Rattle.cw_joins.specs.Members.{pair_cmp}
use Rattle.cw_lemmas.proofs.Orders.{then_equal}

-- pairs that compare as equal are identical
pub pair_exact : {K : Type 0} (cmp : K → K → Ordering) → IsAntisymmetric cmp → IsAntisymmetric (pair_cmp cmp)
pair_exact cmp exact (a, b) (c, d) e = let h = then_equal (cmp a c) (cmp b d) e in ap₂ (λ x y. (x, y)) (exact a c h.0) (exact b d h.1)

pub pair_total : {K : Type 0} (cmp : K → K → Ordering) → IsTotalOrder cmp → IsTotalOrder (pair_cmp cmp)
pair_total {K} cmp total = then_total (on_total (λ (ab : K × K). ab.0) total) (on_total (λ (ab : K × K). ab.1) total)

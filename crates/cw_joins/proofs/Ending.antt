-- What was seen at the end of a search.
use Rattle.std.proofs.Common.{ℕ, ◌+◌, ◌<◌, ◌≤◌, List, length}
use Rattle.std.specs.Cmp.{IsTotalOrder}
use Rattle.std.specs.FinMap.{IsAntisymmetric}
use Rattle.std.specs.List.{Contains, IsDistinct}
use Rattle.std.specs.Ordering.{eq_by_cmp}
use Rattle.std.specs.declared.cmp.Ordering.{Ordering}
use Rattle.cw_fixpoint.specs.Closures.{Exactly}
use Rattle.cw_joins.specs.Members.{Rules, IsMember, IsPair, HaveMore, pair_cmp}
use Rattle.cw_joins.specs.Working.{Reached}
use Rattle.cw_joins.proofs.Reaching.{all_seen, all_paired, are_pairs, have_more}
use Rattle.cw_joins.proofs.Hints.{in_set}
use Rattle.cw_joins.proofs.Orders.{pair_exact, pair_total}

module _ {K G : Type 0} (r : Rules K G) (start : K) (seen : List K) (pairs : List (K × K)) (W E : G → List K) (i : ℕ) (h : Reached r start seen pairs W E i) (cmp : K → K → Ordering) where
  -- where all was worked off
  module _ (all : length seen ≤ i) where
    pub members_of : (v : List K) → Exactly cmp (Contains seen) v → Exactly cmp (IsMember r start) v
    members_of v e = (e.0, λ k. (λ c. h.needed k ((e.1 k).0 c), λ m. (e.1 k).1 (all_seen r start seen pairs W E i h all k m)))

    pub pairs_of : (v : List (K × K)) → Exactly (pair_cmp cmp) (Contains pairs) v → Exactly (pair_cmp cmp) (IsPair r start) v
    pairs_of v e = (e.0, λ ab. (λ c. are_pairs r start seen pairs W E i h ab ((e.1 ab).0 c), λ m. (e.1 ab).1 (all_paired r start seen pairs W E i h all ab m)))

  pub more_than : IsTotalOrder cmp → IsAntisymmetric cmp → IsDistinct (eq_by_cmp cmp) seen → IsDistinct (eq_by_cmp (pair_cmp cmp)) pairs → (n : ℕ) → n < length seen + length pairs → HaveMore cmp r start n
  more_than total exact once twice n more =
      let s = in_set cmp total exact seen once in
      let t = in_set (pair_cmp cmp) (pair_total cmp total) (pair_exact cmp exact) pairs twice in
      have_more r start seen pairs W E i h cmp s.0 t.0 s.1 t.1 n more

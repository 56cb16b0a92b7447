-- The sets that a search reaches are the policy states.
use Rattle.std.proofs.Common.{◌≡◌, ◌⊎◌, inl, inr, ℕ, List, [], ◌∷◌, subst, arith}
use Rattle.std.specs.List.{Contains}
use Rattle.std.specs.Ordering.{nat_cmp}
use Rattle.std.proofs.lemmas.List.Elements.{Contains-push, Contains-push_cases}
use Rattle.cw_fixpoint.specs.Closures.{Reached as Found, first as begins, then as goes, Exactly as ExactlyBy, HasMore as HasMoreBy}
use Rattle.cw_dfa.specs.States.{Least, first, then, Exactly, HasMore}

module _ (step next : ℕ → List ℕ) (start : ℕ) (there : (k b : ℕ) → Contains (step k) b → Contains (next k) b) (back : (k b : ℕ) → Contains (next k) b → Contains (step k) b) where
  least : (k : ℕ) → Found step (start ∷ []) k → Least next start k
  least k (begins q c) = by_cases (Contains-push_cases [] start k c)
    where
      by_cases : Contains [] k ⊎ (start ≡ k) → Least next start k
      by_cases (inl (i, l, e)) = absurd (omega (arith, l))
      by_cases (inr e) = subst (Least next start) e first
  least k (goes a b n c) = then a b (least a n) (there a b c)

  found : (k : ℕ) → Least next start k → Found step (start ∷ []) k
  found k first = begins start (Contains-push [] start)
  found k (then a b n c) = goes a b (found a n) (back a b c)

  pub exactly : (v : List ℕ) → ExactlyBy nat_cmp (Found step (start ∷ [])) v → Exactly (Least next start) v
  exactly v h = (h.0, λ k. (λ c. least k ((h.1 k).0 c), λ n. (h.1 k).1 (found k n)))

  pub has_more : (n : ℕ) → HasMoreBy nat_cmp (Found step (start ∷ [])) n → HasMore (Least next start) n
  has_more n h = (h.0, h.1, λ k c. least k (h.2 k c), h.3)

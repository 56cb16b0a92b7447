-- The different items of a list, ascending.
use Rattle.std.proofs.Common.{◌≡◌, ⊎_elim, ◌≤◌, List, [], ◌∷◌, ◌++◌, true, take, length, sym, subst}
use Rattle.std.specs.FinMap.{IsAntisymmetric}
use Rattle.std.specs.List.{Contains}
use Rattle.std.specs.BTreeSet.{BTreeSet, Updates}
use Rattle.std.specs.List.Sorted.{IsStrictlySortedBy}
use Rattle.std.specs.Cmp.{IsTotalOrder}
use Rattle.std.specs.declared.cmp.Ordering.{Ordering}
use Rattle.std.proofs.lemmas.List.{take_all}
use Rattle.std.proofs.lemmas.List.Elements.{Contains-push, Contains-push_cases, Contains-append_left}
use Rattle.cw_fixpoint.specs.Closures.{Exactly}
use Rattle.cw_fixpoint.proofs.Keys.{inserted_old, inserted_new, inserted_from}

-- the set has the items so far
abbrev pub HasSame : {K : Type 0} → List K → List K → Type 0
HasSame {K} keys items = (x : K) → (Contains keys x → Contains items x) × (Contains items x → Contains keys x)

pub one_more : {K : Type 0} (cmp : K → K → Ordering) → IsTotalOrder cmp → IsAntisymmetric cmp → (s n : BTreeSet K) (items : List K) (k : K) → Updates cmp s n k true
    → HasSame s.keys items → HasSame n.keys (items ++ k ∷ [])
one_more cmp total exact s n items k u h x = (
  λ c. ⊎_elim (λ e. subst (Contains (items ++ k ∷ [])) e (Contains-push items k)) (λ d. Contains-append_left items (k ∷ []) x ((h x).0 d)) (inserted_from cmp total exact s n k u x c),
  λ c. ⊎_elim (λ d. inserted_old cmp total exact s n k u x ((h x).1 d)) (λ e. subst (Contains n.keys) e (inserted_new cmp total exact s n k u)) (Contains-push_cases items k x c),
)

pub exactly_same : {K : Type 0} (cmp : K → K → Ordering) (items ys keys : List K) (i : _) → length items ≤ i → ys ≡ keys → IsStrictlySortedBy cmp ys → HasSame keys (take i items)
    → Exactly cmp (Contains items) ys
exactly_same cmp items ys keys i le e s h = (
  s,
  λ x. (
    λ c. subst (λ l. Contains l x) (take_all i items le) ((h x).0 (subst (λ l. Contains l x) e c)),
    λ c. subst (λ l. Contains l x) (sym e) ((h x).1 (subst (λ l. Contains l x) (sym (take_all i items le)) c)),
  ),
)

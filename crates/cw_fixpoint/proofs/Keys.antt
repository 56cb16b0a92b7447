-- One more key seen.
use Rattle.std.proofs.Common.{◌≡◌, ◌⊎◌, inl, inr, ◌+◌, List, [], ◌∷◌, ◌++◌, Bool, true, false, cond, length, refl, sym, ap, ◌∙◌, subst, arith, append-nil, append_assoc, length-append, ⊎_elim}
use Rattle.std.specs.FinMap.{IsAntisymmetric}
use Rattle.std.specs.List.{Contains}
use Rattle.std.specs.List.Sorted.{IsStrictlySortedBy}
use Rattle.std.specs.declared.cmp.Ordering.{Ordering}
use Rattle.std.specs.Ordering.{is_eq}
use Rattle.std.specs.Cmp.{IsTotalOrder}
use Rattle.std.specs.BTreeSet.{BTreeSet, contains, Updates, IsOrdered}
use Rattle.std.proofs.lemmas.Map.Views.{btree_set_contains_iff}
use Rattle.std.proofs.lemmas.List.Elements.{Contains-push, Contains-push_cases, Contains-append_left, Contains-append_right, Contains-append_cases}
use Rattle.cw_fixpoint.specs.Seen.{SeenIs, Adds}
use Rattle.cw_lemmas.proofs.Lists.{contains_none, contains_one}
use Rattle.cw_lemmas.proofs.Orders.{is_eq_equal as at_equal}
use Rattle.cw_lemmas.proofs.Truths.{cond_true}

module _ {K : Type 0} (cmp : K → K → Ordering) (total : IsTotalOrder cmp) (exact : IsAntisymmetric cmp) (s n : BTreeSet K) (k : K) (u : Updates cmp s n k true) where
  pub inserted_old : (q : K) → Contains s.keys q → Contains n.keys q
  inserted_old q c = (btree_set_contains_iff total exact n q).0 (u.0 q ∙ cond_true _ _ ((btree_set_contains_iff total exact s q).1 c))

  pub inserted_new : Contains n.keys k
  inserted_new = (btree_set_contains_iff total exact n k).0 u.1

  pub inserted_from : (q : K) → Contains n.keys q → (k ≡ q) ⊎ Contains s.keys q
  inserted_from q c = by (is_eq (cmp k q)) refl (sym (u.0 q) ∙ (btree_set_contains_iff total exact n q).1 c)
    where
      by : (b : Bool) → is_eq (cmp k q) ≡ b → cond b true (contains cmp s q) ≡ true → (k ≡ q) ⊎ Contains s.keys q
      by true e f = inl (exact k q (at_equal _ e))
      by false e f = inr ((btree_set_contains_iff total exact s q).0 f)

pub see_new : {K : Type 0} (cmp : K → K → Ordering) → IsTotalOrder cmp → IsAntisymmetric cmp → (seen : List K) (s n : BTreeSet K) (k : K) → SeenIs cmp seen s.keys → Updates cmp s n k true
    → length n.keys ≡ length s.keys + 1 → IsOrdered cmp n → SeenIs cmp (seen ++ k ∷ []) n.keys
see_new cmp total exact seen s n k h u l o = record {
  same = λ q. (
    λ c. ⊎_elim (λ a. inserted_old cmp total exact s n k u q ((h.same q).0 a)) (λ e. subst (Contains n.keys) e (inserted_new cmp total exact s n k u))
        (Contains-push_cases seen k q c),
    λ c. ⊎_elim (λ e. subst (Contains (seen ++ k ∷ [])) e (Contains-push seen k)) (λ a. Contains-append_left seen (k ∷ []) q ((h.same q).1 a))
        (inserted_from cmp total exact s n k u q c),
  );
  once = let o = h.once in let m = length-append seen (k ∷ []) in omega arith;
  order = o;
}

pub adds_none : {K : Type 0} (cmp : K → K → Ordering) → IsTotalOrder cmp → IsAntisymmetric cmp → (seen : List K) (s : BTreeSet K) (k : K) → SeenIs cmp seen s.keys → contains cmp s k ≡ true
    → Adds seen seen (k ∷ [])
adds_none cmp total exact seen s k h e = record {
  more = [];
  is = sym (append-nil seen);
  from = λ q c. absurd (contains_none q c);
  has = λ q c. subst (Contains seen) (contains_one k q c) ((h.same k).1 ((btree_set_contains_iff total exact s k).0 e));
}

-- some keys after others
pub adds_more : {K : Type 0} (old mid new keys more : List K) → Adds old mid keys → Adds mid new more → Adds old new (keys ++ more)
adds_more old mid new keys more a b = record {
  more = a.more ++ b.more;
  is = b.is ∙ ap (λ y. y ++ b.more) a.is ∙ append_assoc old a.more b.more;
  from = λ q c. ⊎_elim (λ d. Contains-append_left keys more q (a.from q d)) (λ d. Contains-append_right keys more q (b.from q d)) (Contains-append_cases a.more b.more q c);
  has = λ q c. ⊎_elim (λ d. subst (λ y. Contains y q) (sym b.is) (Contains-append_left mid b.more q (a.has q d))) (λ d. b.has q d) (Contains-append_cases keys more q c);
}

pub seen_none : {K : Type 0} (cmp : K → K → Ordering) → SeenIs cmp [] []
unfolding IsStrictlySortedBy
seen_none cmp = record { same = λ k. (λ c. c, λ c. c); once = refl; order = tt }

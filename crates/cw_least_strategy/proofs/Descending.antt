-- Keys that are taken from the greatest down.
use Rattle.std.proofs.Common.{◌≡◌, ◌⊎◌, inl, inr, ℕ, List, [], ◌∷◌, ◌++◌, true, length, reverse, sym, ap, ◌∙◌, subst, arith, length-append, ⊎_elim}
use Rattle.std.specs.FinMap.{IsAntisymmetric}
use Rattle.std.specs.List.{All, Contains}
use Rattle.std.specs.List.Sorted.{IsStrictlySortedBy}
use Rattle.std.specs.declared.cmp.Ordering.{Ordering}
use Rattle.std.specs.declared.cmp.Ordering.TheVariants.{Less}
use Rattle.std.specs.Cmp.{IsTotalOrder}
use Rattle.std.specs.BTreeSet.{BTreeSet, Updates}
use Rattle.std.proofs.lemmas.List.{reverse-append, reverse-reverse, length-reverse}
use Rattle.std.proofs.lemmas.List.Sorted.{Contains-permutation, IsPermutation-reverse}
use Rattle.std.proofs.lemmas.List.Elements.{Contains-push, Contains-push_cases, Contains-append_left, Contains-append_right, Contains-append_cases}
use Rattle.std.proofs.lemmas.List.Elements.{All-contains, All-contains_itself, All-weaker, recursion_from_All}
use Rattle.cw_fixpoint.specs.Closures.{Reached, first, then, Exactly, HasMore}
use Rattle.cw_fixpoint.proofs.Keys.{inserted_old, inserted_new, inserted_from}
use Rattle.cw_lemmas.proofs.Lists.{contains_none, contains_one}
use Rattle.cw_fixpoint.proofs.Reach.{kept}
use Rattle.cw_least_strategy.specs.Descents.{Joins}

-- what waits, key by key
joins_one : {K : Type 0} (cmp : K → K → Ordering) → IsTotalOrder cmp → IsAntisymmetric cmp → (s n : BTreeSet K) (k : K) → Updates cmp s n k true → Joins s.keys (k ∷ []) n.keys
joins_one cmp total exact s n k u q = (
  λ c. ⊎_elim (λ e. inr (subst (Contains (k ∷ [])) e (Contains-push [] k))) (λ o. inl o) (inserted_from cmp total exact s n k u q c),
  λ c. ⊎_elim (λ o. inserted_old cmp total exact s n k u q o) (λ i. subst (Contains n.keys) (contains_one k q i) (inserted_new cmp total exact s n k u)) c,
)

joins_more : {K : Type 0} (old keys mid more new : List K) → Joins old keys mid → Joins mid more new → Joins old (keys ++ more) new
joins_more old keys mid more new a b k = (
  λ c. ⊎_elim (λ m. ⊎_elim (λ o. inl o) (λ i. inr (Contains-append_left keys more k i)) ((a k).0 m)) (λ i. inr (Contains-append_right keys more k i)) ((b k).0 c),
  λ c. ⊎_elim (λ o. (b k).1 (inl ((a k).1 (inl o)))) (λ i. ⊎_elim (λ l. (b k).1 (inl ((a k).1 (inr l)))) (λ r. (b k).1 (inr r)) (Contains-append_cases keys more k i)) c,
)

pub joins_push : {K : Type 0} (cmp : K → K → Ordering) → IsTotalOrder cmp → IsAntisymmetric cmp → (old keys : List K) (s n : BTreeSet K) (k : K) → Joins old keys s.keys
    → Updates cmp s n k true → Joins old (keys ++ k ∷ []) n.keys
joins_push cmp total exact old keys s n k j u = joins_more old keys s.keys (k ∷ []) n.keys j (joins_one cmp total exact s n k u)

-- members of a list turned round
to_reverse : {K : Type 0} (xs : List K) (k : K) → Contains xs k → Contains (reverse xs) k
to_reverse xs k c = Contains-permutation xs (reverse xs) k (IsPermutation-reverse xs) c

from_reverse : {K : Type 0} (xs : List K) (k : K) → Contains (reverse xs) k → Contains xs k
from_reverse xs k c = subst (λ l. Contains l k) (reverse-reverse xs) (to_reverse (reverse xs) k c)

-- a key below all others stands before them
sorted_first : {K : Type 0} (cmp : K → K → Ordering) (k : K) (xs : List K) → ((q : K) → Contains xs q → cmp k q ≡ Less) → IsStrictlySortedBy cmp xs
    → IsStrictlySortedBy cmp (k ∷ xs)
unfolding IsStrictlySortedBy
sorted_first cmp k xs h s = (recursion_from_All (λ q. cmp k q ≡ Less) xs (All-weaker (Contains xs) (λ q. cmp k q ≡ Less) h xs (All-contains_itself xs)), s)

sorted_none : {K : Type 0} (cmp : K → K → Ordering) → IsStrictlySortedBy cmp []
unfolding IsStrictlySortedBy
sorted_none cmp = tt

module _ {K : Type 0} (cmp : K → K → Ordering) (step : K → List K) (starts : List K) where
  -- What was taken and what waits are reached; they have the starts and what follows a key that was taken. What was taken descends, and what waits is below it.
  pub record Descends (taken waiting : List K) : Type 0 where
    pub needed : (k : K) → Contains taken k ⊎ Contains waiting k → Reached step starts k
    pub begins : (k : K) → Contains starts k → Contains taken k ⊎ Contains waiting k
    pub closed : (k q : K) → Contains taken k → Contains (step k) q → Contains taken q ⊎ Contains waiting q
    pub order : IsStrictlySortedBy cmp (reverse taken)
    pub below : (k q : K) → Contains taken k → Contains waiting q → cmp q k ≡ Less

  pub descends_start : (waiting : List K) → Joins [] starts waiting → Descends [] waiting
  descends_start waiting j = record {
    needed = λ k c. ⊎_elim (λ t. absurd (contains_none k t)) (λ w. ⊎_elim (λ n. absurd (contains_none k n)) (λ s. first k s) ((j k).0 w)) c;
    begins = λ k c. inr ((j k).1 (inr c));
    closed = λ k q c. absurd (contains_none k c);
    order = sorted_none cmp;
    below = λ k q c. absurd (contains_none k c);
  }

  -- where nothing waits, all that is reached was taken
  taken_all : (taken : List K) → Descends taken [] → (k : K) → Reached step starts k → Contains taken k
  taken_all taken h k (first q c) = ⊎_elim (λ t. t) (λ w. absurd (contains_none q w)) (h.begins q c)
  taken_all taken h k (then a b n c) = ⊎_elim (λ t. t) (λ w. absurd (contains_none b w)) (h.closed a b (taken_all taken h a n) c)

  pub descends_all : (taken waiting v : List K) → Descends taken waiting → waiting ≡ [] → v ≡ reverse taken → Exactly cmp (Reached step starts) v
  descends_all taken waiting v h none is = subst (Exactly cmp (Reached step starts)) (sym is) (
    h.order,
    λ k. (
      λ c. h.needed k (inl (from_reverse taken k c)),
      λ n. to_reverse taken k (taken_all taken (subst (Descends taken) none h) k n),
    ),
  )

  -- the greatest of what waits is taken
  module _ (taken waiting low : List K) (k : K) (h : Descends taken waiting) (is : waiting ≡ low ++ k ∷ []) where
    waits : Contains waiting k
    waits = subst (λ l. Contains l k) (sym is) (Contains-push low k)

    waits_low : (q : K) → Contains low q → Contains waiting q
    waits_low q c = subst (λ l. Contains l q) (sym is) (Contains-append_left low (k ∷ []) q c)

    is_reached : Reached step starts k
    is_reached = h.needed k (inr waits)

    pub may_follow : (P : K → Type 0) → ((q : K) → Contains starts q → P q) → ((a q : K) → P a → Contains (step a) q → P q) → P k
    may_follow P begins keeps = kept cmp step starts P begins keeps k is_reached

    needed_more : (q : K) → Contains (taken ++ k ∷ []) q → Reached step starts q
    needed_more q c = ⊎_elim (λ t. h.needed q (inl t)) (λ e. subst (Reached step starts) e is_reached) (Contains-push_cases taken k q c)

    order_more : IsStrictlySortedBy cmp (reverse (taken ++ k ∷ []))
    order_more =
        subst (IsStrictlySortedBy cmp) (sym (reverse-append taken (k ∷ [])))
        (sorted_first cmp k (reverse taken) (λ q c. h.below q k (from_reverse taken q c) waits) h.order)

    pub has_more : (n : ℕ) → length taken ≡ n → HasMore cmp (Reached step starts) n
    has_more n l =
        let r = length-reverse (taken ++ k ∷ []) in
        let m = length-append taken (k ∷ []) in
        (reverse (taken ++ k ∷ []), order_more, λ q c. needed_more q (from_reverse (taken ++ k ∷ []) q c), omega (arith, r, m, l))

    -- one of what was taken or waited still is
    still : (new : List K) → ((q : K) → Contains low q → Contains new q) → (q : K) → Contains taken q ⊎ Contains waiting q → Contains (taken ++ k ∷ []) q ⊎ Contains new q
    still new old q (inl t) = inl (Contains-append_left taken (k ∷ []) q t)
    still new old q (inr w) = ⊎_elim (λ l. inr (old q l)) (λ e. inl (subst (Contains (taken ++ k ∷ [])) e (Contains-push taken k)))
        (Contains-push_cases low k q (subst (λ l. Contains l q) is w))

    pub descends_more : (P : K → Type 0) → ((q : K) → Contains starts q → P q) → ((a q : K) → P a → Contains (step a) q → P q)
        → ((a q : K) → P a → Contains (step a) q → cmp q a ≡ Less) → IsTotalOrder cmp → (new keys : List K) → All (λ q. cmp q k ≡ Less) low → keys ≡ step k
        → Joins low keys new → Descends (taken ++ k ∷ []) new
    descends_more P begins keeps descend total new keys all after j = record {
      needed = λ q c. ⊎_elim (λ t. needed_more q t) (λ w. ⊎_elim (λ l. h.needed q (inr (waits_low q l))) (λ i. then k q is_reached (steps q i)) ((j q).0 w)) c;
      begins = λ q c. stays q (h.begins q c);
      closed = λ a q t c. ⊎_elim (λ o. stays q (h.closed a q o c)) (λ e. inr ((j q).1 (inr (subst (λ b. Contains b q) (ap step (sym e) ∙ sym after) c))))
          (Contains-push_cases taken k a t);
      order = order_more;
      below = λ a q t w. ⊎_elim (λ o. under a q o (under_k q w)) (λ e. subst (λ b. cmp q b ≡ Less) e (under_k q w)) (Contains-push_cases taken k a t);
    }
      where
        stays : (q : K) → Contains taken q ⊎ Contains waiting q → Contains (taken ++ k ∷ []) q ⊎ Contains new q
        stays q c = still new (λ q l. (j q).1 (inl l)) q c

        steps : (q : K) → Contains keys q → Contains (step k) q
        steps q i = subst (λ l. Contains l q) after i

        under_k : (q : K) → Contains new q → cmp q k ≡ Less
        under_k q w = ⊎_elim (λ l. All-contains (λ q. cmp q k ≡ Less) low q all l) (λ i. descend k q (may_follow P begins keeps) (steps q i)) ((j q).0 w)

        under : (a q : K) → Contains taken a → cmp q k ≡ Less → cmp q a ≡ Less
        under a q t l = total.trans q k a l (h.below a k t waits)

-- Chains of links: what stands in a chain, and what is held after one more key.
use Rattle.std.proofs.Common.{◌≡◌, ◌⊎◌, inl, inr, ℕ, suc, ◌+◌, ◌-◌, ◌<◌, ◌≤◌, List, [], ◌∷◌, ◌++◌, Bool, true, false, cond, Some, None, set, length, refl, sym, ap, ◌∙◌, subst, arith, ⊎_elim}
use Rattle.std.proofs.Common.{nat_eq, nat_lt, append-nil, append_assoc, length-set, get_or, replicate}
use Rattle.std.specs.Prelude.{slice_get}
use Rattle.std.specs.Cmp.{IsTotalOrder}
use Rattle.std.specs.FinMap.{IsAntisymmetric}
use Rattle.std.specs.List.{Contains}
use Rattle.std.specs.Ordering.{eq_by_cmp, is_eq}
use Rattle.std.specs.declared.cmp.Ordering.{Ordering}
use Rattle.std.proofs.lemmas.Bool.{eq-eqb, eqb-true, eqb-false, ltb-true}
use Rattle.std.proofs.lemmas.List.Elements.{Contains-append_cases, Contains-append_right}
use Rattle.std.proofs.lemmas.Option.{none-some, same_Some, slice_get_within, slice_get-get_or}
use Rattle.std.proofs.lemmas.List.{get_or-replicate, length-replicate}
use Rattle.cw_lemmas.proofs.Lists.{contains_one, head_in, get_set, get_other, get_front, get_last}
use Rattle.cw_fixpoint.proofs.Numbers.{equal_is}
use Rattle.std.proofs.lemmas.Cmp.{tied_itself}
use Rattle.cw_joins.specs.declared.held.Link.{Link}
use Rattle.cw_joins.specs.declared.held.Held.{Held}
use Rattle.cw_joins.specs.Chains.{IsChain, none, linked, Chain, IsLinked, keys_in, chain_of, Holds, HoldsMore}

-- each index has a chain
pub within_chains : (chains index : ℕ) → 0 < chains → chain_of chains index < chains
within_chains chains index some = by (nat_lt index chains) refl
  where
    by : (t : Bool) → nat_lt index chains ≡ t → cond t index 0 < chains
    by true t = ltb-true index chains t
    by false t = some

-- a key more of a list, where it is one that is asked for
in_more : {K : Type 0} (k : K) (t : Bool) (xs : List K) (a : K) → Contains xs a → Contains (cond t (k ∷ xs) xs) a
in_more k true xs a c = Contains-append_right (k ∷ []) xs a c
in_more k false xs a c = c

from_more : {K : Type 0} (k : K) (t : Bool) (xs : List K) (a : K) → Contains (cond t (k ∷ xs) xs) a → Contains xs a ⊎ ((k ≡ a) × (t ≡ true))
from_more k true xs a c = ⊎_elim (λ d. inr (contains_one k a d, refl)) (λ d. inl d) (Contains-append_cases (k ∷ []) xs a c)
from_more k false xs a c = inl c

module _ (heads : List ℕ) (at n i j : ℕ) (is : at ≡ chain_of n i) (long : n ≡ length heads) (same : i ≡ j) where
  pub chain_at : at ≡ chain_of (length heads) j
  chain_at = is ∙ ap (λ (m : ℕ). chain_of m i) long ∙ ap (chain_of (length heads)) same

  pub chain_within : 0 < length heads → at < length heads
  chain_within some = subst (λ (m : ℕ). m < length heads) (sym chain_at) (within_chains (length heads) j some)

module _ {K G : Type 0} where
  -- a chain in a longer list
  chain_more : (links more : List (Link K G)) (n : ℕ) (xs : List (Link K G)) → IsChain links n xs → IsChain (links ++ more) n xs
  chain_more links more n xs none = none
  chain_more links more n xs (linked at l rest e b c) = linked at l rest (get_front links more at l e) b (chain_more links more l.next rest c)

  chain_bound : (links : List (Link K G)) (n : ℕ) (xs : List (Link K G)) → IsChain links n xs → n ≤ length links
  chain_bound links n xs none = omega arith
  chain_bound links n xs (linked at l rest e b c) = let w = slice_get_within links at l e in omega (arith, w)

  -- where a chain goes on from a number
  pub record GoesOn (links : List (Link K G)) (n : ℕ) (list : List (Link K G)) : Type 0 where
    pub link : Link K G
    pub rest : List (Link K G)
    pub is : list ≡ link ∷ rest
    pub at : slice_get links (n - 1) ≡ Some link
    pub below : link.next < n
    pub chain : IsChain links link.next rest

  pub goes_on : (links : List (Link K G)) (n : ℕ) (list : List (Link K G)) → IsChain links n list → 0 < n → GoesOn links n list
  goes_on links n list none p = absurd (omega (arith, p))
  goes_on links n list (linked at l rest e b c) p = record {
    link = l;
    rest = rest;
    is = refl;
    at = let m : suc at - 1 ≡ at = omega arith in ap (slice_get links) m ∙ e;
    below = omega (arith, b);
    chain = c;
  }

  pub at_end : (links : List (Link K G)) (n : ℕ) (list : List (Link K G)) → IsChain links n list → n ≡ 0 → list ≡ []
  at_end links n list none p = refl
  at_end links n list (linked at l rest e b c) p = absurd (omega (arith, p))

  -- one link more of a chain
  pub one_link : (cmp : G → G → Ordering) (g : G) (keys new : List K) (l : Link K G) (list rest : List (Link K G)) (t : Bool) → t ≡ eq_by_cmp cmp l.group g
      → new ≡ keys ++ cond t (l.key ∷ []) [] → list ≡ l ∷ rest → new ++ keys_in cmp g rest ≡ keys ++ keys_in cmp g list
  one_link cmp g keys new l list rest t is put e =
      ap (λ (y : List K). y ++ keys_in cmp g rest) put ∙ by t ∙ ap (λ (b : Bool). keys ++ cond b (l.key ∷ keys_in cmp g rest) (keys_in cmp g rest)) is
      ∙ ap (λ (y : List (Link K G)). keys ++ keys_in cmp g y) (sym e)
    where
      by : (t : Bool) → (keys ++ cond t (l.key ∷ []) []) ++ keys_in cmp g rest ≡ keys ++ cond t (l.key ∷ keys_in cmp g rest) (keys_in cmp g rest)
      by true = append_assoc keys (l.key ∷ []) (keys_in cmp g rest)
      by false = append_assoc keys [] (keys_in cmp g rest)

  pub all_linked : (cmp : G → G → Ordering) (g : G) (keys old : List K) (list rest : List (Link K G)) → rest ≡ [] → keys ++ keys_in cmp g rest ≡ old ++ keys_in cmp g list
      → keys ≡ old ++ keys_in cmp g list
  all_linked cmp g keys old list rest e is = sym (append-nil keys) ∙ ap (λ (y : List (Link K G)). keys ++ keys_in cmp g y) (sym e) ∙ is

module _ {K G : Type 0} (cmp : G → G → Ordering) (total : IsTotalOrder cmp) (exact : IsAntisymmetric cmp) (index : G → ℕ) where
  -- a key more is held for a group
  module _ (h n : Held K G) (old : G → List K) (o : Holds cmp index h old) (g : G) (k : K) (at : ℕ) (is : at ≡ chain_of (length h.heads.items) (index g)) (within : at < length h.heads.items)
      (l : IsLinked h at g k n) (heads : n.heads.items ≡ set h.heads.items at (length h.links.items + 1)) where
    abbrev link : Link K G
    link = record { group = g; key = k; next = l.0 }

    abbrev lists : ℕ → List (Link K G)
    lists i = cond (nat_eq i at) (link ∷ o.lists at) (o.lists i)

    abbrev slot : G → ℕ
    slot q = chain_of (length h.heads.items) (index q)

    many : length n.heads.items ≡ length h.heads.items
    many = ap length heads ∙ length-set h.heads.items at (length h.links.items + 1)

    longer : (m : ℕ) (xs : List (Link K G)) → IsChain h.links.items m xs → IsChain n.links.items m xs
    longer m xs c = subst (λ (y : List (Link K G)). IsChain y m xs) (sym l.2) (chain_more h.links.items (link ∷ []) m xs c)

    first : IsChain n.links.items (length h.links.items + 1) (link ∷ o.lists at)
    first =
        let c = o.chains at within in
        let same : c.0 ≡ l.0 = same_Some c.0 l.0 (sym c.1 ∙ l.1) in
        let old : IsChain h.links.items l.0 (o.lists at) = subst (λ (m : ℕ). IsChain h.links.items m (o.lists at)) same c.2 in
        let m : suc (length h.links.items) ≡ length h.links.items + 1 = omega arith in
        subst (λ (m : ℕ). IsChain n.links.items m (link ∷ o.lists at)) m
        (linked (length h.links.items) link (o.lists at) (ap (λ (y : List (Link K G)). slice_get y (length h.links.items)) l.2 ∙ get_last h.links.items link)
        (chain_bound h.links.items l.0 (o.lists at) old) (longer l.0 (o.lists at) old))

    chains : (i : ℕ) → i < length n.heads.items → Chain n i (lists i)
    chains i b = by (nat_eq i at) refl
      where
        by : (t : Bool) → nat_eq i at ≡ t → Chain n i (cond t (link ∷ o.lists at) (o.lists i))
        by true t = (
          length h.links.items + 1,
          ap (λ (y : List ℕ). slice_get y i) heads ∙ ap (slice_get (set h.heads.items at (length h.links.items + 1))) (eqb-true i at t) ∙ get_set h.heads.items at l.0 (length h.links.items + 1) l.1,
          first,
        )
        by false t =
            let c = o.chains i (omega (arith, b, many)) in
            (c.0, ap (λ (y : List ℕ). slice_get y i) heads ∙ get_other h.heads.items at i (length h.links.items + 1) (eqb-false i at t) ∙ c.1, longer c.0 (o.lists i) c.2)

    abbrev new : G → List K
    new q = keys_in cmp q (lists (chain_of (length n.heads.items) (index q)))

    new_at : (q : G) → new q ≡ keys_in cmp q (lists (slot q))
    new_at q = ap (λ (m : ℕ). keys_in cmp q (lists (chain_of m (index q)))) many

    here : (q : G) → nat_eq (slot q) at ≡ true → new q ≡ cond (eq_by_cmp cmp g q) (k ∷ old q) (old q)
    here q t =
        let at_old : keys_in cmp q (o.lists at) ≡ old q = ap (λ (i : ℕ). keys_in cmp q (o.lists i)) (sym (eqb-true (slot q) at t)) ∙ sym (o.is q) in
        new_at q ∙ ap (λ (b : Bool). keys_in cmp q (cond b (link ∷ o.lists at) (o.lists (slot q)))) t ∙ ap (λ (xs : List K). cond (eq_by_cmp cmp g q) (k ∷ xs) xs) at_old

    elsewhere : (q : G) → nat_eq (slot q) at ≡ false → new q ≡ old q
    elsewhere q t = new_at q ∙ ap (λ (b : Bool). keys_in cmp q (cond b (link ∷ o.lists at) (o.lists (slot q)))) t ∙ sym (o.is q)

    keeps_old : (a : K) (q : G) → Contains (old q) a → Contains (new q) a
    keeps_old a q c = by (nat_eq (slot q) at) refl
      where
        by : (t : Bool) → nat_eq (slot q) at ≡ t → Contains (new q) a
        by true t = subst (λ (y : List K). Contains y a) (sym (here q t)) (in_more k (eq_by_cmp cmp g q) (old q) a c)
        by false t = subst (λ (y : List K). Contains y a) (sym (elsewhere q t)) c

    has_this : Contains (new g) k
    has_this = subst (λ (y : List K). Contains y k) (sym (here g (eq-eqb (slot g) at (sym is)) ∙ ap (λ (b : Bool). cond b (k ∷ old g) (old g)) (ap is_eq (tied_itself total g)))) (head_in k (old g))

    comes : (a : K) (q : G) → Contains (new q) a → Contains (old q) a ⊎ ((a ≡ k) × (Some g ≡ Some q))
    comes a q c = by (nat_eq (slot q) at) refl
      where
        by : (t : Bool) → nat_eq (slot q) at ≡ t → Contains (old q) a ⊎ ((a ≡ k) × (Some g ≡ Some q))
        by true t = ⊎_elim (λ d. inl d) (λ d. inr (sym d.0, ap Some (equal_is cmp total exact g q d.1)))
            (from_more k (eq_by_cmp cmp g q) (old q) a (subst (λ (y : List K). Contains y a) (here q t) c))
        by false t = inl (subst (λ (y : List K). Contains y a) (elsewhere q t) c)

    pub held_more : HoldsMore cmp index n old (Some g) k
    held_more = (
      new,
      record { lists = lists; some = let m = many in let s = o.some in omega (arith, m, s); chains = chains; is = λ q. refl },
      record { has_old = keeps_old; has_new = λ q s. subst (λ (q : G). Contains (new q) k) (same_Some g q s) has_this; from = comes },
    )

  pub held_same : (h : Held K G) (old : G → List K) (k : K) → Holds cmp index h old → HoldsMore cmp index h old None k
  held_same h old k o = (old, o, record { has_old = λ a q c. c; has_new = λ q s. absurd (none-some q s); from = λ a q c. inl c })

module _ {K G : Type 0} (cmp : G → G → Ordering) (index : G → ℕ) where
  -- nothing is held
  pub held_none : (h : Held K G) (n : ℕ) → 0 < n → h.heads.items ≡ replicate n 0 → Holds cmp index h (λ _. [])
  held_none h n p e = record {
    lists = λ _. [];
    some = omega (arith, p, long);
    chains = λ at b. (0, slice_get-get_or h.heads.items at 0 b ∙ ap Some (ap (λ (y : List ℕ). get_or y at 0) e ∙ get_or-replicate n at 0 0 (omega (arith, b, long))), none);
    is = λ g. refl;
  }
    where
      long : length h.heads.items ≡ n
      long = ap length e ∙ length-replicate n 0

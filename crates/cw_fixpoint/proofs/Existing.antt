-- What is closed in a finite set has a list, and what a list has can be put in order: by what a list lacks of the set, which is less each time.
use Rattle.std.proofs.Common.{◌≡◌, ◌⊎◌, ℕ, zero, suc, ◌<◌, ◌≤◌, List, [], ◌∷◌, length, refl, sym, ap, ◌∙◌, subst, inl, inr, arith}
use Rattle.std.specs.List.{AllByRecursion, Contains, flat_map, range_with_len}
use Rattle.std.specs.List.Sorted.{IsStrictlySortedBy}
use Rattle.std.specs.FinMap.{IsAntisymmetric}
use Rattle.std.specs.Cmp.{IsTotalOrder, tied_itself}
use Rattle.std.specs.Ordering.{ordering_reverse}
use Rattle.std.specs.declared.cmp.Ordering.{Ordering}
use Rattle.std.specs.declared.cmp.Ordering.TheVariants.{Less, Equal, Greater}
use Rattle.std.proofs.lemmas.List.Elements.{Contains-append_left, Contains-append_right, Contains-append_cases}
use Rattle.std.proofs.lemmas.List.FromFn.{length-range_with_len, get_or-range_with_len}
use Rattle.cw_lemmas.proofs.Lists.{contains_none, contains_one, head_in, tail_in, in_either}
use Rattle.cw_fixpoint.specs.Closures.{Exactly}

module _ {K : Type 0} where
  -- a list without one of its elements
  take_out : (ys : List K) (y : K) → Contains ys y → (zs : List K) × (length ys ≡ suc (length zs)) × ((z : K) → Contains ys z → (z ≡ y → ⊥) → Contains zs z)
  take_out [] y h = absurd (contains_none y h)
  take_out (x ∷ ys) y h = go (in_either x ys y h) (take_out ys y)
    where
      go : (x ≡ y) ⊎ Contains ys y → (Contains ys y → (zs : List K) × (length ys ≡ suc (length zs)) × ((z : K) → Contains ys z → (z ≡ y → ⊥) → Contains zs z))
          → (zs : List K) × (length (x ∷ ys) ≡ suc (length zs)) × ((z : K) → Contains (x ∷ ys) z → (z ≡ y → ⊥) → Contains zs z)
      go (inl e) rest = (ys, refl, λ z c d. elim (in_either x ys z c) [ inl f ↦ absurd (d (sym f ∙ e)) | inr m ↦ m ])
      go (inr m) rest =
          let k = rest m in
          (x ∷ k.0, ap suc k.1, λ z c d. elim (in_either x ys z c) [ inl f ↦ subst (λ w. Contains (x ∷ k.0) w) f (head_in x k.0) | inr n ↦ tail_in x k.0 z (k.2 z n d) ])

  all_more : (P Q : K → Type 0) (xs : List K) → AllByRecursion P xs → ((x : K) → P x → Q x) → AllByRecursion Q xs
  all_more P Q [] h f = tt
  all_more P Q (x ∷ xs) h f = (f x h.0, all_more P Q xs h.1 f)

-- the numbers below a bound
pub numbers : ℕ → List ℕ
numbers n = range_with_len 0 n

pub in_numbers : (n k : ℕ) → k < n → Contains (numbers n) k
unfolding numbers
in_numbers n k lt = (k, omega (arith, lt, length-range_with_len 0 n), get_or-range_with_len 0 n k k lt ∙ omega arith)

-- what is in a list of lists put one behind the other
module _ {X A : Type 0} (f : X → List A) where
  pub in_flat : (xs : List X) (x : X) (y : A) → Contains xs x → Contains (f x) y → Contains (flat_map f xs) y
  in_flat [] x y h c = absurd (contains_none x h)
  in_flat (z ∷ xs) x y h c = elim (in_either z xs x h) [
    | inl e ↦ Contains-append_left (f z) (flat_map f xs) y (subst (λ w. Contains (f w) y) (sym e) c)
    | inr m ↦ Contains-append_right (f z) (flat_map f xs) y (in_flat xs x y m c)
  ]

  pub of_flat : (xs : List X) (y : A) → Contains (flat_map f xs) y → (x : X) × Contains xs x × Contains (f x) y
  of_flat [] y h = absurd (contains_none y h)
  of_flat (z ∷ xs) y h = elim (Contains-append_cases (f z) (flat_map f xs) y h) [
    | inl c ↦ (z, head_in z xs, c)
    | inr m ↦ let k = of_flat xs y m in (k.0, Contains-append_right (z ∷ []) xs k.0 k.1, k.2)
  ]

put_by : {K : Type 0} → Ordering → K → K → List K → List K → List K
put_by Less x y ys more = x ∷ (y ∷ ys)
put_by Equal x y ys more = y ∷ ys
put_by Greater x y ys more = y ∷ more

module _ {K : Type 0} (cmp : K → K → Ordering) (total : IsTotalOrder cmp) (exact : IsAntisymmetric cmp) where
  -- into an ascending list, where it belongs by the order
  put : K → List K → List K
  put x [] = x ∷ []
  put x (y ∷ ys) = put_by (cmp x y) x y ys (put x ys)

  all_put : (P : K → Type 0) (x : K) (ys : List K) → P x → AllByRecursion P ys → AllByRecursion P (put x ys)
  unfolding put put_by
  all_put P x [] p h = (p, tt)
  all_put P x (y ∷ ys) p h = go (cmp x y) (all_put P x ys p h.1)
    where
      go : (o : Ordering) → AllByRecursion P (put x ys) → AllByRecursion P (put_by o x y ys (put x ys))
      go Less r = (p, h)
      go Equal r = h
      go Greater r = (h.0, r)

  sorted_put : (x : K) (ys : List K) → IsStrictlySortedBy cmp ys → IsStrictlySortedBy cmp (put x ys)
  unfolding IsStrictlySortedBy put put_by
  sorted_put x [] h = (tt, tt)
  sorted_put x (y ∷ ys) h = go (cmp x y) refl (sorted_put x ys h.1)
    where
      go : (o : Ordering) → cmp x y ≡ o → IsStrictlySortedBy cmp (put x ys) → IsStrictlySortedBy cmp (put_by o x y ys (put x ys))
      go Less e r = ((e, all_more (λ z. cmp y z ≡ Less) (λ z. cmp x z ≡ Less) ys h.0 (λ z f. total.trans x y z e f)), h)
      go Equal e r = h
      go Greater e r = (all_put (λ z. cmp y z ≡ Less) x ys (total.antisymm y x ∙ ap ordering_reverse e) h.0, r)

  put_has : (x : K) (ys : List K) → Contains (put x ys) x
  unfolding put put_by
  put_has x [] = head_in x []
  put_has x (y ∷ ys) = go (cmp x y) refl (put_has x ys)
    where
      go : (o : Ordering) → cmp x y ≡ o → Contains (put x ys) x → Contains (put_by o x y ys (put x ys)) x
      go Less e r = head_in x (y ∷ ys)
      go Equal e r = subst (λ z. Contains (y ∷ ys) z) (sym (exact x y e)) (head_in y ys)
      go Greater e r = tail_in y (put x ys) x r

  put_keeps : (x : K) (ys : List K) (z : K) → Contains ys z → Contains (put x ys) z
  unfolding put put_by
  put_keeps x [] z h = absurd (contains_none z h)
  put_keeps x (y ∷ ys) z h = go (cmp x y) (in_either y ys z h) (put_keeps x ys z)
    where
      go : (o : Ordering) → (y ≡ z) ⊎ Contains ys z → (Contains ys z → Contains (put x ys) z) → Contains (put_by o x y ys (put x ys)) z
      go Less c r = tail_in x (y ∷ ys) z h
      go Equal c r = h
      go Greater (inl e) r = subst (λ w. Contains (y ∷ put x ys) w) e (head_in y (put x ys))
      go Greater (inr m) r = tail_in y (put x ys) z (r m)

  put_from : (x : K) (ys : List K) (z : K) → Contains (put x ys) z → (x ≡ z) ⊎ Contains ys z
  unfolding put put_by
  put_from x [] z h = inl (contains_one x z h)
  put_from x (y ∷ ys) z h = go (cmp x y) (put_from x ys z) h
    where
      go : (o : Ordering) → (Contains (put x ys) z → (x ≡ z) ⊎ Contains ys z) → Contains (put_by o x y ys (put x ys)) z → (x ≡ z) ⊎ Contains (y ∷ ys) z
      go Less r c = in_either x (y ∷ ys) z c
      go Equal r c = inr c
      go Greater r c = elim (in_either y (put x ys) z c) [
        | inl e ↦ inr (subst (λ w. Contains (y ∷ ys) w) e (head_in y ys))
        | inr m ↦ elim (r m) [ inl f ↦ inl f | inr n ↦ inr (tail_in y ys z n) ]
      ]

  sort : List K → List K
  sort [] = []
  sort (x ∷ xs) = put x (sort xs)

  sorted : (xs : List K) → IsStrictlySortedBy cmp (sort xs)
  unfolding sort IsStrictlySortedBy
  sorted [] = tt
  sorted (x ∷ xs) = sorted_put x (sort xs) (sorted xs)

  sort_has : (xs : List K) (z : K) → Contains xs z → Contains (sort xs) z
  unfolding sort
  sort_has [] z h = absurd (contains_none z h)
  sort_has (x ∷ xs) z h = elim (in_either x xs z h) [
    | inl e ↦ subst (λ w. Contains (put x (sort xs)) w) e (put_has x (sort xs))
    | inr m ↦ put_keeps x (sort xs) z (sort_has xs z m)
  ]

  sort_from : (xs : List K) (z : K) → Contains (sort xs) z → Contains xs z
  unfolding sort
  sort_from [] z h = absurd (contains_none z h)
  sort_from (x ∷ xs) z h = elim (put_from x (sort xs) z h) [
    | inl e ↦ subst (λ w. Contains (x ∷ xs) w) e (head_in x xs)
    | inr m ↦ tail_in x xs z (sort_from xs z m)
  ]

  -- what a list has, in order and each once
  pub in_order : (xs : List K) → (ys : List K) × Exactly cmp (Contains xs) ys
  in_order xs = (sort xs, (sorted xs, λ z. (sort_from xs z, sort_has xs z)))

  same_or_not : (x y : K) → (x ≡ y) ⊎ (x ≡ y → ⊥)
  same_or_not x y = go (cmp x y) refl
    where
      other : (o : Ordering) → cmp x y ≡ o → (o ≡ Equal → ⊥) → x ≡ y → ⊥
      other o e never same = never (sym e ∙ subst (λ z. cmp x z ≡ Equal) same (tied_itself total x))

      go : (o : Ordering) → cmp x y ≡ o → (x ≡ y) ⊎ (x ≡ y → ⊥)
      go Equal e = inl (exact x y e)
      go Less e = inr (other Less e (λ f. cc))
      go Greater e = inr (other Greater e (λ f. cc))

  in_or_not : (xs : List K) (x : K) → Contains xs x ⊎ (Contains xs x → ⊥)
  in_or_not [] x = inr (contains_none x)
  in_or_not (y ∷ ys) x = elim (same_or_not y x) [
    | inl e ↦ inl (subst (λ w. Contains (y ∷ ys) w) e (head_in y ys))
    | inr d ↦ elim (in_or_not ys x) [
      | inl m ↦ inl (tail_in y ys x m)
      | inr n ↦ inr (λ h. elim (in_either y ys x h) [ inl e ↦ absurd (d e) | inr m ↦ absurd (n m) ])
    ]
  ]

  find_new : (ys xs : List K) → ((y : K) × Contains ys y × (Contains xs y → ⊥)) ⊎ ((y : K) → Contains ys y → Contains xs y)
  find_new [] xs = inr (λ y h. absurd (contains_none y h))
  find_new (y ∷ ys) xs = elim (in_or_not xs y) [
    | inr n ↦ inl (y, head_in y ys, n)
    | inl m ↦ elim (find_new ys xs) [
      | inl k ↦ inl (k.0, tail_in y ys k.0 k.1, k.2)
      | inr all ↦ inr (λ z h. elim (in_either y ys z h) [ inl e ↦ subst (λ w. Contains xs w) e m | inr t ↦ all z t ])
    ]
  ]

  -- P is of what is in the universe alone, and of what is next to such
  module _ (P : K → Type 0) (next : List K → List K) (sound : (xs : List K) → ((x : K) → Contains xs x → P x) → (y : K) → Contains (next xs) y → P y) where
    -- an ascending list of such, with these, to which nothing is next that it lacks
    pub record Closed (xs ys : List K) : Type 0 where
      pub order : IsStrictlySortedBy cmp ys
      pub are : (x : K) → Contains ys x → P x
      pub has : (x : K) → Contains xs x → Contains ys x
      pub closed : (x : K) → Contains (next ys) x → Contains ys x

    grow : (n : ℕ) (xs rest : List K) → length rest ≤ n → IsStrictlySortedBy cmp xs → ((x : K) → Contains xs x → P x) → ((z : K) → P z → Contains xs z ⊎ Contains rest z)
        → (ys : List K) × Closed xs ys
    grow zero xs rest few order are covers = elim (find_new (next xs) xs) [
      | inr all ↦ (xs, record { order = order; are = are; has = λ x h. h; closed = all })
      | inl new ↦ elim (covers new.0 (sound xs are new.0 new.1)) [
        | inl old ↦ absurd (new.2 old)
        | inr there ↦ let k = take_out rest new.0 there in absurd (let e = k.1 in omega (arith, few, e))
      ]
    ]
    grow (suc m) xs rest few order are covers = elim (find_new (next xs) xs) [
      | inr all ↦ (xs, record { order = order; are = are; has = λ x h. h; closed = all })
      | inl new ↦
          let x = new.0 in
          let p = sound xs are x new.1 in
          elim (covers x p) [
            | inl old ↦ absurd (new.2 old)
            | inr there ↦
                let k = take_out rest x there in
                let e = k.1 in
                let g = grow m (put x xs) k.0 (omega (arith, few, e)) (sorted_put x xs order)
                (λ z h. elim (put_from x xs z h) [ inl f ↦ subst P f p | inr old ↦ are z old ])
                (λ z q. elim (covers z q) [
                  | inl old ↦ inl (put_keeps x xs z old)
                  | inr left ↦ elim (same_or_not z x) [ inl f ↦ inl (subst (λ w. Contains (put x xs) w) (sym f) (put_has x xs)) | inr d ↦ inr (k.2 z left d) ]
                ]) in
                (g.0, record { order = g.1.order; are = g.1.are; has = λ z h. g.1.has z (put_keeps x xs z h); closed = g.1.closed })
          ]
    ]

    pub closed_in : (universe starts : List K) → ((z : K) → P z → Contains universe z) → ((x : K) → Contains starts x → P x) → (ys : List K) × Closed starts ys
    closed_in universe starts within are =
        let g = grow (length universe) (sort starts) universe (omega arith) (sorted starts) (λ x h. are x (sort_from starts x h)) (λ z p. inr (within z p)) in
        (g.0, record { order = g.1.order; are = g.1.are; has = λ x h. g.1.has x (sort_has starts x h); closed = g.1.closed })

-- One more key seen, by a hint or among the others; and all keys that were seen.
use Rattle.std.proofs.Common.{◌≡◌, ◌⊎◌, inl, inr, ℕ, ◌+◌, List, [], ◌∷◌, ◌++◌, Bool, true, false, Some, filter_map, set, length, refl, sym, ap, ◌∙◌, subst, arith, append-nil}
use Rattle.std.specs.Prelude.{slice_get}
use Rattle.std.specs.BTreeSet.{BTreeSet, contains, Updates}
use Rattle.std.specs.Cmp.{IsTotalOrder, both_ways}
use Rattle.std.specs.FinMap.{IsAntisymmetric}
use Rattle.std.specs.List.{Contains, IsDistinct, list_any}
use Rattle.std.specs.Ordering.{eq_by_cmp}
use Rattle.std.specs.Set.{is_member}
use Rattle.std.specs.declared.cmp.Ordering.{Ordering}
use Rattle.std.proofs.lemmas.Bool.{cases_Bool, cases_eq}
use Rattle.std.proofs.lemmas.Cmp.{eq_by_cmp_equiv}
use Rattle.std.proofs.lemmas.List.Elements.{Contains-append_cases, Contains-append_left, Contains-append_right, Contains-push, Contains-push_cases}
use Rattle.std.proofs.lemmas.Map.Keys.{IsDistinct-from_sorted, IsDistinct-push}
use Rattle.std.proofs.lemmas.Map.Made.{length-from_same_keys}
use Rattle.std.proofs.lemmas.Map.Views.{Contains-from_any, list_any-from_Contains, btree_set_contains_iff}
use Rattle.std.proofs.lemmas.Option.{same_Some}
use Rattle.cw_lemmas.proofs.Lists.{contains_none, contains_one, get_set, get_other}
use Rattle.cw_lemmas.proofs.Truths.{not_both}
use Rattle.cw_fixpoint.specs.Closures.{Exactly}
use Rattle.cw_fixpoint.specs.Seen.{SeenIs, Adds}
use Rattle.cw_fixpoint.proofs.Existing.{in_order}
use Rattle.cw_fixpoint.proofs.Keys.{inserted_old, inserted_new, inserted_from}
use Rattle.cw_joins.specs.Seeing.{named, IsFree, IsHinted, IsSeen}
use Rattle.cw_joins.proofs.Entries.{named_in, named_more, named_last, filtered_from, filtered_to}
use Rattle.cw_fixpoint.proofs.Numbers.{equal_is}

pub adds_new : {K : Type 0} (keys : List K) (k : K) → Adds keys (keys ++ k ∷ []) (k ∷ [])
adds_new keys k = record { more = k ∷ []; is = refl; from = λ q c. c; has = λ q c. Contains-append_right keys (k ∷ []) q c }

pub adds_put : {K : Type 0} (keys keys' : List K) (k : K) → keys' ≡ keys ++ k ∷ [] → Adds keys keys' (k ∷ [])
adds_put keys keys' k e = subst (λ y. Adds keys y (k ∷ [])) (sym e) (adds_new keys k)

pub adds_none : {K : Type 0} (keys : List K) (k : K) → Contains keys k → Adds keys keys (k ∷ [])
adds_none keys k c = record { more = []; is = sym (append-nil keys); from = λ q n. absurd (contains_none q n); has = λ q o. subst (Contains keys) (contains_one k q o) c }

-- nothing is seen
pub seen_none : {K : Type 0} (cmp : K → K → Ordering) (index : K → ℕ) (hints : List ℕ) → IsSeen cmp index [] hints []
unfolding IsDistinct
seen_none cmp index hints = record {
  once = tt;
  noted = λ k c. absurd (contains_none k c);
  found = λ k c. absurd (contains_none k c);
  from = λ k c. absurd (contains_none k c);
}

module _ {K : Type 0} (cmp : K → K → Ordering) (total : IsTotalOrder cmp) (exact : IsAntisymmetric cmp) where
  once_more : (keys : List K) (k : K) → IsDistinct (eq_by_cmp cmp) keys → (Contains keys k → ⊥) → IsDistinct (eq_by_cmp cmp) (keys ++ k ∷ [])
  once_more keys k once out = IsDistinct-push (eq_by_cmp_equiv total) keys k once
      (elim (cases_Bool (list_any (eq_by_cmp cmp k) keys)) [ inl t ↦ absurd (out (Contains-from_any (equal_is cmp total exact) k keys t)) | inr f ↦ f ])

  same_length : (xs ys : List K) → IsDistinct (eq_by_cmp cmp) xs → IsDistinct (eq_by_cmp cmp) ys → ((x : K) → (Contains xs x → Contains ys x) × (Contains ys x → Contains xs x)) → length xs ≡ length ys
  same_length xs ys d e same = length-from_same_keys (eq_by_cmp_equiv total) xs ys d e
      (λ q. both_ways (is_member (eq_by_cmp cmp) xs q) (is_member (eq_by_cmp cmp) ys q)
      (λ t. list_any-from_Contains (eq_by_cmp_equiv total) q ys ((same q).0 (Contains-from_any (equal_is cmp total exact) q xs t)))
      (λ t. list_any-from_Contains (eq_by_cmp_equiv total) q xs ((same q).1 (Contains-from_any (equal_is cmp total exact) q ys t))))

  pub as_many : (keys v : List K) → IsDistinct (eq_by_cmp cmp) keys → Exactly cmp (Contains keys) v → length v ≡ length keys
  as_many keys v once e = same_length v keys (IsDistinct-from_sorted cmp v e.0) once (λ x. e.1 x)

  -- keys that were seen once each, in order
  pub in_set : (keys : List K) → IsDistinct (eq_by_cmp cmp) keys → (set : List K) × SeenIs cmp keys set
  in_set keys once =
      let s = in_order cmp total exact keys in
      (s.0, record { same = λ k. ((s.1.1 k).1, (s.1.1 k).0); once = same_length s.0 keys (IsDistinct-from_sorted cmp s.0 s.1.0) once (λ x. s.1.1 x); order = s.1.0 })

  module _ (index : K → ℕ) where
    -- a new key, and at its index the hint to it
    module _ (keys : List K) (hints : List ℕ) (others : List K) (k : K) (h : IsSeen cmp index keys hints others) (free : IsFree hints (index k)) where
      abbrev hinted : List ℕ
      hinted = set hints (index k) (length keys + 2)

      here : slice_get hinted (index k) ≡ Some (length keys + 2)
      here = get_set hints (index k) 1 (length keys + 2) free

      notes : (q : K) → Contains (keys ++ k ∷ []) q → IsFree hinted (index q) → ⊥
      notes q c none = elim (cases_eq (index q) (index k)) [
        | inl e ↦ let z : length keys + 2 ≡ 1 = same_Some (length keys + 2) 1 (sym here ∙ subst (IsFree hinted) e none) in omega (arith, z)
        | inr n ↦ elim (Contains-push_cases keys k q c) [
          | inl old ↦ h.noted q old (sym (get_other hints (index k) (index q) (length keys + 2) n) ∙ none)
          | inr e ↦ n (ap index (sym e))
        ]
      ]

      finds : (q : K) → Contains (keys ++ k ∷ []) q → IsHinted (keys ++ k ∷ []) hinted (index q) q ⊎ Contains others q
      finds q c = elim (Contains-push_cases keys k q c) [
        | inl old ↦ elim (h.found q old) [
          | inl f ↦ inl (f.0, get_other hints (index k) (index q) (length keys + 2) (λ e. h.noted q old (ap (slice_get hints) e ∙ free)) ∙ f.1, named_more keys (k ∷ []) f.0 q f.2)
          | inr m ↦ inr m
        ]
        | inr e ↦ subst (λ (x : K). IsHinted (keys ++ k ∷ []) hinted (index x) x ⊎ Contains others x) e (inl (length keys + 2, here, named_last keys k))
      ]

      pub seen_hinted : IsSeen cmp index (keys ++ k ∷ []) (set hints (index k) (length keys + 2)) others
      seen_hinted = record {
        once = once_more keys k h.once (λ c. h.noted k c free);
        noted = notes;
        found = finds;
        from = λ q c. Contains-append_left keys (k ∷ []) q (h.from q c);
      }

    -- a key of which the hint at its index tells nothing
    module _ (keys : List K) (hints : List ℕ) (s n : BTreeSet K) (k : K) (h : IsSeen cmp index keys hints s.keys) (free : IsFree hints (index k) → ⊥) (hint : IsHinted keys hints (index k) k → ⊥)
        (u : Updates cmp s n k true) where
      there : contains cmp s k ≡ true → Contains keys k
      there t = h.from k ((btree_set_contains_iff total exact s k).0 t)

      not_there : contains cmp s k ≡ false → Contains keys k → ⊥
      not_there f c = elim (h.found k c) [ inl g ↦ hint g | inr m ↦ not_both (contains cmp s k) ((btree_set_contains_iff total exact s k).1 m) f ]

      seen_again : contains cmp s k ≡ true → IsSeen cmp index keys hints n.keys
      seen_again t = record {
        once = h.once;
        noted = h.noted;
        found = λ q c. elim (h.found q c) [ inl g ↦ inl g | inr m ↦ inr (inserted_old cmp total exact s n k u q m) ];
        from = λ q c. elim (inserted_from cmp total exact s n k u q c) [ inl e ↦ subst (Contains keys) e (there t) | inr m ↦ h.from q m ];
      }

      seen_among : contains cmp s k ≡ false → IsSeen cmp index (keys ++ k ∷ []) hints n.keys
      seen_among f = record {
        once = once_more keys k h.once (not_there f);
        noted = λ q c. elim (Contains-push_cases keys k q c) [ inl old ↦ h.noted q old | inr e ↦ subst (λ (x : K). IsFree hints (index x) → ⊥) e free ];
        found = λ q c. elim (Contains-push_cases keys k q c) [
          | inl old ↦ elim (h.found q old) [ inl g ↦ inl (g.0, g.1, named_more keys (k ∷ []) g.0 q g.2) | inr m ↦ inr (inserted_old cmp total exact s n k u q m) ]
          | inr e ↦ inr (subst (Contains n.keys) e (inserted_new cmp total exact s n k u))
        ];
        from = λ q c. elim (inserted_from cmp total exact s n k u q c) [
          | inl e ↦ subst (Contains (keys ++ k ∷ [])) e (Contains-push keys k)
          | inr m ↦ Contains-append_left keys (k ∷ []) q (h.from q m)
        ];
      }

      module _ (keys' : List K) (hints' : List ℕ) (new : contains cmp s k ≡ false → keys' ≡ keys ++ k ∷ []) (old : contains cmp s k ≡ true → keys' ≡ keys) where
        pub seen_other : hints' ≡ hints → IsSeen cmp index keys' hints' n.keys
        seen_other same = subst (λ (y : List ℕ). IsSeen cmp index keys' y n.keys) (sym same) (by (contains cmp s k) refl)
          where
            by : (b : Bool) → contains cmp s k ≡ b → IsSeen cmp index keys' hints n.keys
            by true t = subst (λ (y : List K). IsSeen cmp index y hints n.keys) (sym (old t)) (seen_again t)
            by false f = subst (λ (y : List K). IsSeen cmp index y hints n.keys) (sym (new f)) (seen_among f)

        pub adds_other : Adds keys keys' (k ∷ [])
        adds_other = by (contains cmp s k) refl
          where
            by : (b : Bool) → contains cmp s k ≡ b → Adds keys keys' (k ∷ [])
            by true t = subst (λ (y : List K). Adds keys y (k ∷ [])) (sym (old t)) (adds_none keys k (there t))
            by false f = subst (λ (y : List K). Adds keys y (k ∷ [])) (sym (new f)) (adds_new keys k)

    -- what hints name and the others are all keys that were seen
    pub all_found : (keys : List K) (hints : List ℕ) (others v : List K) → IsSeen cmp index keys hints others → Exactly cmp (Contains (filter_map (named keys) hints ++ others)) v
        → Exactly cmp (Contains keys) v
    all_found keys hints others v h e = (e.0, λ x. (λ c. from x ((e.1 x).0 c), λ c. (e.1 x).1 (to x c)))
      where
        from : (x : K) → Contains (filter_map (named keys) hints ++ others) x → Contains keys x
        from x c = elim (Contains-append_cases (filter_map (named keys) hints) others x c) [
          | inl f ↦ let z = filtered_from (named keys) hints x f in named_in keys z.0 x z.1
          | inr m ↦ h.from x m
        ]

        to : (x : K) → Contains keys x → Contains (filter_map (named keys) hints ++ others) x
        to x c = elim (h.found x c) [
          | inl f ↦ Contains-append_left (filter_map (named keys) hints) others x (filtered_to (named keys) hints (index x) f.0 x f.1 f.2)
          | inr m ↦ Contains-append_right (filter_map (named keys) hints) others x m
        ]

    -- one key seen, in the code's words
    module _ (keys : List K) (hints : List ℕ) (k : K) (at : ℕ) (is : at ≡ index k) (keys' : List K) (hints' : List ℕ) where
      pub put_hint : (others others' : List K) → IsSeen cmp index keys hints others → IsFree hints at → keys' ≡ keys ++ k ∷ [] → hints' ≡ set hints at (length keys + 2) → others' ≡ others
          → IsSeen cmp index keys' hints' others'
      put_hint others others' h free a b c =
          subst (λ (y : List K). IsSeen cmp index y hints' others') (sym a)
          (subst (λ (y : List ℕ). IsSeen cmp index (keys ++ k ∷ []) y others') (sym (b ∙ ap (λ (i : ℕ). set hints i (length keys + 2)) is))
          (subst (λ (y : List K). IsSeen cmp index (keys ++ k ∷ []) (set hints (index k) (length keys + 2)) y) (sym c) (seen_hinted keys hints others k h (subst (IsFree hints) is free))))

      module _ (s n : BTreeSet K) (h : IsSeen cmp index keys hints s.keys) (tells : (IsFree hints at → ⊥) × (IsHinted keys hints at k → ⊥)) (u : Updates cmp s n k true)
          (new : contains cmp s k ≡ false → keys' ≡ keys ++ k ∷ []) (old : contains cmp s k ≡ true → keys' ≡ keys) where
        pub put_among : hints' ≡ hints → IsSeen cmp index keys' hints' n.keys
        put_among same = seen_other keys hints s n k h (λ f. tells.0 (subst (IsFree hints) (sym is) f)) (λ f. tells.1 (subst (λ (i : ℕ). IsHinted keys hints i k) (sym is) f)) u keys' hints' new old same

        pub adds_among : Adds keys keys' (k ∷ [])
        adds_among = adds_other keys hints s n k h (λ f. tells.0 (subst (IsFree hints) (sym is) f)) (λ f. tells.1 (subst (λ (i : ℕ). IsHinted keys hints i k) (sym is) f)) u keys' hints' new old

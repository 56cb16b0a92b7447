-- The loop over what is seen, where keys are joined.
use Rattle.std.proofs.Common.{◌≡◌, ◌⊎◌, inl, inr, ℕ, ◌+◌, ◌<◌, ◌≤◌, List, [], ◌∷◌, ◌++◌, Bool, true, false, Option, Some, None, map, length, get_or, refl, sym, ap, ◌∙◌, subst, arith, ⊎_elim}
use Rattle.std.proofs.Common.{length-append, eqb-true, nat_eq}
use Rattle.std.proofs.lemmas.List.{get_or_append_left, get_or_default}
use Rattle.std.specs.List.{Contains}
use Rattle.std.specs.declared.cmp.Ordering.{Ordering}
use Rattle.std.proofs.lemmas.Bool.Decides.{nat_tests}
use Rattle.std.proofs.lemmas.List.Elements.{Contains-append_left, Contains-append_right, Contains-append_cases}
use Rattle.cw_fixpoint.specs.Seen.{SeenIs, Adds}
use Rattle.cw_joins.specs.Members.{Rules, IsMember, first, then, joins, AreMet, IsPair, pair_cmp, HaveMore}
use Rattle.cw_joins.specs.Working.{PutsIn, held_if, met_by, join_of, Below, Reached}
use Rattle.cw_lemmas.proofs.Lists.{contains_none, contains_one}
use Rattle.cw_lemmas.proofs.Lists.{contains_map, head_in}

-- elements of a mapped list
abbrev pub In : {A : Type 0} → List A → A → Type 0
In [] x = ⊥
In (y ∷ ys) x = (y ≡ x) ⊎ In ys x

in_of : {A : Type 0} (xs : List A) (x : A) → Contains xs x → In xs x
in_of [] x c = contains_none x c
in_of (y ∷ ys) x c = ⊎_elim (λ d. inl (contains_one y x d)) (λ d. inr (in_of ys x d)) (Contains-append_cases (y ∷ []) ys x c)

of_in : {A : Type 0} (xs : List A) (x : A) → In xs x → Contains xs x
of_in [] x n = absurd n
of_in (y ∷ ys) x (inl e) = subst (Contains (y ∷ ys)) e (head_in y ys)
of_in (y ∷ ys) x (inr n) = Contains-append_right (y ∷ []) ys x (of_in ys x n)

map_of : {A B : Type 0} (f : A → B) (xs : List A) (y : B) → In (map f xs) y → (x : A) × In xs x × (y ≡ f x)
map_of f [] y n = absurd n
map_of f (x ∷ xs) y (inl i) = (x, inl refl, sym i)
map_of f (x ∷ xs) y (inr n) = let z = map_of f xs y n in (z.0, inr z.1, z.2)

pub contains_mapped : {A B : Type 0} (f : A → B) (xs : List A) (y : B) → Contains (map f xs) y → (x : A) × Contains xs x × (y ≡ f x)
contains_mapped f xs y c = let z = map_of f xs y (in_of (map f xs) y c) in (z.0, of_in xs z.0 z.1, z.2)

-- what the start has, and steps and joins keep
pub member_has : {K G : Type 0} (r : Rules K G) (start : K) (P : K → Type 0) → P start → ((k q : K) → P k → Contains (r.after k) q → P q)
    → ((a b : K) (g : G) → P a → P b → r.waits a ≡ Some g → r.ends b ≡ Some g → P (r.join a b)) → (k : K) → IsMember r start k → P k
member_has r start P s f j k first = s
member_has r start P s f j k (then a b n c) = f a k (member_has r start P s f j a n) c
member_has r start P s f j k (joins a b g n m w e) = j a b g (member_has r start P s f j a n) (member_has r start P s f j b m) w e

module _ {K G : Type 0} (r : Rules K G) (start : K) where
  -- a pair of the key k with what is held
  abbrev Meets : (waiting ended : G → List K) → K → K × K → Type 0
  Meets waiting ended k ab = ((g : G) × (r.waits k ≡ Some g) × (ab.0 ≡ k) × Contains (ended g) ab.1) ⊎ ((g : G) × (r.ends k ≡ Some g) × (ab.1 ≡ k) × Contains (waiting g) ab.0)

  from_ended : (E : G → List K) (o : Option G) (k : K) (ab : K × K) → Contains (map (λ b. (k, b)) (held_if E o)) ab → (g : G) × (o ≡ Some g) × (ab.0 ≡ k) × Contains (E g) ab.1
  from_ended E None k ab c = absurd (contains_none ab c)
  from_ended E (Some g) k ab c = let z = contains_mapped (λ b. (k, b)) (E g) ab c in (g, refl, ap (λ y. y.0) z.2, subst (Contains (E g)) (sym (ap (λ y. y.1) z.2)) z.1)

  from_waiting : (W : G → List K) (o : Option G) (k : K) (ab : K × K) → Contains (map (λ a. (a, k)) (held_if W o)) ab → (g : G) × (o ≡ Some g) × (ab.1 ≡ k) × Contains (W g) ab.0
  from_waiting W None k ab c = absurd (contains_none ab c)
  from_waiting W (Some g) k ab c = let z = contains_mapped (λ a. (a, k)) (W g) ab c in (g, refl, ap (λ y. y.1) z.2, subst (Contains (W g)) (sym (ap (λ y. y.0) z.2)) z.1)

  met_from : (W E : G → List K) (k : K) (ab : K × K) → Contains (met_by W E (r.waits k) (r.ends k) k) ab → Meets W E k ab
  met_from W E k ab c = ⊎_elim (λ d. inl (from_ended E (r.waits k) k ab d)) (λ d. inr (from_waiting W (r.ends k) k ab d))
      (Contains-append_cases (map (λ b. (k, b)) (held_if E (r.waits k))) (map (λ a. (a, k)) (held_if W (r.ends k))) ab c)

  met_ended : (W E : G → List K) (k b : K) (g : G) → r.waits k ≡ Some g → Contains (E g) b → Contains (met_by W E (r.waits k) (r.ends k) k) (k, b)
  met_ended W E k b g w c = Contains-append_left (map (λ b. (k, b)) (held_if E (r.waits k))) (map (λ a. (a, k)) (held_if W (r.ends k))) (k, b)
      (contains_map (λ b. (k, b)) (held_if E (r.waits k)) b (subst (λ o. Contains (held_if E o) b) (sym w) c))

  met_waiting : (W E : G → List K) (k a : K) (g : G) → r.ends k ≡ Some g → Contains (W g) a → Contains (met_by W E (r.waits k) (r.ends k) k) (a, k)
  met_waiting W E k a g w c = Contains-append_right (map (λ b. (k, b)) (held_if E (r.waits k))) (map (λ a. (a, k)) (held_if W (r.ends k))) (a, k)
      (contains_map (λ a. (a, k)) (held_if W (r.ends k)) a (subst (λ o. Contains (held_if W o) a) (sym w) c))

  pub reached_start : (seen : List K) (W E : G → List K) → ((g : G) → W g ≡ []) → ((g : G) → E g ≡ []) → Adds [] seen (start ∷ []) → Reached r start seen [] W E 0
  reached_start seen W E w e a = record {
    needed = λ k c. subst (IsMember r start) (contains_one start k (a.from k (subst (λ y. Contains y k) a.is c))) first;
    begins = a.has start (head_in start []);
    closed = λ x y b c. absurd (omega (arith, b.1));
    joined = λ x y g b c f h. absurd (omega (arith, b.1));
    paired = λ x y g b c f h. absurd (omega (arith, b.1));
    are_met = λ ab c. absurd (contains_none ab c);
    has_waiting = λ x g b f. absurd (omega (arith, b.1));
    has_ended = λ x g b f. absurd (omega (arith, b.1));
    is_waiting = λ x g c. absurd (contains_none x (subst (λ y. Contains y x) (w g) c));
    is_ended = λ x g c. absurd (contains_none x (subst (λ y. Contains y x) (e g) c));
    far = omega arith;
  }

  -- k, the next of what was seen, is held for its groups; what is met with it, and what is held then, was seen
  module _ (seen : List K) (pairs : List (K × K)) (W E W' E' : G → List K) (i : ℕ) (k : K) (h : Reached r start seen pairs W E i) (l : i < length seen) (at : (d : K) → get_or seen i d ≡ k)
      (p : PutsIn W W' (r.waits k) k) (q : PutsIn E E' (r.ends k) k) where
    abbrev met : List (K × K)
    met = met_by W' E' (r.waits k) (r.ends k) k

    here : Contains seen k
    here = (i, l, at k)

    from_wait : (a : K) (g : G) → Contains (W' g) a → Contains seen a × (r.waits a ≡ Some g)
    from_wait a g c = ⊎_elim (λ o. h.is_waiting a g o) (λ n. (subst (Contains seen) (sym n.0) here, ap r.waits n.0 ∙ n.1)) (p.from a g c)

    from_end : (a : K) (g : G) → Contains (E' g) a → Contains seen a × (r.ends a ≡ Some g)
    from_end a g c = ⊎_elim (λ o. h.is_ended a g o) (λ n. (subst (Contains seen) (sym n.0) here, ap r.ends n.0 ∙ n.1)) (q.from a g c)

    pub met_are : (ab : K × K) → Contains (met_by W' E' (r.waits k) (r.ends k) k) ab → Contains seen ab.0 × Contains seen ab.1 × AreMet r ab
    met_are ab c = by (met_from W' E' k ab c)
      where
        by : Meets W' E' k ab → Contains seen ab.0 × Contains seen ab.1 × AreMet r ab
        by (inl (g, w, e, d)) = let f = from_end ab.1 g d in (subst (Contains seen) (sym e) here, f.0, (g, ap r.waits e ∙ w, f.1))
        by (inr (g, w, e, d)) = let f = from_wait ab.0 g d in (f.0, subst (Contains seen) (sym e) here, (g, f.1, ap r.ends e ∙ w))

    module _ (seen' : List K) (pairs' : List (K × K)) (next : List K) (is : next ≡ r.after k ++ map (join_of r) (met_by W' E' (r.waits k) (r.ends k) k)) (s : Adds seen seen' next)
        (t : Adds pairs pairs' (met_by W' E' (r.waits k) (r.ends k) k)) where
      old : (x : K) → Contains seen x → Contains seen' x
      old x c = subst (λ y. Contains y x) (sym s.is) (Contains-append_left seen s.more x c)

      old_pair : (x : K × K) → Contains pairs x → Contains pairs' x
      old_pair x c = subst (λ y. Contains y x) (sym t.is) (Contains-append_left pairs t.more x c)

      has : (x : K) → Contains (r.after k ++ map (join_of r) met) x → Contains seen' x
      has x c = s.has x (subst (λ y. Contains y x) (sym is) c)

      has_join : (ab : K × K) → Contains met ab → Contains seen' (r.join ab.0 ab.1)
      has_join ab c = has (r.join ab.0 ab.1) (Contains-append_right (r.after k) (map (join_of r) met) (r.join ab.0 ab.1) (contains_map (join_of r) met ab c))

      -- of the first i + 1, x is one of the first i, or k
      split : (x : K) → Below seen' (i + 1) x → Below seen i x ⊎ (x ≡ k)
      split x (j, b, b', e) = by (nat_eq j i) refl
        where
          in' : j < length seen
          in' = omega arith

          same : get_or seen j x ≡ x
          same = sym (get_or_append_left seen s.more x j in') ∙ sym (ap (λ y. get_or y j x) s.is) ∙ e

          by : (t : Bool) → nat_eq j i ≡ t → Below seen i x ⊎ (x ≡ k)
          by true t = let ji : j ≡ i = eqb-true j i t in inr (sym same ∙ ap (λ y. get_or seen y x) ji ∙ at x)
          by false t = let lt : j < i = grind (arith, nat_tests) in inl (j, lt, in', same)

      new_needed : (x : K) → Contains s.more x → IsMember r start x
      new_needed x c = ⊎_elim (λ d. then k x (h.needed k here) d) (λ d. by (contains_mapped (join_of r) met x d))
          (Contains-append_cases (r.after k) (map (join_of r) met) x (subst (λ y. Contains y x) is (s.from x c)))
        where
          by : (ab : K × K) × Contains met ab × (x ≡ join_of r ab) → IsMember r start x
          by z = let m = met_are z.0 z.1 in subst (IsMember r start) (sym z.2) (joins z.0.0 z.0.1 m.2.0 (h.needed z.0.0 m.0) (h.needed z.0.1 m.1) m.2.1 m.2.2)

      wait_all : (a : K) (g : G) → Below seen' (i + 1) a → r.waits a ≡ Some g → Contains (W' g) a
      wait_all a g b e = ⊎_elim (λ o. p.has_old a g (h.has_waiting a g o e)) (λ n. subst (Contains (W' g)) (sym n) (p.has_new g (sym (ap r.waits n) ∙ e))) (split a b)

      end_all : (a : K) (g : G) → Below seen' (i + 1) a → r.ends a ≡ Some g → Contains (E' g) a
      end_all a g b e = ⊎_elim (λ o. q.has_old a g (h.has_ended a g o e)) (λ n. subst (Contains (E' g)) (sym n) (q.has_new g (sym (ap r.ends n) ∙ e))) (split a b)

      -- two of the first i + 1 are two of the first i, or are met now
      old_or_met : (a b : K) (g : G) → Below seen' (i + 1) a → Below seen' (i + 1) b → r.waits a ≡ Some g → r.ends b ≡ Some g → (Below seen i a × Below seen i b) ⊎ Contains met (a, b)
      old_or_met a b g m n e f = ⊎_elim
          (λ o. ⊎_elim (λ y. inl (o, y)) (λ y. inr (subst (λ z. Contains met (a, z)) (sym y) (met_waiting W' E' k a g (sym (ap r.ends y) ∙ f) (p.has_old a g (h.has_waiting a g o e))))) (split b n))
          (λ o. inr (subst (λ z. Contains met (z, b)) (sym o) (met_ended W' E' k b g (sym (ap r.waits o) ∙ e) (end_all b g n f)))) (split a m)

      pub reached_more : Reached r start seen' pairs' W' E' (i + 1)
      reached_more = record {
        needed = λ x c. ⊎_elim (λ o. h.needed x o) (λ n. new_needed x n) (Contains-append_cases seen s.more x (subst (λ y. Contains y x) s.is c));
        begins = old start h.begins;
        closed = λ a b m c. ⊎_elim (λ o. old b (h.closed a b o c)) (λ n. has b (Contains-append_left (r.after k) (map (join_of r) met) b (subst (λ y. Contains (r.after y) b) n c))) (split a m);
        joined = λ a b g m n e f. ⊎_elim (λ o. old (r.join a b) (h.joined a b g o.0 o.1 e f)) (λ c. has_join (a, b) c) (old_or_met a b g m n e f);
        paired = λ a b g m n e f. ⊎_elim (λ o. old_pair (a, b) (h.paired a b g o.0 o.1 e f)) (λ c. t.has (a, b) c) (old_or_met a b g m n e f);
        are_met = λ ab c. let z = ⊎_elim (λ o. h.are_met ab o) (λ n. met_are ab (t.from ab n)) (Contains-append_cases pairs t.more ab (subst (λ y. Contains y ab) t.is c)) in
            (old ab.0 z.0, old ab.1 z.1, z.2);
        has_waiting = wait_all;
        has_ended = end_all;
        is_waiting = λ a g c. let f = from_wait a g c in (old a f.0, f.1);
        is_ended = λ a g c. let f = from_end a g c in (old a f.0, f.1);
        far = let m = length-append seen s.more in let n : length seen' ≡ length (seen ++ s.more) = ap length s.is in omega arith;
      }

  -- where all that was seen is worked off, all members were seen
  module _ (seen : List K) (pairs : List (K × K)) (W E : G → List K) (i : ℕ) (h : Reached r start seen pairs W E i) (l : length seen ≤ i) where
    below : (k : K) → Contains seen k → Below seen i k
    below k z = (z.0, omega (arith, z.1), z.1, z.2)

    pub all_seen : (k : K) → IsMember r start k → Contains seen k
    all_seen k first = h.begins
    all_seen k (then a b n c) = h.closed a b (below a (all_seen a n)) c
    all_seen k (joins a b g n m w e) = h.joined a b g (below a (all_seen a n)) (below b (all_seen b m)) w e

    pub all_paired : (ab : K × K) → IsPair r start ab → Contains pairs ab
    all_paired ab m = let w = m.met in h.paired ab.0 ab.1 w.0 (below ab.0 (all_seen ab.0 m.waiting)) (below ab.1 (all_seen ab.1 m.ending)) w.1 w.2

  pub are_pairs : (seen : List K) (pairs : List (K × K)) (W E : G → List K) (i : ℕ) → Reached r start seen pairs W E i → (ab : K × K) → Contains pairs ab → IsPair r start ab
  are_pairs seen pairs W E i h ab c = let m = h.are_met ab c in record { waiting = h.needed ab.0 m.0; ending = h.needed ab.1 m.1; met = m.2 }

  pub have_more : (seen : List K) (pairs : List (K × K)) (W E : G → List K) (i : ℕ) → Reached r start seen pairs W E i → (cmp : K → K → Ordering) (set : List K) (pair_set : List (K × K))
      → SeenIs cmp seen set → SeenIs (pair_cmp cmp) pairs pair_set → (n : ℕ) → n < length seen + length pairs → HaveMore cmp r start n
  have_more seen pairs W E i h cmp set pair_set s t n l = record {
    members = set;
    pairs = pair_set;
    ascend = s.order;
    rise = t.order;
    are = λ k c. h.needed k ((s.same k).1 c);
    meet = λ ab c. are_pairs seen pairs W E i h ab ((t.same ab).1 c);
    more = let a = s.once in let b = t.once in omega arith;
  }

  -- one key worked off, in the code's words
  pub worked : (seen seen' : List K) (pairs pairs' : List (K × K)) (W E W' E' : G → List K) (i : ℕ) (k : K) → Reached r start seen pairs W E i → i < length seen → k ≡ get_or seen i k
      → (waits ends : Option G) → waits ≡ r.waits k → ends ≡ r.ends k → PutsIn W W' waits k → PutsIn E E' ends k
      → (met met₁ met₂ : List (K × K)) → met ≡ met_by W' E' waits ends k → met₁ ≡ met → met₂ ≡ met
      → (none after next next₁ : List K) → none ≡ [] → after ≡ none ++ r.after k → next ≡ after ++ map (join_of r) met₁ → next₁ ≡ next
      → Adds seen seen' next₁ → Adds pairs pairs' met₂ → Reached r start seen' pairs' W' E' (i + 1)
  worked seen seen' pairs pairs' W E W' E' i k h l is waits ends w e p q met met₁ met₂ m m₁ m₂ none after next next₁ n a x x₁ s t =
      reached_more seen pairs W E W' E' i k h l (λ d. get_or_default seen i d k l ∙ sym is) (subst (λ o. PutsIn W W' o k) w p) (subst (λ o. PutsIn E E' o k) e q) seen' pairs' next₁
      (x₁ ∙ x ∙ ap (λ y. y ++ map (join_of r) met₁) (a ∙ ap (λ y. y ++ r.after k) n) ∙ ap (λ y. r.after k ++ map (join_of r) y) (m₁ ∙ are)) s (subst (Adds pairs pairs') (m₂ ∙ are) t)
    where
      are : met ≡ met_by W' E' (r.waits k) (r.ends k) k
      are = m ∙ ap (λ o. met_by W' E' o ends k) w ∙ ap (λ o. met_by W' E' (r.waits k) o k) e

  -- what is met with a key was seen, in the code's words
  pub met_seen : (seen : List K) (pairs : List (K × K)) (W E W' E' : G → List K) (i : ℕ) (k : K) → Reached r start seen pairs W E i → i < length seen → k ≡ get_or seen i k
      → (waits ends : Option G) → waits ≡ r.waits k → ends ≡ r.ends k → PutsIn W W' waits k → PutsIn E E' ends k
      → (pairs₀ pairs₁ : List (K × K)) → pairs₀ ≡ met_by W' E' waits ends k → pairs₁ ≡ pairs₀ → (ab : K × K) → Contains pairs₁ ab → Contains seen ab.0 × Contains seen ab.1
  met_seen seen pairs W E W' E' i k h l is waits ends w e p q pairs₀ pairs₁ m m₁ ab c =
      let z = met_are seen pairs W E W' E' i k h l (λ d. get_or_default seen i d k l ∙ sym is) (subst (λ o. PutsIn W W' o k) w p) (subst (λ o. PutsIn E E' o k) e q) ab
      (subst (λ y. Contains y ab) (m₁ ∙ m ∙ ap (λ o. met_by W' E' o ends k) w ∙ ap (λ o. met_by W' E' (r.waits k) o k) e) c) in
      (z.0, z.1)

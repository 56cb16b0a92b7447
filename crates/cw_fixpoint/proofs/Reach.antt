-- The keys that a loop over what it sees reaches.
use Rattle.std.proofs.Common.{◌≡◌, ℕ, ◌+◌, ◌<◌, ◌≤◌, List, [], ◌++◌, Bool, true, false, length, get_or, refl, sym, ap, ◌∙◌, subst, arith, ⊎_elim, length-append, eqb-true, nat_eq}
use Rattle.std.proofs.lemmas.List.{get_or_append_left, get_or_default}
use Rattle.std.specs.List.{Contains}
use Rattle.std.specs.List.Sorted.{IsStrictlySortedBy}
use Rattle.std.specs.declared.cmp.Ordering.{Ordering}
use Rattle.std.proofs.lemmas.Bool.Decides.{nat_tests}
use Rattle.std.proofs.lemmas.List.Elements.{Contains-append_left, Contains-append_cases}
use Rattle.cw_fixpoint.specs.Closures.{Reached, first, then, Exactly, AtMost, HasMore}
use Rattle.cw_fixpoint.specs.Seen.{SeenIs, Adds, Seen, Searched}

module _ {K : Type 0} (cmp : K → K → Ordering) (step : K → List K) (starts : List K) where
  pub reached_start : (seen set : List K) → SeenIs cmp seen set → Adds [] seen starts → Seen cmp step starts seen set 0
  reached_start seen set s a = record {
    same = s;
    needed = λ k c. first k (a.from k (subst (λ y. Contains y k) a.is c));
    begins = a.has;
    closed = λ j d l b c. absurd (omega arith);
    far = omega arith;
  }

  pub reached_step : (seen set seen' set' : List K) (i : ℕ) (k : K) (keys : List K) → Seen cmp step starts seen set i → i < length seen → ((d : K) → get_or seen i d ≡ k) → keys ≡ step k
      → SeenIs cmp seen' set' → Adds seen seen' keys → Seen cmp step starts seen' set' (i + 1)
  reached_step seen set seen' set' i k keys h l at e s a = record {
    same = s;
    needed = λ q c. ⊎_elim (λ o. h.needed q o) (λ n. then k q (h.needed k (i, l, at k)) (subst (λ y. Contains y q) e (a.from q n)))
        (Contains-append_cases seen a.more q (subst (λ y. Contains y q) a.is c));
    begins = λ q c. old q (h.begins q c);
    closed = closes;
    far = let m = length-append seen a.more in let n : length seen' ≡ length (seen ++ a.more) = ap length a.is in omega arith;
  }
    where
      old : (q : K) → Contains seen q → Contains seen' q
      old q c = subst (λ y. Contains y q) (sym a.is) (Contains-append_left seen a.more q c)

      same_at : (j : ℕ) (d : K) → j < length seen → get_or seen' j d ≡ get_or seen j d
      same_at j d b = ap (λ y. get_or y j d) a.is ∙ get_or_append_left seen a.more d j b

      closes : (j : ℕ) (d : K) → j < i + 1 → (b : K) → Contains (step (get_or seen' j d)) b → Contains seen' b
      closes j d b q c = by (nat_eq j i) refl
        where
          in' : j < length seen
          in' = omega arith

          by : (t : Bool) → nat_eq j i ≡ t → Contains seen' q
          by true t =
              let ji : j ≡ i = eqb-true j i t in
              a.has q (subst (λ y. Contains y q) (ap step (same_at j d in' ∙ ap (λ y. get_or seen y d) ji ∙ at d) ∙ sym e) c)
          by false t =
              let b' : j < i = grind (arith, nat_tests) in
              old q (h.closed j d b' q (subst (λ y. Contains (step y) q) (same_at j d in') c))

  -- all that is needed was seen
  all_seen : (seen set : List K) (i : ℕ) → Seen cmp step starts seen set i → length seen ≤ i → (k : K) → Reached step starts k → Contains seen k
  all_seen seen set i h l k (first q c) = h.begins q c
  all_seen seen set i h l k (then a b n c) =
      let z = all_seen seen set i h l a n in
      h.closed z.0 a (omega (arith, z.1)) b (subst (λ y. Contains (step y) b) (sym z.2) c)

  pub reached_all : (seen set : List K) (i : ℕ) (v : List K) → Seen cmp step starts seen set i → length seen ≤ i → v ≡ set → IsStrictlySortedBy cmp v → Exactly cmp (Reached step starts) v
  reached_all seen set i v h l e o = (
    o,
    λ k. (
      λ c. h.needed k ((h.same.same k).1 (subst (λ y. Contains y k) e c)),
      λ n. subst (λ y. Contains y k) (sym e)
          ((h.same.same k).0 (all_seen seen set i h l k n)),
    ),
  )

  pub reached_many : (seen set : List K) (i n : ℕ) → Seen cmp step starts seen set i → n < length seen → HasMore cmp (Reached step starts) n
  reached_many seen set i n h l =
      let o = h.same.once in
      (set, h.same.order, λ k c. h.needed k ((h.same.same k).1 c), omega (arith, o, l))

  pub searched_all : (seen set : List K) (most : ℕ) (v : List K) → Searched cmp step starts seen set most → length seen ≤ most → v ≡ set → IsStrictlySortedBy cmp v
      → Exactly cmp (Reached step starts) v
  searched_all seen set most v h few e o =
      reached_all seen set h.passed v h.so_far (⊎_elim (λ l. l) (λ is. omega (arith, is, few)) h.done) e o

  pub searched_few : (seen set : List K) (most : ℕ) → Searched cmp step starts seen set most → AtMost cmp (Reached step starts) most → length seen ≤ most
  searched_few seen set most h few =
      let s = h.so_far.same in
      let l = few set s.order (λ k c. h.so_far.needed k ((s.same k).1 c)) in
      omega (arith, l, s.once)

  -- what the starts have and every step keeps
  pub kept : (P : K → Type 0) → ((k : K) → Contains starts k → P k) → ((k q : K) → P k → Contains (step k) q → P q) → (k : K) → Reached step starts k → P k
  kept P begins keeps k (first q c) = begins k c
  kept P begins keeps k (then a b n c) = keeps a k (kept P begins keeps a n) c

  pub may_follow : (P : K → Type 0) → ((k : K) → Contains starts k → P k) → ((k q : K) → P k → Contains (step k) q → P q) → (seen set : List K) (i j : ℕ) (k : K)
      → Seen cmp step starts seen set i → j < length seen → k ≡ get_or seen j k → P k
  may_follow P begins keeps seen set i j k h l is = kept P begins keeps k (h.needed k (j, l, sym is))

  pub passed_more : (seen set seen' set' : List K) (i : ℕ) (k : K) (keys : List K) → Seen cmp step starts seen set i → i < length seen → k ≡ get_or seen i k → keys ≡ step k
      → SeenIs cmp seen' set' → Adds seen seen' keys → Seen cmp step starts seen' set' (i + 1)
  passed_more seen set seen' set' i k keys h l is e s a = reached_step seen set seen' set' i k keys h l (λ d. get_or_default seen i d k l ∙ sym is) e s a

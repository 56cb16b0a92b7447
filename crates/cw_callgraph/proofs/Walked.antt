-- A walk along the rows of a table, by the numbers that it found.
use Rattle.std.proofs.Common.{◌≡◌, ◌⊎◌, inl, inr, ◌<◌, ◌≤◌, ◌+◌, ℕ, List, [], ◌++◌, true, length, get_or, nat_eq, sym, ap, ◌∙◌, subst, arith, length-append}
use Rattle.std.specs.List.{All, Contains, IsDistinct}
use Rattle.std.specs.List.Sorted.{IsPermutation, IsNonDecreasing}
use Rattle.std.proofs.lemmas.Bool.{cases_lt, or_cases, or_left, or_right}
use Rattle.std.proofs.lemmas.Cmp.{nat_eq_equiv}
use Rattle.std.proofs.lemmas.List.{get_or_append_left, get_or_default}
use Rattle.std.proofs.lemmas.List.Elements.{Contains-get_or}
use Rattle.std.proofs.lemmas.List.Sorted.{IsPermutation-sym, Contains-permutation}
use Rattle.std.proofs.lemmas.Map.Keys.{IsDistinct-IsPermutation, IsStrictlyIncreasing-from_distinct}
use Rattle.std.proofs.lemmas.Map.Steps.{length-le_from_distinct_below}
use Rattle.cw_fixpoint.specs.Closures.{Reached, first, then}
use Rattle.cw_callgraph.specs.declared.found.Found.{Found}
use Rattle.cw_callgraph.specs.Finding.{has, with_all, AreBelow, IsFound, AreReached, IsWalked, IsReach}
use Rattle.cw_callgraph.proofs.Kept.{contained, had, has_all, all_more, found_below}

-- what is found with more numbers
pub of_either : (found gs : List ℕ) (g : ℕ) → Contains (with_all found gs) g → Contains found g ⊎ Contains gs g
of_either found gs g c = by (or_cases (has found g) (has gs g) (sym (has_all found gs g) ∙ had (with_all found gs) g c))
  where
    by : (has found g ≡ true) ⊎ (has gs g ≡ true) → Contains found g ⊎ Contains gs g
    by (inl e) = inl (contained found g e)
    by (inr e) = inr (contained gs g e)

in_old : (found gs : List ℕ) (g : ℕ) → Contains found g → Contains (with_all found gs) g
in_old found gs g c = contained (with_all found gs) g (has_all found gs g ∙ or_left (has found g) (has gs g) (had found g c))

pub in_more : (found gs : List ℕ) (g : ℕ) → Contains gs g → Contains (with_all found gs) g
in_more found gs g c = contained (with_all found gs) g (has_all found gs g ∙ or_right (has found g) (has gs g) (had gs g c))

pub none_or : (gs : List ℕ) (g : ℕ) → Contains [] g ⊎ Contains gs g → Contains gs g
none_or gs g (inl (k, l, e)) = absurd (omega (arith, l))
none_or gs g (inr c) = c

module _ (next : ℕ → List ℕ) (f : ℕ) where
  pub begun : (found : List ℕ) → found ≡ with_all [] (next f) → IsWalked next f found 0
  begun found e = record {
    needed = λ g c. first g (none_or (next f) g (of_either [] (next f) g (subst (λ l. Contains l g) e c)));
    begins = λ g c. subst (λ l. Contains l g) (sym e) (in_more [] (next f) g c);
    closed = λ j lt g c. absurd (omega (arith, lt));
    far = omega arith;
  }

  pub goes_on : (old new : List ℕ) (i : ℕ) → IsWalked next f old i → i < length old → new ≡ with_all old (next (get_or old i 0)) → IsWalked next f new (i + 1)
  goes_on old new i w lt e = record {
    needed = λ g c. by g (of_either old row g (subst (λ l. Contains l g) e c));
    begins = λ g c. kept g (w.begins g c);
    closed = λ j l g c. after j l g c (cases_lt j i);
    far =
        let long : length new ≡ length (old ++ (all_more old row).0) = ap length longer in
        omega (arith, lt, long, length-append old (all_more old row).0);
  }
    where
      row : List ℕ
      row = next (get_or old i 0)

      longer : new ≡ old ++ (all_more old row).0
      longer = e ∙ (all_more old row).1

      kept : (g : ℕ) → Contains old g → Contains new g
      kept g c = subst (λ l. Contains l g) (sym e) (in_old old row g c)

      by : (g : ℕ) → Contains old g ⊎ Contains row g → Reached next (next f) g
      by g (inl c) = w.needed g c
      by g (inr c) = then (get_or old i 0) g (w.needed (get_or old i 0) (Contains-get_or old i 0 lt)) c

      same : (j : ℕ) → j < length old → get_or new j 0 ≡ get_or old j 0
      same j l = ap (λ (y : List ℕ). get_or y j 0) longer ∙ get_or_append_left old (all_more old row).0 0 j l

      after : (j : ℕ) → j < i + 1 → (g : ℕ) → Contains (next (get_or new j 0)) g → (j < i) ⊎ (i ≤ j) → Contains new g
      after j l g c (inl below) = kept g (w.closed j below g (subst (λ y. Contains (next y) g) (same j (omega (arith, below, lt))) c))
      after j l g c (inr here) =
          let is : j ≡ i = omega (arith, l, here) in
          subst (λ y. Contains y g) (sym e) (in_more old row g (subst (λ y. Contains (next y) g) (same j (omega (arith, l, lt)) ∙ ap (λ k. get_or old k 0) is) c))

  all_found : (found : List ℕ) (i : ℕ) → IsWalked next f found i → length found ≤ i → (g : ℕ) → Reached next (next f) g → Contains found g
  all_found found i w l g (first q c) = w.begins q c
  all_found found i w l g (then a b r c) =
      let z = all_found found i w l a r in
      w.closed z.0 (omega (arith, z.1, l)) b (subst (λ y. Contains (next y) b) (sym (get_or_default found z.0 0 a z.1 ∙ z.2)) c)

  -- where it went on from all of them, they are what f leads to
  pub all_walked : (found : List ℕ) (i : ℕ) → IsWalked next f found i → length found ≤ i → AreReached next f found
  all_walked found i w l = λ g. (w.needed g, all_found found i w l g)

  -- the same numbers in order
  pub in_order : (found sorted : List ℕ) → IsDistinct nat_eq found → AreReached next f found → IsPermutation found sorted → IsNonDecreasing sorted → IsReach next f sorted
  in_order found sorted apart r p up = (
    IsStrictlyIncreasing-from_distinct sorted up (IsDistinct-IsPermutation nat_eq (λ x y. nat_eq_equiv.symm x y) found sorted p apart),
    λ g. (λ c. (r g).0 (Contains-permutation sorted found g (IsPermutation-sym found sorted p) c), λ q. Contains-permutation found sorted g p ((r g).1 q)),
  )

-- no more is found than there are flags
pub few : (found : Found) → IsFound found → length found.numbers.items ≤ length found.flags.items
few found s = length-le_from_distinct_below found.numbers.items (length found.flags.items) s.apart (found_below found s)

pub below_in_order : (n : ℕ) (found sorted : List ℕ) → AreBelow n found → IsPermutation found sorted → AreBelow n sorted
below_in_order n found sorted below p = λ g h. below g (had found g (Contains-permutation sorted found g (IsPermutation-sym found sorted p) (contained sorted g h)))

pub all_below : (n m : ℕ) (xs ys : List ℕ) → AreBelow n xs → ys ≡ xs → m ≡ n → All (λ g. g < m) ys
all_below n m xs ys below e c = λ k d l.
    let here : get_or ys k d < n = below (get_or ys k d) (had xs (get_or ys k d) (subst (λ y. Contains y (get_or ys k d)) e (Contains-get_or ys k d l))) in
    omega (arith, here, c)

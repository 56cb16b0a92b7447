-- The rows of a settled search are closed.
use Rattle.std.proofs.Common.{◌≡◌, ℕ, ◌+◌, ◌<◌, ◌≤◌, Bool, true, false, Option, Some, None, refl, sym, ◌∙◌, subst, arith}
use Rattle.std.specs.Prelude.{slice_get}
use Rattle.std.proofs.lemmas.Option.{none-some}
use Rattle.std.proofs.lemmas.Bool.{ltb-true, lt-ltb}
use Rattle.cw_game.specs.Games.{Game, bad_in}
use Rattle.cw_audit_table.specs.Runs.{skipped, cut}
use Rattle.cw_audit_table.specs.Conditions.{is_before}
use Rattle.cw_audit_table.proofs.Bounds.{IsClosedBy}
use Rattle.cw_audit_search.specs.Searches.{Found}
use Rattle.cw_audit_search.specs.Sound.{IsFair, IsSound}
use Rattle.cw_audit_search.specs.Settled.{IsCovered, IsClosedAt, IsSettled, IsBound, IsRowBelow}

module _ (g : Game) (functions : ℕ) (fair : IsFair g functions) (s : Found) (sound : IsSound g functions s) where
  -- a sum that is before the distance isn't cut, where there is one, and is below the bound
  pub before_low : (bound d n : ℕ) → IsBound s bound (Some d) → is_before (Some d) n ≡ true → (n < d) × (cut n < bound)
  before_low bound d n b e = let l : cut n < d = ltb-true (cut n) d e in let low = b.1 in let most = b.2 in (omega (arith, l, most), omega (arith, l, low))

  pub low_before : (d n : ℕ) → n < d → is_before (Some d) n ≡ true
  low_before d n l = lt-ltb (cut n) d (omega (arith, l))

  -- what is covered by a number whose sum is before the distance has its row
  covered_row : (bound : ℕ) (D : Option ℕ) → IsBound s bound D → (f q r p x n m : ℕ) → s.reach f q ≡ Some r → IsCovered g s f q r p x n → r + n ≤ m → is_before D m ≡ true
      → (b : ℕ) × IsRowBelow s D f q r (skipped g p) x b × (b ≤ n)
  covered_row bound None b f q r p x n m er c le before = by (bad_in g x (slice_get g.spots (skipped g p))) refl
    where
      by : (bad : Bool) → bad_in g x (slice_get g.spots (skipped g p)) ≡ bad → (a : ℕ) × IsRowBelow s None f q r (skipped g p) x a × (a ≤ n)
      by true e = let k = c.bad e in absurd (none-some k.0 (sym b.0 ∙ k.1))
      by false e = let k = c.good e in (k.0, (er, k.1, refl), k.2)
  covered_row bound (Some d) b f q r p x n m er c le before = by (bad_in g x (slice_get g.spots (skipped g p))) refl
    where
      low : m < d
      low = (before_low bound d m b before).0

      by : (bad : Bool) → bad_in g x (slice_get g.spots (skipped g p)) ≡ bad → (a : ℕ) × IsRowBelow s (Some d) f q r (skipped g p) x a × (a ≤ n)
      by true e = let k = c.bad e in let late = b.3 k.0 k.1 in absurd (omega (arith, late, k.2, low, le))
      by false e = let k = c.good e in (k.0, (er, k.1, low_before d (r + k.0) (omega (arith, k.2, low, le))), k.2)

  -- a row before the distance is closed
  closed_at : (bound : ℕ) (D : Option ℕ) → IsBound s bound D → IsSettled g s bound → (f q r p x a : ℕ) → IsRowBelow s D f q r p x a → IsClosedAt g s f q r p x a
  closed_at bound None b settled f q r p x a w = let most = b.1 in settled.closed f q r p x a w.0 w.1 (omega (arith, most))
  closed_at bound (Some d) b settled f q r p x a w = settled.closed f q r p x a w.0 w.1 (before_low bound d (r + a) b w.2).1

  start_before : (bound : ℕ) (D : Option ℕ) → IsBound s bound D → is_before D 0 ≡ true
  start_before bound None b = refl
  start_before bound (Some d) b = low_before d 0 b.0

  -- The lemma: below a distance that the search stands for its rows are closed.
  pub front : (bound : ℕ) (D : Option ℕ) → IsBound s bound D → IsSettled g s bound → IsClosedBy g D (IsRowBelow s D)
  front bound D b settled = record {
    begins = let z = covered_row bound D b g.main g.states.start 0 (g.entry g.main) g.states.start 0 0 sound.main settled.begins (omega arith) (start_before bound D b) in
        subst (λ a. IsRowBelow s D g.main g.states.start 0 (skipped g (g.entry g.main)) g.states.start a) (omega (arith, z.2)) z.1;
    free = λ f q r p x a w. (sound.keyed f q p x a w.1).free;
    ends = λ f q r p x a k w e. let at = sound.keyed f q p x a w.1 in fair.alone f p k at.below at.position e;
    good = λ f q r p x a w. (sound.inside f q p x a w.1).1.4;
    steps = λ f q r p x a by c w inner before step l.
        let z = covered_row bound D b f q r c.pos c.state (cut (a + 1)) (r + a + 1) w.0 ((closed_at bound D b settled f q r p x a w).steps by c inner step l) (omega arith) before in
        (z.0, z.1, omega (arith, z.2));
    calls = λ f q r p x a j h k w e before.
        let c = (closed_at bound D b settled f q r p x a w).calls j h k e in
        let z = covered_row bound D b h x c.0 (g.entry h) x 0 (r + a + 1) c.1 c.3 (omega (arith, c.2)) before in
        (c.0, subst (λ n. IsRowBelow s D h x c.0 (skipped g (g.entry h)) x n) (omega (arith, z.2)) z.1, omega (arith, c.2));
    returns = λ f q r p x a j h k r2 y e w call v before.
        let c = (closed_at bound D b settled f q r p x a w).returns j h k y e call v.1 in
        let z = covered_row bound D b f q r k y (cut (a + e + 2)) (r + a + e + 2) w.0 c (omega arith) before in
        (z.0, z.1, omega (arith, z.2));
  }

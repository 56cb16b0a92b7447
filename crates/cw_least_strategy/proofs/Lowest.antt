-- The least height up to a number.
use Rattle.std.proofs.Common.{◌≡◌, ℕ, zero, suc, ◌<◌, ◌≤◌, Bool, true, false, cond, refl, sym, ap, ◌∙◌, subst, arith, inl, inr}
use Rattle.std.proofs.lemmas.Bool.{cases_lt}
use Rattle.cw_game.specs.Games.{Game, Promise, Holds}
use Rattle.cw_game.specs.Pairs.{has}
use Rattle.cw_solve.specs.Contexts.{IsHeight}
use Rattle.cw_product.specs.Routed.{IsState, AreRouted}
use Rattle.cw_solve.proofs.Falls.{sooner, later}
use Rattle.cw_least_strategy.specs.Heights.{height_within}

module _ (g : Game) (functions : ℕ) (routed : AreRouted g functions) (p q promise : ℕ) (s : IsState g q) where
  abbrev e : Promise
  e = has promise

  -- a pair that is lost within n has its height
  pub found : (n : ℕ) → Holds g n p q e ≡ false → IsHeight g p q promise (height_within g n p q e) × (height_within g n p q e ≤ n) × (0 < height_within g n p q e)
  found zero h = cc
  found (suc n) h = by (Holds g n p q e) refl (found n)
    where
      Is : ℕ → Type 0
      Is k = IsHeight g p q promise k × (k ≤ suc n) × (0 < k)

      here : Holds g n p q e ≡ true → Is (suc n)
      here t = (record { lost = h; least = λ m lt. sooner g functions routed m n p q e (omega (arith, lt)) s t }, omega arith, omega arith)

      by : (b : Bool) → Holds g n p q e ≡ b → (Holds g n p q e ≡ false
          → IsHeight g p q promise (height_within g n p q e) × (height_within g n p q e ≤ n) × (0 < height_within g n p q e))
          → Is (cond (Holds g n p q e) (cond (Holds g (suc n) p q e) 0 (suc n)) (height_within g n p q e))
      by true t rec = subst Is (sym (ap (λ b. cond b (cond (Holds g (suc n) p q e) 0 (suc n)) (height_within g n p q e)) t ∙ ap (λ b. cond b 0 (suc n)) h)) (here t)
      by false f rec =
          let k = rec f in
          subst Is (sym (ap (λ b. cond b (cond (Holds g (suc n) p q e) 0 (suc n)) (height_within g n p q e)) f)) (k.0, omega (arith, k.1), k.2)

  -- one that isn't has none
  pub absent : (n : ℕ) → Holds g n p q e ≡ true → height_within g n p q e ≡ 0
  absent zero h = refl
  absent (suc n) h =
      let t = sooner g functions routed n (suc n) p q e (omega arith) s h in
      ap (λ b. cond b (cond (Holds g (suc n) p q e) 0 (suc n)) (height_within g n p q e)) t ∙ ap (λ b. cond b 0 (suc n)) h

  -- where it is there the pair is lost
  pub lost_by : (n : ℕ) → 0 < height_within g n p q e → Holds g n p q e ≡ false
  lost_by n h = by (Holds g n p q e) refl
    where
      by : (b : Bool) → Holds g n p q e ≡ b → Holds g n p q e ≡ false
      by false f = f
      by true t = let z = absent n t in absurd (omega (arith, z, h))

  -- a pair has one height
  pub one_height : (a b : ℕ) → IsHeight g p q promise a → IsHeight g p q promise b → a ≡ b
  one_height a b x y = elim (cases_lt a b) [
    | inl lt ↦ let w : true ≡ false = sym (y.least a lt) ∙ x.lost in cc
    | inr le ↦ elim (cases_lt b a) [
      | inl lt ↦ let w : true ≡ false = sym (x.least b lt) ∙ y.lost in cc
      | inr ge ↦ omega (arith, le, ge)
    ]
  ]

  -- the height, where it is at most n
  pub is_within : (n k : ℕ) → IsHeight g p q promise k → k ≤ n → height_within g n p q e ≡ k
  is_within n k is le =
      let f = found n (later g functions routed k n p q e le s is.lost) in
      one_height (height_within g n p q e) k f.0 is

  pub is_above : (n k : ℕ) → IsHeight g p q promise k → n < k → height_within g n p q e ≡ 0
  is_above n k is lt = absent n (is.least n lt)

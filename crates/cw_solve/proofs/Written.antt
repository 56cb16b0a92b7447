-- What is written of one cell, from round to round.
use Rattle.std.proofs.Common.{◌≡◌, ℕ, zero, suc, ◌<◌, ◌≤◌, true, false, refl, sym, ◌∙◌, arith, inl, inr}
use Rattle.std.specs.Prelude.{nat_eq, nat_lt}
use Rattle.std.proofs.lemmas.Bool.{cases_lt, lt-ltb, le-ltb, ne_eqb, or_right, or_from}
use Rattle.cw_game.specs.Games.{Game, Holds}
use Rattle.cw_game.specs.Pairs.{has}
use Rattle.cw_solve.specs.Contexts.{IsHeight, HeightIs}
use Rattle.cw_product.specs.Routed.{IsState, AreRouted}
use Rattle.cw_solve.specs.Rounds.{holds_by, height_by, IsWritten}
use Rattle.cw_solve.proofs.Falls.{sooner, later}
use Rattle.cw_lemmas.proofs.Truths.{not_both}

-- a height is positive
pub height_positive : (g : Game) (p q e k : ℕ) → IsHeight g p q e k → 0 < k
height_positive g p q e zero h = let z = not_both true refl h.lost in absurd z
height_positive g p q e (suc k) h = omega arith

module _ (g : Game) (functions : ℕ) (routed : AreRouted g functions) where
  -- what is written tells whether the pair holds
  pub reads : (n m p q e k : ℕ) → IsState g q → IsWritten g n m p q e k → holds_by n k ≡ Holds g n p q (has e)
  reads n m p q e k s (inl w) = rw w.0 (sym w.1)
  reads n m p q e k s (inr w) =
      elim (cases_lt n k) [
        | inl lt ↦ or_right (nat_eq k 0) (nat_lt n k) (lt-ltb n k lt) ∙ sym (w.1.least n lt)
        | inr le ↦
            let some : nat_eq k 0 ≡ false = by k (height_positive g p q e k w.1) in
            or_from (nat_eq k 0) (nat_lt n k) some (le-ltb n k le) ∙ sym (later g functions routed k n p q (has e) le s w.1.lost)
      ]
    where
      by : (k : ℕ) → 0 < k → nat_eq k 0 ≡ false
      by zero lt = absurd (omega (arith, lt))
      by (suc k) lt = ne_eqb (suc k) 0 (λ e. omega (arith, e))

  -- at the beginning nothing is written
  pub begins : (p q e : ℕ) → IsWritten g 0 0 p q e 0
  begins p q e = inl (refl, refl)

  pub widens : (n m m2 p q e k : ℕ) → m ≤ m2 → IsWritten g n m p q e k → IsWritten g n m2 p q e k
  widens n m m2 p q e k le (inl w) = inl w
  widens n m m2 p q e k le (inr w) = inr (omega (arith, le, w.0), w.1)

  -- a pair that doesn't hold any more has this height
  pub writes : (n p q e : ℕ) → IsState g q → Holds g n p q (has e) ≡ true → Holds g (suc n) p q (has e) ≡ false → IsWritten g n (suc n) p q e (suc n)
  writes n p q e s h l =
      inr (omega arith, record { lost = l; least = λ m lt. let le : m ≤ n = omega (arith, lt) in sooner g functions routed m n p q (has e) le s h })

  -- what was looked at is written for one round more
  pub goes_on : (n m p q e k : ℕ) → IsWritten g n m p q e k → (k ≡ 0 → Holds g (suc n) p q (has e) ≡ true) → IsWritten g (suc n) m p q e k
  goes_on n m p q e k (inl w) h = inl (w.0, h w.0)
  goes_on n m p q e k (inr w) h = inr w

  -- where a round changes nothing the pair holds for one move more exactly where it holds
  pub stands : (n p q e k : ℕ) → IsState g q → IsWritten g n n p q e k → (k ≡ 0 → Holds g (suc n) p q (has e) ≡ true) → Holds g (suc n) p q (has e) ≡ Holds g n p q (has e)
  stands n p q e k s (inl w) h = h w.0 ∙ sym w.1
  stands n p q e k s (inr w) h =
      later g functions routed k (suc n) p q (has e) (omega (arith, w.0)) s w.1.lost ∙ sym (later g functions routed k n p q (has e) w.0 s w.1.lost)

  -- and where no later round does, what is written is the height
  pub ends : (n p q e k : ℕ) → IsState g q → IsWritten g n n p q e k → ((m : ℕ) → n ≤ m → Holds g m p q (has e) ≡ Holds g n p q (has e)) → HeightIs g p q e (height_by k)
  ends n p q e k s (inl w) h = rw w.0 (λ m. elim (cases_lt m n) [
    | inl lt ↦ let le : m ≤ n = omega (arith, lt) in sooner g functions routed m n p q (has e) le s w.1
    | inr le ↦ h m le ∙ w.1
  ])
  ends n p q e zero s (inr w) h = absurd (let z = height_positive g p q e 0 w.1 in omega (arith, z))
  ends n p q e (suc k) s (inr w) h = w.1

-- Where the moves at a position keep the state, they lead to positions that are read off what stands there.
use Rattle.std.proofs.Common.{◌≡◌, ℕ, suc, ◌+◌, ◌<◌, Bool, true, ◌&&◌, ◌||◌, Option, Some, refl, sym, ap, ◌∙◌, subst, arith, inl, inr}
use Rattle.std.specs.Prelude.{slice_get, nat_eq, nat_lt}
use Rattle.std.proofs.lemmas.Bool.{false≢true, cases_lt, or_right, or_from, lt-ltb, le-ltb, ne_eqb}
use Rattle.cw_certs.specs.declared.moves.Move.TheVariants.{Skip, Try, On, Left, Right}
use Rattle.cw_game.specs.declared.spots.Spot.{Spot}
use Rattle.cw_game.specs.declared.spots.Spot.TheVariants.{Visit, Step, Branch}
use Rattle.cw_game.specs.Games.{Game, Promise, weavers_in, holds_in}
use Rattle.cw_game.specs.Pairs.{has}
use Rattle.cw_product.specs.Moves.{next_in, next_at}
use Rattle.cw_solve.specs.Asking.{holds_after, holds_by_moves}
use Rattle.cw_solve.specs.Rounds.{holds_by}
use Rattle.cw_linked.specs.Founds.{implied}
use Rattle.cw_linked.specs.Steps.{IsBound}

module _ (g : Game) (p q : ℕ) where
  pub steps_on : (n : ℕ) → slice_get g.spots p ≡ Some (Step n) → next_at g p q On ≡ Some (n, q)
  steps_on n is = ap (λ (o : Option Spot). next_in g p q o On) is

  pub goes_left : (m n : ℕ) → slice_get g.spots p ≡ Some (Branch m n) → next_at g p q Left ≡ Some (m, q)
  goes_left m n is = ap (λ (o : Option Spot). next_in g p q o Left) is

  pub goes_right : (m n : ℕ) → slice_get g.spots p ≡ Some (Branch m n) → next_at g p q Right ≡ Some (n, q)
  goes_right m n is = ap (λ (o : Option Spot). next_in g p q o Right) is

  pub skips : (o : Option Spot) → weavers_in o ≡ true → next_in g p q o Skip ≡ Some (p + 2, q)
  skips (Some (Visit j i a)) w = refl
  skips o w = absurd (false≢true w)

  pub tries : (o : Option Spot) → weavers_in o ≡ true → next_in g p q o Try ≡ Some (p + 1, q)
  tries (Some (Visit j i a)) w = refl
  tries o w = absurd (false≢true w)

  -- So they tell what holds there.
  module _ (h : ℕ → ℕ → Promise → Bool) (e : Promise) where
    pub by_step : (n : ℕ) → slice_get g.spots p ≡ Some (Step n) → holds_after h e (next_at g p q On) ≡ holds_by_moves g h p q e (slice_get g.spots p)
    by_step n is = subst (λ (o : Option Spot). holds_after h e (next_in g p q o On) ≡ holds_by_moves g h p q e o) (sym is) refl

    pub by_branch : (m n : ℕ) → slice_get g.spots p ≡ Some (Branch m n)
        → (holds_after h e (next_at g p q Left) && holds_after h e (next_at g p q Right)) ≡ holds_by_moves g h p q e (slice_get g.spots p)
    by_branch m n is =
        subst (λ (o : Option Spot). (holds_after h e (next_in g p q o Left) && holds_after h e (next_in g p q o Right)) ≡ holds_by_moves g h p q e o) (sym is) refl

    pub by_visit : (o : Option Spot) → weavers_in o ≡ true → (holds_after h e (next_in g p q o Skip) || holds_after h e (next_in g p q o Try)) ≡ holds_by_moves g h p q e o
    by_visit (Some (Visit j i a)) w = refl
    by_visit o w = absurd (false≢true w)

-- A step leads to a pair that is taken: that height tells the bound.

-- of n + 1 moves one more tells what a height tells of n
pub more_tells : (n h : ℕ) → 0 < h → holds_by (suc n) (h + 1) ≡ holds_by n h
more_tells n h some =
    elim (cases_lt n h) [
      | inl lt ↦
          or_right (nat_eq (h + 1) 0) (nat_lt (suc n) (h + 1)) (lt-ltb (suc n) (h + 1) (omega (arith, lt))) ∙ sym (or_right (nat_eq h 0) (nat_lt n h) (lt-ltb n h lt))
      | inr ge ↦
          or_from (nat_eq (h + 1) 0) (nat_lt (suc n) (h + 1)) (ne_eqb (h + 1) 0 (λ e. omega (arith, e))) (le-ltb (suc n) (h + 1) (omega (arith, ge)))
          ∙ sym (or_from (nat_eq h 0) (nat_lt n h) (ne_eqb h 0 (λ e. omega (arith, e, some))) (le-ltb n h ge))
    ]

pub step_implied : (g : Game) (heights : ℕ → ℕ → ℕ → ℕ) (i p q promise next height : ℕ) → slice_get g.spots p ≡ Some (Step next) → heights i next q ≡ height → 0 < height
    → IsBound g heights i p q promise (height + 1)
step_implied g heights i p q promise next height step taken some n =
    more_tells n height some ∙ ap (λ (k : ℕ). holds_by n k) (sym taken) ∙ ap (λ (o : Option Spot). holds_in g (implied heights i n) p q (has promise) o) (sym step)

-- What replaces a row or a group that is to be written weighs less, and is there.
use Rattle.std.proofs.Common.{◌≡◌, ℕ, ◌+◌, ◌*◌, ◌<◌, ◌≤◌, List, [], ◌∷◌, ◌++◌, Option, Some, None, refl, sym, ap, ◌∙◌, subst, arith}
use Rattle.std.specs.Prelude.{unwrap_or}
use Rattle.std.proofs.lemmas.Option.{same_Some}
use Rattle.cw_certs.specs.declared.moves.Move.{Move}
use Rattle.cw_game.specs.Games.{Game}
use Rattle.cw_audit_search.specs.Searches.{Found}
use Rattle.cw_audit_search.specs.Ways.{Way, Begun, Moved, Returned, Caller, BadWay, Ways, IsWay, IsCaller, IsBadWay}
use Rattle.cw_audit_search.specs.Ways.{Todo, Reach, Row, Step, unfold_way, unfold_call, unfold_hit, Unfolds, done, step, row, reach, weight_of, weight, AreLow}

pub weight_append : (s : Found) (xs ys : List Todo) → weight s (xs ++ ys) ≡ weight s xs + weight s ys
weight_append s [] ys = omega arith
weight_append s (x ∷ xs) ys = let r = weight_append s xs ys in omega (arith, r)

pub low_append : (s : Found) (xs ys : List Todo) → AreLow s xs → AreLow s ys → AreLow s (xs ++ ys)
low_append s [] ys h k = k
low_append s (x ∷ xs) ys h k = (h.0, low_append s xs ys h.1 k)

module _ (g : Game) (s : Found) where
  row_weighs : (f q p x a : ℕ) → s.number f q p x ≡ Some a → weight_of s (Row f q p x) ≡ 3 * a + 1
  row_weighs f q p x a e = ap (λ o. 3 * unwrap_or o 0 + 1) e

  reach_weighs : (f q r : ℕ) → s.reach f q ≡ Some r → weight_of s (Reach f q) ≡ 3 * r + 1
  reach_weighs f q r e = ap (λ o. 3 * unwrap_or o 0 + 1) e

  -- a way to a pair with the number n
  pub way_weighs : (f q p x n : ℕ) (way : Way) → n ≤ 65536 → IsWay g s f q p x n way → weight s (unfold_way g f q way) ≤ 3 * n
  way_weighs f q p x n Begun few h = omega arith
  way_weighs f q p x n (Moved p0 x0 by) few h = omega (arith, row_weighs f q p0 x0 h.0 h.1, h.2, few)
  way_weighs f q p x n (Returned p0 x0 m y) few h =
      omega (arith, row_weighs f q p0 x0 h.0 h.2, row_weighs m x0 (g.exit m) y h.1 h.3, h.4, few)

  pub way_low : (f q p x n : ℕ) (way : Way) → n ≤ 65536 → IsWay g s f q p x n way → AreLow s (unfold_way g f q way)
  way_low f q p x n Begun few h = tt
  way_low f q p x n (Moved p0 x0 by) few h = ((h.0, h.1, omega (arith, h.2, few)), (tt, tt))
  way_low f q p x n (Returned p0 x0 m y) few h = ((h.0, h.2, omega (arith, h.4, few)), (tt, ((h.1, h.3, omega (arith, h.4, few)), (tt, tt))))

  -- the call of a group entered at r
  pub call_weighs : (f q r : ℕ) (c : Option Caller) → r ≤ 65536 → IsCaller g s f q r c → weight s (unfold_call q c) ≤ 3 * r
  call_weighs f q r None few h = omega arith
  call_weighs f q r (Some c) few h =
      omega (arith, reach_weighs c.function c.entered h.0 h.2, row_weighs c.function c.entered c.pos q h.1 h.3, h.4, few)

  pub call_low : (f q r : ℕ) (c : Option Caller) → r ≤ 65536 → IsCaller g s f q r c → AreLow s (unfold_call q c)
  call_low f q r None few h = tt
  call_low f q r (Some c) few h = ((h.0, h.2, omega (arith, h.4, few)), ((h.1, h.3, omega (arith, h.4, few)), (tt, tt)))

  -- what stands first is replaced by what weighs less
  pub row_lighter : (f q p x a : ℕ) (way : Way) (todo : List Todo) → s.number f q p x ≡ Some a → a ≤ 65536 → IsWay g s f q p x a way
      → weight s (unfold_way g f q way ++ todo) < weight s (Row f q p x ∷ todo)
  row_lighter f q p x a way todo e few h = omega (arith, weight_append s (unfold_way g f q way) todo, row_weighs f q p x a e, way_weighs f q p x a way few h)

  pub reach_lighter : (f q r : ℕ) (c : Option Caller) (todo : List Todo) → s.reach f q ≡ Some r → r ≤ 65536 → IsCaller g s f q r c
      → weight s (unfold_call q c ++ todo) < weight s (Reach f q ∷ todo)
  reach_lighter f q r c todo e few h = omega (arith, weight_append s (unfold_call q c) todo, reach_weighs f q r e, call_weighs f q r c few h)

  -- what is to be written at first
  pub hit_low : (T : ℕ) (h : BadWay) → T ≤ 65536 → IsBadWay g s T h → AreLow s (unfold_hit g h)
  hit_low T h few b =
      let sum = b.sum in
      ((b.reach, b.group, omega (arith, sum, few)), way_low h.function h.entered b.pos b.state b.inside h.way (omega (arith, sum, few)) b.leads)

-- What is to be written, by what stands first.
module _ (g : Game) (w : Ways) where
  pub nothing_left : (ms : List Move) → Unfolds g w [] ms → ms ≡ []
  nothing_left _ done = refl

  pub step_first : (by : Move) (todo : List Todo) (ms : List Move) → Unfolds g w (Step by ∷ todo) ms → (ns : List Move) × (ms ≡ by ∷ ns) × Unfolds g w todo ns
  step_first by todo _ (step _ _ ns u) = (ns, refl, u)

  pub row_first : (f q p x : ℕ) (way : Way) (todo : List Todo) (ms : List Move) → w.row f q p x ≡ Some way → Unfolds g w (Row f q p x ∷ todo) ms
      → Unfolds g w (unfold_way g f q way ++ todo) ms
  row_first f q p x way todo ms e (row _ _ _ _ own _ _ eo u) = subst (λ y. Unfolds g w (unfold_way g f q y ++ todo) ms) (same_Some own way (sym eo ∙ e)) u

  pub reach_first : (f q : ℕ) (c : Option Caller) (todo : List Todo) (ms : List Move) → w.call f q ≡ Some c → Unfolds g w (Reach f q ∷ todo) ms
      → Unfolds g w (unfold_call q c ++ todo) ms
  reach_first f q c todo ms e (reach _ _ own _ _ eo u) = subst (λ y. Unfolds g w (unfold_call q y ++ todo) ms) (same_Some own c (sym eo ∙ e)) u

-- The backs of a strategy by least heights ascend.
use Rattle.std.proofs.Common.{◌≡◌, ℕ, zero, suc, ◌+◌, ◌<◌, List, Bool, true, false, cond, Option, Some, None, map, filter_map, refl, sym, ap, subst, arith}
use Rattle.std.specs.Prelude.{slice_get}
use Rattle.std.specs.List.{Contains, AllByRecursion, cons_option, range_with_len}
use Rattle.std.specs.List.Sorted.{IsStrictlySortedBy}
use Rattle.std.specs.declared.cmp.Ordering.TheVariants.{Less}
use Rattle.std.specs.Ordering.{nat_cmp}
use Rattle.std.proofs.lemmas.Bool.Decides.{nat_tests}
use Rattle.std.proofs.lemmas.Option.{same_Some, none-some}
use Rattle.cw_certs.specs.Strategies.{Row, Strategy}
use Rattle.cw_game.specs.declared.spots.Spot.{Spot}
use Rattle.cw_game.specs.declared.spots.Spot.TheVariants.{Visit, Asked, Step, Branch, Label, Open, Close, Call, SplitCall, Exit}
use Rattle.cw_game.specs.Games.{Game}
use Rattle.cw_game.specs.Pairs.{Called, call_in}
use Rattle.cw_least_strategy.specs.declared.key.Key.{Key}
use Rattle.cw_least_strategy.specs.declared.key.Way.{Way}
use Rattle.cw_least_strategy.specs.Backs.{back_cmp, Ascends, BacksAscend}
use Rattle.cw_least_strategy.specs.Strategies.{moves, best, after_return, is_lost_after, back_at, goes, inner, act_in, number, how_by, row_at, IsLeastStrategy}
use Rattle.cw_lemmas.proofs.Lists.{map_contains as from_mapped}

-- numbered backs of ascending exit states
module _ (keys : List Key) (f : ℕ → Option (ℕ × Key)) (at : (x : ℕ) (b : ℕ × Key) → f x ≡ Some b → b.0 ≡ x) where
  abbrev numbered : ℕ × Key → ℕ × ℕ
  numbered b = (b.0, number keys b.1)

  abbrev backs : ℕ → ℕ → List (ℕ × ℕ)
  backs a n = map numbered (filter_map f (range_with_len a n))

  above : (a n : ℕ) (v : ℕ × ℕ) → v.0 < a → AllByRecursion (λ y. back_cmp v y ≡ Less) (backs a n)
  above a zero v l = tt
  above a (suc n) v l = by (f a) refl (above (a + 1) n v (omega (arith, l)))
    where
      by : (o : Option (ℕ × Key)) → f a ≡ o → AllByRecursion (λ y. back_cmp v y ≡ Less) (backs (a + 1) n)
          → AllByRecursion (λ y. back_cmp v y ≡ Less) (map numbered (cons_option o (filter_map f (range_with_len (a + 1) n))))
      by None e h = h
      by (Some b) e h =
          let same : b.0 ≡ a = at a b e in
          let less : nat_cmp v.0 b.0 ≡ Less = grind (arith, nat_tests) in
          (less, h)

  ascending : (a n : ℕ) → IsStrictlySortedBy back_cmp (backs a n)
  unfolding IsStrictlySortedBy
  ascending a zero = tt
  ascending a (suc n) = by (f a) refl (ascending (a + 1) n)
    where
      by : (o : Option (ℕ × Key)) → f a ≡ o → IsStrictlySortedBy back_cmp (backs (a + 1) n)
          → IsStrictlySortedBy back_cmp (map numbered (cons_option o (filter_map f (range_with_len (a + 1) n))))
      by None e h = h
      by (Some b) e h =
          let same : b.0 ≡ a = at a b e in
          (above (a + 1) n (numbered b) (omega (arith, same)), h)

module _ (g : Game) (keys : List Key) (k : Key) where
  exit_of : (c : Called) (x : ℕ) (b : ℕ × Key) → back_at g k c x ≡ Some b → b.0 ≡ x
  exit_of c x b e = by (is_lost_after g k c x) e
    where
      by : (t : Bool) → cond t (Some (x, after_return g k c x)) None ≡ Some b → b.0 ≡ x
      by true e = sym (ap (λ (b : ℕ × Key). b.0) (same_Some (x, after_return g k c x) b e))
      by false e = absurd (none-some b e)

  goes_ascend : (o : Option Way) → Ascends (how_by keys (goes o))
  goes_ascend None = tt
  goes_ascend (Some w) = tt

  inner_ascends : (s : Option Spot) → Ascends (how_by keys (inner g k s))
  inner_ascends None = goes_ascend (best g k moves)
  inner_ascends (Some (Visit j i a)) = tt
  inner_ascends (Some (Exit f)) = tt
  inner_ascends (Some (Asked j i a)) = goes_ascend (best g k moves)
  inner_ascends (Some (Step m)) = goes_ascend (best g k moves)
  inner_ascends (Some (Branch l m)) = goes_ascend (best g k moves)
  inner_ascends (Some (Label j l m)) = goes_ascend (best g k moves)
  inner_ascends (Some (Open j d m)) = goes_ascend (best g k moves)
  inner_ascends (Some (Close j d m)) = goes_ascend (best g k moves)
  inner_ascends (Some (Call j f m)) = goes_ascend (best g k moves)
  inner_ascends (Some (SplitCall j f m)) = goes_ascend (best g k moves)

  act_ascends : (s : Option Spot) (o : Option Called) → Ascends (how_by keys (act_in g k s o))
  act_ascends s None = inner_ascends s
  act_ascends s (Some c) = ascending keys (back_at g k c) (exit_of c) 0 g.states.count

pub least_ascend : (g : Game) (s : Strategy) → IsLeastStrategy g s → BacksAscend s
least_ascend g s is r c =
    let m = from_mapped (row_at g is.keys) is.keys r (subst (λ (rows : List Row). Contains rows r) is.rows c) in
    subst (λ (r : Row). Ascends r.how) m.2 (act_ascends g is.keys m.0 (slice_get g.spots m.0.pos) (call_in (slice_get g.spots m.0.pos)))

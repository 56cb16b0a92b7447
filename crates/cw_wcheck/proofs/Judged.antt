-- What the game's calls give at a live row, in the words of the conditions.
use Rattle.std.proofs.Common.{◌≡◌, ℕ, ◌+◌, List, [], ◌∷◌, Bool, true, false, cond, not, ◌&&◌, ◌||◌, Option, Some, None, is_some, filter, nat_eq, refl, sym, ap, ◌∙◌, subst}
use Rattle.std.specs.Prelude.{slice_get}
use Rattle.std.specs.List.{list_all}
use Rattle.cw_core.specs.declared.ids.PosId.{PosId}
use Rattle.cw_core.specs.declared.ids.MemId.{MemId}
use Rattle.cw_certs.specs.declared.rows.TryRow.{TryRow}
use Rattle.cw_certs.specs.declared.moves.Move.TheVariants.{Skip, Try}
use Rattle.cw_certs.specs.Tables.{Table, try_at}
use Rattle.cw_rights.specs.declared.capabilities.Primitive.{Primitive}
use Rattle.cw_game.specs.declared.spots.Spot.{Spot}
use Rattle.cw_game.specs.declared.spots.Spot.TheVariants.{Visit}
use Rattle.cw_game.specs.Games.{Game}
use Rattle.cw_game.specs.Pairs.{Called, is_live}
use Rattle.cw_game.specs.Conditions.{visits_on, returns_by, all_return}
use Rattle.cw_product.specs.Moves.{next_in}
use Rattle.cw_wcheck.specs.Working.{lands_live}

module _ (g : Game) (t : Table) (p q : ℕ) where
  -- at a visit with a row, and without one
  pub tried : (m j i : ℕ) (a : Primitive) (spot : Spot) (s : Option Spot) (found : TryRow) → spot ≡ Visit j i a → Some spot ≡ s → try_at t j i m ≡ Some found
      → lands_live t m (next_in g p q s Try) ≡ visits_on t p m (Some spot)
  tried m j i a spot s found v e o =
      subst (λ x. lands_live t m (next_in g p q x Try) ≡ visits_on t p m (Some spot)) e
      (subst (λ x. lands_live t m (next_in g p q (Some x) Try) ≡ visits_on t p m (Some x)) (sym v) (sym (ap (λ x. is_live t (cond (is_some x) (p + 1) (p + 2)) m) o)))

  pub skipped : (m j i : ℕ) (a : Primitive) (spot : Spot) (s : Option Spot) → spot ≡ Visit j i a → Some spot ≡ s → try_at t j i m ≡ None
      → lands_live t m (next_in g p q s Skip) ≡ visits_on t p m (Some spot)
  skipped m j i a spot s v e o =
      subst (λ x. lands_live t m (next_in g p q x Skip) ≡ visits_on t p m (Some spot)) e
      (subst (λ x. lands_live t m (next_in g p q (Some x) Skip) ≡ visits_on t p m (Some x)) (sym v) (sym (ap (λ x. is_live t (cond (is_some x) (p + 1) (p + 2)) m) o)))

-- what holds of all that pass a test
all-filter : {A : Type 0} (test each : A → Bool) (xs : List A) → list_all each (filter test xs) ≡ list_all (λ x. not (test x) || each x) xs
all-filter test each [] = refl
all-filter test each (x ∷ xs) = by (test x) (all-filter test each xs)
  where
    by : (b : Bool) → list_all each (filter test xs) ≡ list_all (λ x. not (test x) || each x) xs
        → list_all each (cond b (x ∷ filter test xs) (filter test xs)) ≡ ((not b || each x) && list_all (λ x. not (test x) || each x) xs)
    by true h = ap (λ b. each x && b) h
    by false h = h

pub all_return_is : (g : Game) (t : Table) (q m e : ℕ) (c : Called) (promise end : ℕ) (live : List (PosId × MemId)) (found : Option ℕ) (answer : Bool)
    → found ≡ Some promise → end ≡ g.exit c.function → live ≡ filter (λ r. nat_eq r.0.0 end) t.live
    → answer ≡ list_all (λ r. returns_by g t q m e c promise (slice_get t.mems r.1.0)) live → answer ≡ all_return g t q m e c found
all_return_is g t q m e c promise end live found answer f x l h =
    h
    ∙ ap (list_all (λ r. returns_by g t q m e c promise (slice_get t.mems r.1.0))) (l ∙ ap (λ k. filter (λ r. nat_eq r.0.0 k) t.live) x)
    ∙ all-filter (λ r. nat_eq r.0.0 (g.exit c.function)) (λ r. returns_by g t q m e c promise (slice_get t.mems r.1.0)) t.live
    ∙ sym (ap (all_return g t q m e c) f)

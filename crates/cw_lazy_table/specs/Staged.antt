-- What the lazy table asks of a game's positions: what is asked stands behind its visit, and a seam's parts stand at one position each.
use Rattle.std.specs.Prelude.{◌≡◌, ◌⊎◌, ℕ, ◌+◌, ◌<◌, false, Some, slice_get, Contains}
use Rattle.cw_rights.specs.declared.capabilities.Primitive.{Primitive}
use Rattle.cw_game.specs.declared.spots.Spot.TheVariants.{Visit, Asked, Label, Open, Close, Exit}
use Rattle.cw_game.specs.Games.{Game, weavers_in, IsLost}
use Rattle.cw_game.specs.Pairs.{has, Called, call_in}
use Rattle.cw_product.specs.Routed.{targets, IsOf}
use Rattle.cw_solve.specs.Contexts.{context, IsNeeded}

-- something is asked there
abbrev pub IsAsked : Game → ℕ → Type 0
IsAsked g p = (j : ℕ) × (i : ℕ) × (a : Primitive) × (slice_get g.spots p ≡ Some (Asked j i a))

pub record AreStaged (g : Game) : Type 0 where
  -- a visit has what it asks behind it
  pub behind : (p j i : ℕ) (a : Primitive) → slice_get g.spots p ≡ Some (Visit j i a) → slice_get g.spots (p + 1) ≡ Some (Asked j i a)
  -- nothing leads to what is asked but the try of its visit
  pub skipped : (p j i : ℕ) (a : Primitive) → slice_get g.spots p ≡ Some (Visit j i a) → IsAsked g (p + 2) → ⊥
  pub moved : (p r : ℕ) → weavers_in (slice_get g.spots p) ≡ false → Contains (targets p (slice_get g.spots p)) r → IsAsked g r → ⊥
  pub started : IsAsked g (g.entry g.main) → ⊥
  pub called : (p : ℕ) (call : Called) → call_in (slice_get g.spots p) ≡ Some call → IsAsked g (g.entry call.function) → ⊥
  -- one position each
  pub asks : (p r j i : ℕ) (a b : Primitive) → slice_get g.spots p ≡ Some (Asked j i a) → slice_get g.spots r ≡ Some (Asked j i b) → p ≡ r
  pub labels : (p r j l k m n : ℕ) → slice_get g.spots p ≡ Some (Label j l m) → slice_get g.spots r ≡ Some (Label j k n) → p ≡ r
  pub opens : (p r j d k m n : ℕ) → slice_get g.spots p ≡ Some (Open j d m) → slice_get g.spots r ≡ Some (Open j k n) → p ≡ r
  pub closes : (p r j d k m n : ℕ) → slice_get g.spots p ≡ Some (Close j d m) → slice_get g.spots r ≡ Some (Close j k n) → p ≡ r
  pub calls : (p r : ℕ) (call other : Called) → call_in (slice_get g.spots p) ≡ Some call → call_in (slice_get g.spots r) ≡ Some other → call.seam ≡ other.seam → call.split ≡ other.split → p ≡ r
  -- a function that is called ends where it ends, and isn't `main`
  pub ends : (p : ℕ) (call : Called) → call_in (slice_get g.spots p) ≡ Some call → slice_get g.spots (g.exit call.function) ≡ Some (Exit call.function)
  pub not_main : (p : ℕ) (call : Called) → call_in (slice_get g.spots p) ≡ Some call → call.function ≡ g.main → ⊥

-- Of each pair of a position of a function and a state it is known whether it is lost under a promise that the game needs: its height says so.
abbrev pub IsKnown : Game → Type 0
IsKnown g = (f p q e : ℕ) → IsNeeded g (context f e) → IsOf g f p → q < g.states.count → IsLost g p q (has e) ⊎ (IsLost g p q (has e) → ⊥)

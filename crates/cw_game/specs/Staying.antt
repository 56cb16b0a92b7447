-- States that stay among themselves.
use Rattle.std.specs.Prelude.{◌≡◌, ℕ, true, false, Some, slice_get}
use Rattle.cw_rights.specs.declared.capabilities.Primitive.{Primitive}
use Rattle.cw_game.specs.declared.spots.Spot.TheVariants.{Asked, Label, Open, Close, SplitCall}
use Rattle.cw_game.specs.Games.{Game}

-- These states lead to such states wherever a position leads.
pub record AreClosed (g : Game) (IsState : ℕ → Type 0) : Type 0 where
  pub granted : (p j i q : ℕ) (a : Primitive) → slice_get g.spots p ≡ Some (Asked j i a) → g.states.may_grant q a ≡ true → IsState q → IsState (g.states.granted q a)
  pub lettered : (p j l n q : ℕ) → slice_get g.spots p ≡ Some (Label j l n) → g.states.bad q l ≡ false → IsState q → IsState (g.states.lettered q l)
  pub opened : (p j d n q : ℕ) → slice_get g.spots p ≡ Some (Open j d n) → IsState q → IsState (g.states.opened q d)
  pub failed : (p j d n q : ℕ) → slice_get g.spots p ≡ Some (Open j d n) → IsState q → IsState (g.states.closed q d)
  pub closed : (p j d n q : ℕ) → slice_get g.spots p ≡ Some (Close j d n) → IsState q → IsState (g.states.closed q d)
  pub returned : (p j f n x q : ℕ) → slice_get g.spots p ≡ Some (SplitCall j f n) → IsState x → IsState q → IsState (g.states.with_rights x q)

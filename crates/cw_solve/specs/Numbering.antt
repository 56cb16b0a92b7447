-- Contexts by position and promise.
use Rattle.std.specs.Prelude.{◌≡◌, ℕ, List, Bool, false, ◌&&◌, Option, Some, None, nat_eq, nat_le, slice_get}
use Rattle.cw_game.specs.Games.{Game}
use Rattle.cw_solve.specs.declared.contexts.Context.{Context}
use Rattle.cw_product.specs.Routed.{IsOf}
use Rattle.cw_solve.specs.Contexts.{context, IsNeeded}

-- the position stands in a function under a needed promise
abbrev pub IsUnder : Game → (p promise : ℕ) → Type 0
IsUnder g p promise = (function : ℕ) × IsOf g function p × IsNeeded g (context function promise)

-- the context with this number has this promise, and the position
pub record IsNumberOf (g : Game) (contexts : List Context) (number promise p : ℕ) : Type 0 where
  pub context : Context
  pub at : slice_get contexts number ≡ Some context
  pub of : IsOf g context.function p
  pub promise_is : context.promise ≡ promise

-- whether a context has the position and the promise
abbrev pub has_position : Game → (p promise : ℕ) → Option Context → Bool
has_position g p promise None = false
has_position g p promise (Some c) = nat_eq c.promise promise && (nat_le (g.entry c.function) p && nat_le p (g.exit c.function))

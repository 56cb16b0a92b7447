-- Working definitions: contexts by the numbers of their aims.
use Rattle.std.specs.Prelude.{◌≡◌, ℕ, List, Some, map, slice_get}
use Rattle.std.specs.Ordering.{nat_cmp}
use Rattle.cw_fixpoint.specs.Numbers.{number_in}
use Rattle.cw_product.specs.Product.{game_of}
use Rattle.cw_product.specs.Routed.{IsOf}
use Rattle.cw_solve.specs.declared.contexts.Context.{Context}
use Rattle.cw_solve.specs.Solved.{Held}
use Rattle.cw_least_strategy.specs.Heights.{others}

-- the number that the aim of a context has
abbrev pub number_for : Held → List ℕ → Context → ℕ
number_for h aims c = number_in nat_cmp aims (others (game_of h.game) c.promise)

-- these are the numbers of the aims of all contexts
abbrev pub AreNumbered : Held → List ℕ → List ℕ → Type 0
AreNumbered h aims numbers = numbers ≡ map (number_for h aims) h.contexts

-- a position is one of the function of the context of a number
abbrev pub HasPosition : Held → (number p : ℕ) → Type 0
HasPosition h number p = (c : Context) × (slice_get h.contexts number ≡ Some c) × IsOf (game_of h.game) c.function p

-- The heights of pairs, and the contexts that a game needs: what each function is promised where it is called. Public source: the summaries of
-- visibly pushdown games of Löding, Madhusudan and Serre (2004).
use Rattle.std.specs.Prelude.{◌≡◌, ℕ, ◌+◌, ◌-◌, ◌*◌, ◌<◌, List, true, false, ◌&&◌, Option, Some, None, nat_lt, slice_get, sum_by, Contains, AllPairs, ◌≢◌, Bool}
use Rattle.cw_core.specs.Quantities.{limit_of}
use Rattle.cw_core.specs.declared.quantity.Quantity.TheVariants.{Cells}
use Rattle.cw_solve.specs.declared.contexts.Context.{Context}
use Rattle.cw_game.specs.Games.{Game, returned, Promise, Holds}
use Rattle.cw_product.specs.Routed.{IsOf}
use Rattle.cw_game.specs.Pairs.{has, all_states, Called, call_in, kept_at}

abbrev pub context : ℕ → ℕ → Context
context function promise = record { function = function; promise = promise }

-- the cells of a context: a pair of a position of its function and a state each
abbrev pub size : Game → ℕ → ℕ
size g function = (g.exit function + 1 - g.entry function) * g.states.count

abbrev pub cells_of : Game → List Context → ℕ
cells_of g contexts = sum_by (λ c. size g c.function) contexts

-- The height of a pair under a promise is the least number of moves for which it doesn't hold; a pair that always holds has none.
pub record IsHeight (g : Game) (p q promise n : ℕ) : Type 0 where
  pub lost : Holds g n p q (has promise) ≡ false
  pub least : (m : ℕ) → m < n → Holds g m p q (has promise) ≡ true

abbrev pub HeightIs : Game → ℕ → ℕ → ℕ → Option ℕ → Type 0
HeightIs g p q promise (Some n) = IsHeight g p q promise n
HeightIs g p q promise None = (n : ℕ) → Holds g n p q (has promise) ≡ true

-- a call that returns to this position, as far as its return goes
abbrev pub returning : ℕ → Bool → Called
returning back split = record { seam = 0; function = 0; back = back; split = split }

-- What a call promises for n moves: the exit states from which the return holds for so many under the caller's promise. `kept` is the state at a
-- split call.
abbrev pub promise_at : Game → ℕ → ℕ → Option ℕ → ℕ → Promise
promise_at g n back kept promise = λ x. Holds g n back (returned g.states kept x) (has promise)

-- the number of a promise: its members are the states that are promised
abbrev pub IsSetOf : Game → ℕ → Promise → Type 0
IsSetOf g set promise = (x : ℕ) → has set x ≡ (nat_lt x g.states.count && promise x)

-- The needed contexts are the least set that has `main` with all states and, for each needed context, each call at a position of its function, each
-- state and each number of moves, the called function with what the call promises it.
pub data IsNeeded (g : Game) : Context → Type 0 where
  of_main : IsNeeded g (context g.main (all_states g))
  of_call : (c : Context) (n p q set : ℕ) (call : Called) → IsNeeded g c → IsOf g c.function p → q < g.states.count → call_in (slice_get g.spots p) ≡ Some call
      → IsSetOf g set (promise_at g n call.back (kept_at call.split q) c.promise) → IsNeeded g (context call.function set)

-- needed contexts, no two the same
pub record AreNeeded (g : Game) (contexts : List Context) : Type 0 where
  pub needed : (c : Context) → Contains contexts c → IsNeeded g c
  pub distinct : AllPairs (λ a b. a ≢ b) contexts

-- all needed contexts, each once; the first is `main` with all states
pub record AreTheNeeded (g : Game) (contexts : List Context) : Type 0 where
  pub first : slice_get contexts 0 ≡ Some (context g.main (all_states g))
  pub some : AreNeeded g contexts
  pub all : (c : Context) → IsNeeded g c → Contains contexts c

-- needed contexts whose cells alone are too many
pub record AreTooMany (g : Game) (contexts : List Context) : Type 0 where
  pub some : AreNeeded g contexts
  pub many : limit_of Cells < cells_of g contexts

-- Needed contexts whose cells alone are too many are there only where those of all needed contexts are too many.
abbrev pub TooManyAreSo : Type 0
TooManyAreSo = (g : Game) (some all : List Context) → AreTooMany g some → AreTheNeeded g all → limit_of Cells < cells_of g all

-- The needed contexts have one number of cells, in whichever order they are listed.
abbrev pub CellsAreOneNumber : Type 0
CellsAreOneNumber = (g : Game) (some all : List Context) → AreTheNeeded g some → AreTheNeeded g all → cells_of g some ≡ cells_of g all

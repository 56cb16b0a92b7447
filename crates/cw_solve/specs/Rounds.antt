-- Working definitions, for proofs and contracts inside: what a table of heights says after so many rounds.
use Rattle.std.specs.Prelude.{◌≡◌, ◌⊎◌, ℕ, zero, suc, ◌+◌, ◌-◌, ◌*◌, ◌<◌, ◌≤◌, List, Bool, true, ◌||◌, Option, Some, None, nat_eq, nat_lt, slice_get, slice_index, take, Contains}
use Rattle.cw_solve.specs.declared.contexts.Context.{Context}
use Rattle.cw_game.specs.Games.{Game, Holds}
use Rattle.cw_game.specs.Pairs.{has, Called, call_in, kept_at}
use Rattle.cw_product.specs.Routed.{IsOf}
use Rattle.cw_solve.specs.Contexts.{context, cells_of, IsHeight, promise_at, IsSetOf}

-- where the cells of the context number i begin: behind those of the contexts before it
abbrev pub base : Game → List Context → ℕ → ℕ
base g contexts i = cells_of g (take i contexts)

-- how many positions a function has
abbrev pub positions : Game → ℕ → ℕ
positions g function = g.exit function + 1 - g.entry function

-- the cell of a pair in the context number i, of this function: the cells of one state follow each other
abbrev pub slot : Game → List Context → ℕ → ℕ → ℕ → ℕ → ℕ
slot g contexts i function p q = base g contexts i + (q * positions g function + (p - g.entry function))

-- a context with its number, a position of its function, a state
pub record IsCell (g : Game) (contexts : List Context) (i : ℕ) (c : Context) (p q : ℕ) : Type 0 where
  pub at : slice_get contexts i ≡ Some c
  pub of : IsOf g c.function p
  pub state : q < g.states.count

-- what is written of a pair tells that it holds for n moves: nothing, or a height above
abbrev pub holds_by : ℕ → ℕ → Bool
holds_by n k = nat_eq k 0 || nat_lt n k

-- the height that is written: none where nothing is
abbrev pub height_by : ℕ → Option ℕ
height_by zero = None
height_by (suc k) = Some (suc k)

-- Nothing is written of a pair that holds for n moves, or its height is, which is at most m.
abbrev pub IsWritten : Game → (n m p q promise k : ℕ) → Type 0
IsWritten g n m p q promise k = ((k ≡ 0) × (Holds g n p q (has promise) ≡ true)) ⊎ ((k ≤ m) × IsHeight g p q promise k)

pub record AreWritten (g : Game) (contexts : List Context) (heights : List ℕ) (n m : ℕ) : Type 0 where
  pub each : (i : ℕ) (c : Context) (p q : ℕ) → IsCell g contexts i c p q → IsWritten g n m p q c.promise (slice_index heights (slot g contexts i c.function p q))

-- where there is a call, what it promises for n moves is tabled
abbrev pub IsAsked : Game → List Context → (n p q promise : ℕ) → Type 0
IsAsked g contexts n p q promise =
    (call : Called) → call_in (slice_get g.spots p) ≡ Some call
    → (set : ℕ) × Contains contexts (context call.function set) × IsSetOf g set (promise_at g n call.back (kept_at call.split q) promise)

-- the cell was looked at for n + 1 moves: what it asks for is tabled, and if nothing is written it holds for as many
pub record IsLooked (g : Game) (contexts : List Context) (n p q promise k : ℕ) : Type 0 where
  pub asked : IsAsked g contexts n p q promise
  pub holds : k ≡ 0 → Holds g (suc n) p q (has promise) ≡ true

-- in round n + 1 the cells before this one were looked at
pub record AreLooked (g : Game) (contexts : List Context) (heights : List ℕ) (n before : ℕ) : Type 0 where
  pub each : (i : ℕ) (c : Context) (p q : ℕ) → IsCell g contexts i c p q → slot g contexts i c.function p q < before
      → IsLooked g contexts n p q c.promise (slice_index heights (slot g contexts i c.function p q))

-- what every call promises for fewer than n moves is tabled
pub record WereAsked (g : Game) (contexts : List Context) (n : ℕ) : Type 0 where
  pub each : (m i : ℕ) (c : Context) (p q : ℕ) → m < n → IsCell g contexts i c p q → IsAsked g contexts m p q c.promise

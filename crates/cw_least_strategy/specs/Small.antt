-- Working definitions: aims by their numbers. Where the search and the rows have a key its aim is a number: the index of the aim among those of all
-- contexts, ascending.
use Rattle.std.specs.Prelude.{ℕ, ◌<◌, ◌≤◌, List, [], ◌∷◌, Contains, map, length, slice_index}
use Rattle.std.specs.List.Sorted.{IsStrictlySortedBy}
use Rattle.std.specs.declared.cmp.Ordering.{Ordering}
use Rattle.std.specs.Ordering.{ordering_then, nat_cmp}
use Rattle.cw_core.specs.Quantities.{limit_of}
use Rattle.cw_core.specs.declared.quantity.Quantity.TheVariants.{Rows}
use Rattle.cw_certs.specs.Strategies.{Row}
use Rattle.cw_core.specs.declared.ids.StateId.{StateId}
use Rattle.cw_fixpoint.specs.Closures.{Reached, then}
use Rattle.cw_fixpoint.specs.Numbers.{number_in}
use Rattle.cw_game.specs.Games.{Game}
use Rattle.cw_product.specs.Product.{game_of}
use Rattle.cw_solve.specs.Solved.{Held}
use Rattle.cw_least_strategy.specs.Acts.{backs_of}
use Rattle.cw_least_strategy.specs.Kept.{IsKey, IsFollowed}
use Rattle.cw_least_strategy.specs.Strategies.{named, row_at}
use Rattle.cw_least_strategy.specs.declared.key.Key.{Key}
use Rattle.cw_least_strategy.specs.declared.key.SmallKey.{SmallKey}

-- the key that a small one stands for, and the small one of a key
abbrev pub whole : List ℕ → SmallKey → Key
whole aims k = record { height = k.height; pos = k.pos; state = k.state; aim = slice_index aims k.aim }

abbrev pub small : List ℕ → Key → SmallKey
small aims k = record { height = k.height; pos = k.pos; state = k.state; aim = number_in nat_cmp aims k.aim }

abbrev pub small_cmp : SmallKey → SmallKey → Ordering
small_cmp x y = ordering_then (nat_cmp x.height y.height) (ordering_then (nat_cmp x.pos y.pos) (ordering_then (nat_cmp x.state y.state) (nat_cmp x.aim y.aim)))

-- the small key of a back
abbrev pub small_of_back : List ℕ → StateId × Key → SmallKey
small_of_back aims b = small aims b.1

-- what a small key names
abbrev pub small_named : Game → List ℕ → SmallKey → List SmallKey
small_named g aims k = map (small aims) (named g (whole aims k))

-- aims in order, with a number of 32 bits each
pub record Ascend (aims : List ℕ) : Type 0 where
  pub order : IsStrictlySortedBy nat_cmp aims
  pub few : length aims ≤ 4294967295

-- in order, and all that keys have
pub record AreAims (h : Held) (aims : List ℕ) : Type 0 where
  pub ascend : Ascend aims
  pub all : (k : Key) → IsKey (game_of h.game) (length h.game.graph.parts.items) k → Contains aims k.aim

-- a small key that is reached from a key that may be asked for
pub record CanTake (h : Held) (aims : List ℕ) (k : SmallKey) : Type 0 where
  pub ready : AreAims h aims
  pub start : Key
  pub followed : IsFollowed h start
  pub reached : Reached (small_named (game_of h.game) aims) (small aims start ∷ []) k

pub takes : (h : Held) (aims : List ℕ) (k q : SmallKey) → CanTake h aims k → Contains (small_named (game_of h.game) aims k) q → CanTake h aims q
takes h aims k q can i = record { ready = can.ready; start = can.start; followed = can.followed; reached = then k q can.reached i }

-- small keys in order, whose numbers are those of aims
pub record AreRanked (aims : List ℕ) (keys : List SmallKey) : Type 0 where
  pub ascend : Ascend aims
  pub within : (k : SmallKey) → Contains keys k → k.aim < length aims
  pub order : IsStrictlySortedBy small_cmp keys
  pub few : length keys ≤ limit_of Rows

-- the keys that small ones stand for, the row of one, and how many backs that has
abbrev pub wholes : List ℕ → List SmallKey → List Key
wholes aims keys = map (whole aims) keys

abbrev pub row_in : Game → List ℕ → List SmallKey → SmallKey → Row
row_in g aims keys k = row_at g (wholes aims keys) (whole aims k)

abbrev pub backs_for : Game → List ℕ → List SmallKey → SmallKey → ℕ
backs_for g aims keys k = backs_of g (wholes aims keys) (whole aims k)

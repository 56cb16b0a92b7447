-- Working definitions: a strategy in two lists, of the keys with the numbers of their aims and of what is done at each.
use Rattle.std.specs.Prelude.{◌≡◌, ℕ, ◌+◌, ◌<◌, ◌≤◌, List, [], ◌∷◌, Contains, map, length, slice_index, sum_by}
use Rattle.std.specs.List.{AllZip}
use Rattle.cw_core.specs.Quantities.{limit_of}
use Rattle.cw_core.specs.declared.quantity.Quantity.TheVariants.{Rows}
use Rattle.cw_certs.specs.declared.strategy.How.{How as HowData}
use Rattle.cw_certs.specs.Strategies.{How, Row, Strategy, how_of}
use Rattle.cw_fixpoint.specs.Closures.{Reached, Exactly}
use Rattle.cw_game.specs.Games.{Game}
use Rattle.cw_least_strategy.specs.Small.{whole, wholes, backs_for, AreRanked}
use Rattle.cw_least_strategy.specs.Strategies.{key_cmp, named, how_by, act}
use Rattle.cw_least_strategy.specs.Acts.{act_of}
use Rattle.cw_least_strategy.specs.declared.acts.Act.{Act as ActData}
use Rattle.cw_least_strategy.specs.declared.key.Key.{Key}
use Rattle.cw_least_strategy.specs.declared.key.SmallKey.{SmallKey}

-- the row of a key at which this is done
abbrev pub row_by : List ℕ → SmallKey → HowData → Row
row_by aims k how = record { pos = k.pos; state = k.state; aim = slice_index aims k.aim; how = how_of how }

abbrev pub rows_by : List ℕ → List SmallKey → List HowData → List Row
rows_by aims [] hows = []
rows_by aims (k ∷ keys) [] = []
rows_by aims (k ∷ keys) (how ∷ hows) = row_by aims k how ∷ rows_by aims keys hows

abbrev pub strategy_by : ℕ → List ℕ → List SmallKey → List HowData → Strategy
strategy_by states aims keys hows = record { states = states; rows = rows_by aims keys hows }

-- as many keys as what is done, each with the number of an aim
pub record ArePaired (aims : List ℕ) (keys : List SmallKey) (hows : List HowData) : Type 0 where
  pub long : length hows ≡ length keys
  pub within : (k : SmallKey) → Contains keys k → k.aim < length aims

-- this is done at a key, and at each of a list in turn
abbrev pub IsDone : Game → List ℕ → SmallKey → ActData → Type 0
IsDone g aims k a = act_of (slice_index aims k.aim) a ≡ act g (whole aims k)

abbrev pub AreDone : Game → List ℕ → List SmallKey → List ActData → Type 0
AreDone g aims keys acts = AllZip (IsDone g aims) keys acts

-- what is done at a key, by the numbers of rows
abbrev pub how_in : Game → List ℕ → List SmallKey → SmallKey → How
how_in g aims keys k = how_by (wholes aims keys) (act g (whole aims k))

-- all keys that the start's names, in their order, and what is done at each; few enough
pub record AreParts (g : Game) (aims : List ℕ) (start : Key) (keys : List SmallKey) (hows : List HowData) : Type 0 where
  pub ranked : AreRanked aims keys
  pub exactly : Exactly key_cmp (Reached (named g) (start ∷ [])) (wholes aims keys)
  pub done : map how_of hows ≡ map (how_in g aims keys) keys
  pub few : length keys + sum_by (backs_for g aims keys) keys ≤ limit_of Rows

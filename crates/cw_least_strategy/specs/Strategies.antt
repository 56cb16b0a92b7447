-- The strategy by least heights: the environment moves to the pair that is lost soonest. Public source: the environment's strategies of Harris,
-- Jha, Reps, Anderson and Watson (2013).
use Rattle.std.specs.Prelude.{◌≡◌, ℕ, ◌+◌, ◌-◌, List, [], ◌∷◌, Bool, cond, ◌&&◌, Option, Some, None, nat_lt, nat_le, slice_get, length, map, filter_map, option_map, sum_by}
use Rattle.std.specs.List.{range_with_len}
use Rattle.std.specs.declared.cmp.Ordering.{Ordering}
use Rattle.std.specs.Ordering.{ordering_then, nat_cmp}
use Rattle.cw_certs.specs.declared.moves.Move.{Move}
use Rattle.cw_certs.specs.declared.moves.Move.TheVariants.{Skip, Try, Grant, Refuse, On, Left, Right, Opened, Failed}
use Rattle.cw_certs.specs.Strategies.{How, Row, Strategy}
use Rattle.cw_certs.specs.Strategies as how
use Rattle.cw_fixpoint.specs.Closures.{Reached, Exactly}
use Rattle.cw_game.specs.declared.spots.Spot.{Spot}
use Rattle.cw_game.specs.declared.spots.Spot.TheVariants.{Visit, Exit}
use Rattle.cw_game.specs.Games.{Game, returned}
use Rattle.cw_game.specs.Pairs.{has, all_states, Called, call_in, kept_at}
use Rattle.cw_product.specs.Moves.{next_at}
use Rattle.cw_solve.specs.Contexts.{IsHeight}
use Rattle.cw_solve.specs.Sets.{set_of}
use Rattle.cw_fixpoint.specs.Numbers.{number_in}
use Rattle.cw_least_strategy.specs.declared.key.Key.{Key}
use Rattle.cw_least_strategy.specs.declared.key.Way.{Way}
use Rattle.cw_least_strategy.specs.Heights.{others, height_within}

-- keys ascend by height, position, state, and aim as a number
abbrev pub key_cmp : Key → Key → Ordering
key_cmp x y = ordering_then (nat_cmp x.height y.height) (ordering_then (nat_cmp x.pos y.pos) (ordering_then (nat_cmp x.state y.state) (nat_cmp x.aim y.aim)))

-- a pair below a key, one move later: with its height for this aim
abbrev pub below : Game → Key → ℕ → ℕ → ℕ → Key
below g k p q aim = record { height = height_within g (k.height - 1) p q (has (others g aim)); pos = p; state = q; aim = aim }

-- the moves in their order
abbrev pub moves : List Move
moves = Skip ∷ Try ∷ Grant ∷ Refuse ∷ On ∷ Left ∷ Right ∷ Opened ∷ Failed ∷ []

abbrev pub way : Game → Key → Move → Option Way
way g k by = option_map (λ r. record { by = by; to = below g k r.0 r.1 k.aim }) (next_at g k.pos k.state by)

-- of two ways that of the least height, and the first on a tie
abbrev pub sooner : Option Way → Option Way → Option Way
sooner None b = b
sooner (Some a) None = cond (nat_lt 0 a.to.height) (Some a) None
sooner (Some a) (Some b) = cond (nat_lt 0 a.to.height && nat_le a.to.height b.to.height) (Some a) (Some b)

-- the environment's way to the pair of the least height
abbrev pub best : Game → Key → List Move → Option Way
best g k [] = None
best g k (by ∷ later) = sooner (way g k by) (best g k later)

-- the pair after the return of a call at an exit state
abbrev pub after_return : Game → Key → Called → ℕ → Key
after_return g k c x = below g k c.back (returned g.states (kept_at c.split k.state) x) k.aim

abbrev pub is_lost_after : Game → Key → Called → ℕ → Bool
is_lost_after g k c x = nat_lt 0 (after_return g k c x).height

-- the callee's aim: the exit states whose return's pair has a height below the call's
abbrev pub aim_at : Game → Key → Called → ℕ
aim_at g k c = set_of (is_lost_after g k c) g.states.count

abbrev pub back_at : Game → Key → Called → ℕ → Option (ℕ × Key)
back_at g k c x = cond (is_lost_after g k c x) (Some (x, after_return g k c x)) None

abbrev pub backs_at : Game → Key → Called → List (ℕ × Key)
backs_at g k c = filter_map (back_at g k c) (range_with_len 0 g.states.count)

-- What is done at a key: as a row says it, with keys in place of the numbers of rows.
pub data Act : Type 0 where
  Bad : Act
  Out : Act
  Both : (skip tried : Key) → Act
  Go : (way : Way) → Act
  Into : (callee : Key) → (backs : List (ℕ × Key)) → Act

abbrev pub goes : Option Way → Act
goes None = Bad
goes (Some way) = Go way

abbrev pub inner : Game → Key → Option Spot → Act
inner g k (Some (Visit j i a)) = Both (below g k (k.pos + 2) k.state k.aim) (below g k (k.pos + 1) k.state k.aim)
inner g k (Some (Exit f)) = Out
inner g k s = goes (best g k moves)

abbrev pub act_in : Game → Key → Option Spot → Option Called → Act
act_in g k s None = inner g k s
act_in g k s (Some c) = Into (below g k (g.entry c.function) k.state (aim_at g k c)) (backs_at g k c)

abbrev pub act : Game → Key → Act
act g k = act_in g k (slice_get g.spots k.pos) (call_in (slice_get g.spots k.pos))

-- the keys that are named
abbrev pub keys_in : Act → List Key
keys_in (Both skip tried) = skip ∷ tried ∷ []
keys_in (Go way) = way.to ∷ []
keys_in (Into callee backs) = callee ∷ map (λ b. b.1) backs
keys_in _ = []

abbrev pub named : Game → Key → List Key
named g k = keys_in (act g k)

-- the number of a key's row: its index in the list
abbrev pub number : List Key → Key → ℕ
number keys k = number_in key_cmp keys k

abbrev pub how_by : List Key → Act → How
how_by keys Bad = how.Bad
how_by keys Out = how.Out
how_by keys (Both skip tried) = how.Both (number keys skip) (number keys tried)
how_by keys (Go way) = how.Go way.by (number keys way.to)
how_by keys (Into callee backs) = how.Into (number keys callee) (map (λ b. (b.0, number keys b.1)) backs)

abbrev pub row_at : Game → List Key → Key → Row
row_at g keys k = record { pos = k.pos; state = k.state; aim = k.aim; how = how_by keys (act g k) }

-- the key of the start, with its height under the promise of all states: no exit state is aimed at
abbrev pub start_key : Game → ℕ → Key
start_key g height = record { height = height; pos = g.entry g.main; state = g.states.start; aim = 0 }

-- The strategy by least heights: a row for each key that the start's names, directly or not, in the order of keys.
pub record IsLeastStrategy (g : Game) (s : Strategy) : Type 0 where
  pub height : ℕ
  pub is_height : IsHeight g (g.entry g.main) g.states.start (all_states g) height
  pub keys : List Key
  pub exactly : Exactly key_cmp (Reached (named g) (start_key g height ∷ [])) keys
  pub states : s.states ≡ g.states.count
  pub rows : s.rows ≡ map (row_at g keys) keys

-- its rows, and the backs of each
abbrev pub backs_in : How → ℕ
backs_in (how.Into callee backs) = length backs
backs_in _ = 0

abbrev pub rows_of : Strategy → ℕ
rows_of s = length s.rows + sum_by (λ r. backs_in r.how) s.rows

-- What a game answers of a position and a state, as numbers.
use Rattle.std.specs.Prelude.{ℕ, ◌<◌, [], Bool, true, false, cond, ◌||◌, Option, Some, None, nat_eq, length, option_map, slice_get}
use Rattle.cw_core.specs.declared.ids.PosId.{PosId}
use Rattle.cw_core.specs.declared.ids.StateId.{StateId}
use Rattle.cw_certs.specs.declared.moves.Move.{Move}
use Rattle.cw_game.specs.declared.spots.Spot.{Spot}
use Rattle.cw_game.specs.declared.spots.Spot.TheVariants.{Visit, Label, Call, SplitCall, Exit}
use Rattle.cw_game.specs.Games.{Game, Config, leads_in, bad_in}
use Rattle.cw_game.specs.Pairs.{is_call_in, is_exit_in}
use Rattle.cw_states.specs.States.{Lists, violated_in}
use Rattle.cw_product.specs.declared.turn.Turn.{Turn}
use Rattle.cw_product.specs.declared.turn.Turn.TheVariants as turn

-- the position and the state of a configuration, and of what a call gives
abbrev pub pair_of : Config → ℕ × ℕ
pair_of c = (c.pos, c.state)

abbrev pub numbers : Option (PosId × StateId) → Option (ℕ × ℕ)
numbers given = option_map (λ r. (r.0.0, r.1.0)) given

-- a position of the game, and a state of it
abbrev pub IsPosition : Game → ℕ → Type 0
IsPosition g p = p < length g.spots

abbrev pub IsState : Game → ℕ → Type 0
IsState g q = q < g.states.count

-- no move is within a function: the pair is bad, or the position is a call or an exit
abbrev pub is_left_in : Game → ℕ → Option Spot → Bool
is_left_in g q s = bad_in g q s || (is_call_in s || is_exit_in s)

-- Where a move leads within a function: to a pair, or to none.
abbrev pub next_in : Game → ℕ → ℕ → Option Spot → Move → Option (ℕ × ℕ)
next_in g p q s by = cond (is_left_in g q s) None (option_map pair_of (leads_in g p q [] s by))

abbrev pub next_at : Game → ℕ → ℕ → Move → Option (ℕ × ℕ)
next_at g p q by = next_in g p q (slice_get g.spots p) by

-- who moves where this stands
abbrev pub pos_id : ℕ → PosId
pos_id n = record { 0 = n }

abbrev pub turn_in : Game → Spot → Turn
turn_in g (Visit j i a) = turn.Weaver
turn_in g (Call j f n) = turn.Call f false (pos_id n)
turn_in g (SplitCall j f n) = turn.Call f true (pos_id n)
turn_in g (Exit f) = turn.Exit (nat_eq f g.main)
turn_in g _ = turn.Environment

-- the least rule that the label that stands there breaks
abbrev pub violated_at : Lists → ℕ → Option Spot → Option ℕ
violated_at v q (Some (Label j l n)) = violated_in v q l
violated_at v q _ = None

-- Working definitions: what the lazy table chooses, as functions of a game whose heights are below 2^32.
use Rattle.std.specs.Prelude.{◌≡◌, ℕ, Bool, not, Option, Some, None, length, slice_get, Contains}
use Rattle.cw_game.specs.Games.{Game, returned, Holds}
use Rattle.cw_game.specs.Pairs.{has, all_states, Called, call_in, kept_at}
use Rattle.cw_joins.specs.Members.{Rules, IsMember, then, joins}
use Rattle.cw_product.specs.Product.{Held as HeldGame, game_of}
use Rattle.cw_solve.specs.Contexts.{AreTheNeeded}
use Rattle.cw_solve.specs.Low.{HeightsAreLow}
use Rattle.cw_solve.specs.Sets.{set_of}
use Rattle.cw_solve.specs.Solved.{Held}
use Rattle.cw_lazy_table.specs.declared.key.Key.{Key}
use Rattle.cw_lazy_table.specs.Closing.{key, rules}
use Rattle.cw_lazy_table.specs.Laws.{CanBegin}

-- no height is above
unfoldable pub most : ℕ
most = 4294967295

abbrev pub lost_in : Game → (p q e : ℕ) → Bool
lost_in g p q e = not (Holds g most p q (has e))

-- a call returns from the exit state x to a pair that isn't lost
abbrev pub is_kept_back : Game → (q e : ℕ) → Called → ℕ → Bool
is_kept_back g q e call x = not (lost_in g call.back (returned g.states (kept_at call.split q) x) e)

abbrev pub promised : Game → (q e : ℕ) → Called → ℕ
promised g q e call = set_of (is_kept_back g q e call) g.states.count

abbrev pub promised_in : Game → (q e : ℕ) → Option Called → ℕ
promised_in g q e None = 0
promised_in g q e (Some call) = promised g q e call

abbrev pub set_in : Game → (p q e : ℕ) → ℕ
set_in g p q e = promised_in g q e (call_in (slice_get g.spots p))

abbrev pub choices : Game → Rules Key (ℕ × ℕ)
choices g = rules g (lost_in g) (set_in g)

abbrev pub start_of : Game → Key
start_of g = key (g.entry g.main) g.states.start (all_states g)

-- a game, and the same game solved, in which the lazy table can begin
pub record IsReady (h : HeldGame) (s : Held) : Type 0 where
  pub same : s.game ≡ h
  pub begins : CanBegin (game_of h) (length h.graph.parts.items)
  pub needed : AreTheNeeded (game_of h) s.contexts
  pub low : HeightsAreLow (game_of h)

-- and a key that is live in it
pub record CanFollow (h : HeldGame) (s : Held) (k : Key) : Type 0 where
  pub ready : IsReady h s
  pub member : IsMember (choices (game_of h)) (start_of (game_of h)) k

pub goes : (h : HeldGame) (s : Held) (k q : Key) → CanFollow h s k → Contains ((choices (game_of h)).after k) q → CanFollow h s q
goes h s k q can i = record { ready = can.ready; member = then k q can.member i }

pub meets : (h : HeldGame) (s : Held) (a b : Key) (x : ℕ × ℕ) → CanFollow h s a → CanFollow h s b → (choices (game_of h)).waits a ≡ Some x → (choices (game_of h)).ends b ≡ Some x
    → CanFollow h s ((choices (game_of h)).join a b)
meets h s a b x can also w e = record { ready = can.ready; member = joins a b x can.member also.member w e }

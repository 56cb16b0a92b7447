-- Where a run of the lazy program may come: the least set of a position, a state and a promise each that has the start, and what the choices
-- of the lazy table lead to. Public source: the weaver's strategies of Harris, Jha, Reps, Anderson and Watson (2013).
use Rattle.std.specs.Prelude.{◌≡◌, ℕ, ◌+◌, ◌<◌, [], true, false, Some, slice_get}
use Rattle.cw_rights.specs.declared.capabilities.Primitive.{Primitive}
use Rattle.cw_certs.specs.declared.moves.Move.{Move}
use Rattle.cw_game.specs.declared.spots.Spot.TheVariants.{Visit}
use Rattle.cw_game.specs.Games.{Game, Config, resumed, returned, leads_in, weavers_in, IsLost}
use Rattle.cw_game.specs.Pairs.{has, all_states, Called, call_in, is_call_in, kept_at}

-- where a call made in the state q returns to the promise e from the exit state x
abbrev pub IsLostBack : Game → Called → (q e x : ℕ) → Type 0
IsLostBack g call q e x = IsLost g call.back (returned g.states (kept_at call.split q) x) (has e)

-- What a call promises: the set of the exit states from which the return isn't lost; from every other state it is.
pub record IsFull (g : Game) (call : Called) (q e set : ℕ) : Type 0 where
  pub states : (x : ℕ) → has set x ≡ true → x < g.states.count
  pub kept : (x : ℕ) → has set x ≡ true → IsLostBack g call q e x → ⊥
  pub left_out : (x : ℕ) → x < g.states.count → has set x ≡ false → IsLostBack g call q e x

-- The position p is live with the state q and the promise e.
pub data IsLive (g : Game) : (p q e : ℕ) → Type 0 where
  begins : IsLive g (g.entry g.main) g.states.start (all_states g)
  -- a visit skips where the pair after the skip isn't lost, and tries where it is
  skips : (p q e j i : ℕ) (a : Primitive) → IsLive g p q e → slice_get g.spots p ≡ Some (Visit j i a) → (IsLost g (p + 2) q (has e) → ⊥) → IsLive g (p + 2) q e
  tries : (p q e j i : ℕ) (a : Primitive) → IsLive g p q e → slice_get g.spots p ≡ Some (Visit j i a) → IsLost g (p + 2) q (has e) → IsLive g (p + 1) q e
  -- each move of the environment
  moves : (p q e : ℕ) (by : Move) (next : Config) → IsLive g p q e → weavers_in (slice_get g.spots p) ≡ false → is_call_in (slice_get g.spots p) ≡ false
      → leads_in g p q [] (slice_get g.spots p) by ≡ Some next → IsLive g next.pos next.state e
  -- after a refusal that a stop can answer the program goes on where that pair isn't lost
  goes_on : (p q e : ℕ) (pair : ℕ × ℕ) → IsLive g p q e → resumed g p q ≡ Some pair → (IsLost g pair.0 pair.1 (has e) → ⊥) → IsLive g pair.0 pair.1 e
  -- a call begins the function under what it promises, and returns from each exit state that is live under that
  calls : (p q e set : ℕ) (call : Called) → IsLive g p q e → call_in (slice_get g.spots p) ≡ Some call → IsFull g call q e set → IsLive g (g.entry call.function) q set
  returns : (p q e set x : ℕ) (call : Called) → IsLive g p q e → call_in (slice_get g.spots p) ≡ Some call → IsFull g call q e set → IsLive g (g.exit call.function) x set
      → IsLive g call.back (returned g.states (kept_at call.split q) x) e

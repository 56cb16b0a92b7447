-- What it means of the pairs of a table that a primitive is tried, and the program stopped, only where skipping is lost.
use Rattle.std.specs.Prelude.{◌≡◌, ℕ, ◌+◌, ◌<◌, true, false, Option, Some, None, is_some, slice_get}
use Rattle.cw_rights.specs.declared.capabilities.Primitive.{Primitive}
use Rattle.cw_certs.specs.declared.rows.TryRow.{TryRow}
use Rattle.cw_certs.specs.declared.rows.IntoRow.{IntoRow}
use Rattle.cw_certs.specs.Tables.{Table, try_at, into_at}
use Rattle.cw_game.specs.declared.spots.Spot.TheVariants.{Visit, Asked, Call, SplitCall}
use Rattle.cw_game.specs.Games.{Game, resumed, returned, Promise, IsLost}
use Rattle.cw_game.specs.Pairs.{has, is_live, means_it}

-- What is promised leaves out only exit states from which the return to n, under the promise e, is lost. `kept` is the state at a split call.
abbrev pub LeavesOutLost : Game → Promise → ℕ → Option ℕ → Promise → Type 0
LeavesOutLost g promised n kept e = (x : ℕ) → x < g.states.count → promised x ≡ false → IsLost g n (returned g.states kept x) e

-- the position is live with the memory, which means this state with this promise
abbrev pub IsLivePair : Table → ℕ → ℕ → ℕ → ℕ → Type 0
IsLivePair t p m q e = (is_live t p m ≡ true) × (means_it (slice_get t.mems m) q e ≡ true)

pub record TriesOnlyLost (g : Game) (t : Table) : Type 0 where
  -- where a primitive is tried the pair after a skip is lost under the memory's promise
  pub tries : (p m q e j i : ℕ) (a : Primitive) → IsLivePair t p m q e → slice_get g.spots p ≡ Some (Visit j i a)
      → is_some (try_at t j i m) ≡ true → IsLost g (p + 2) q (has e)
  -- where the program stops after a refusal the pair at which going on arrives is lost
  pub stops : (p m q e j i : ℕ) (a : Primitive) (r : TryRow) (pair : ℕ × ℕ) → IsLivePair t p m q e → slice_get g.spots p ≡ Some (Asked j i a)
      → try_at t j i m ≡ Some r → r.refused ≡ None → resumed g p q ≡ Some pair → IsLost g pair.0 pair.1 (has e)
  -- at a call, plain or split, the callee's promise e2 leaves out only exit states from which the return is lost
  pub calls : (p m q e j f n e2 : ℕ) (r : IntoRow) → IsLivePair t p m q e → slice_get g.spots p ≡ Some (Call j f n)
      → into_at t j false m ≡ Some r → means_it (slice_get t.mems r.callee.0) q e2 ≡ true → LeavesOutLost g (has e2) n None (has e)
  pub split_calls : (p m q e j f n e2 : ℕ) (r : IntoRow) → IsLivePair t p m q e → slice_get g.spots p ≡ Some (SplitCall j f n)
      → into_at t j true m ≡ Some r → means_it (slice_get t.mems r.callee.0) q e2 ≡ true → LeavesOutLost g (has e2) n (Some q) (has e)

-- The lazy table: its lists exactly from what is live.
use Rattle.std.specs.Prelude.{◌≡◌, ℕ, ◌+◌, List, [], Bool, Option, Some, None, length, slice_get}
use Rattle.cw_core.specs.declared.ids.StateId.{StateId}
use Rattle.cw_core.specs.declared.ids.MemId.{MemId}
use Rattle.cw_core.specs.declared.ids.PosId.{PosId}
use Rattle.cw_rights.specs.declared.capabilities.Primitive.{Primitive}
use Rattle.cw_certs.specs.declared.moves.Move.TheVariants.{Grant, Refuse}
use Rattle.cw_certs.specs.declared.rows.TryRow.{TryRow}
use Rattle.cw_certs.specs.declared.rows.AtRow.{AtRow}
use Rattle.cw_certs.specs.declared.rows.OpenRow.{OpenRow}
use Rattle.cw_certs.specs.declared.rows.IntoRow.{IntoRow}
use Rattle.cw_certs.specs.declared.rows.BackRow.{BackRow}
use Rattle.cw_certs.specs.Tables.{Table}
use Rattle.cw_certs.specs.Ascending.{mem_cmp, live_cmp, try_cmp, at_cmp, open_cmp, into_cmp, back_cmp}
use Rattle.cw_fixpoint.specs.Closures.{Exactly}
use Rattle.cw_game.specs.declared.spots.Spot.TheVariants.{Asked, Label, Open, Close}
use Rattle.cw_game.specs.Games.{Game, Config, resumed, returned, leads_in, IsLost}
use Rattle.cw_game.specs.Pairs.{has, all_states, Called, call_in, kept_at}
use Rattle.cw_lazy_table.specs.Live.{IsLive, IsFull}

abbrev pub state_id : ℕ → StateId
state_id q = record { 0 = q }

-- the memory with this number means this state with this promise
abbrev pub Means : List (StateId × ℕ) → ℕ → (q e : ℕ) → Type 0
Means ms m q e = slice_get ms m ≡ Some (state_id q, e)

-- the memory is that of the pair where there is one, and else there is none
abbrev pub IsAfter : List (StateId × ℕ) → (e : ℕ) → Option Config → Option MemId → Type 0
IsAfter ms e None m = m ≡ None
IsAfter ms e (Some c) None = ⊥
IsAfter ms e (Some c) (Some m) = Means ms m.0 c.state e

-- after a refusal that a stop can answer: the memory with which the program goes on, none where going on is lost and it stops
abbrev pub GoesOn : Game → List (StateId × ℕ) → (e : ℕ) → Option (ℕ × ℕ) → Option MemId → Type 0
GoesOn g ms e None m = m ≡ None
GoesOn g ms e (Some pair) None = IsLost g pair.0 pair.1 (has e)
GoesOn g ms e (Some pair) (Some m) = (IsLost g pair.0 pair.1 (has e) → ⊥) × Means ms m.0 pair.1 e

abbrev pub IsRefused : Game → List (StateId × ℕ) → (p q e : ℕ) → Option Config → Option MemId → Type 0
IsRefused g ms p q e None m = GoesOn g ms e (resumed g p q) m
IsRefused g ms p q e (Some c) m = IsAfter ms e (Some c) m

-- a memory's state and promise are those of something live
pub record IsMemory (g : Game) (r : StateId × ℕ) : Type 0 where
  pub pos : ℕ
  pub live : IsLive g pos r.0.0 r.1

-- a row of a list, at the position p with the state q and the promise e, which its memory means
pub record IsLiveRow (g : Game) (ms : List (StateId × ℕ)) (r : PosId × MemId) : Type 0 where
  pub state : ℕ
  pub promise : ℕ
  pub live : IsLive g r.0.0 state promise
  pub meant : Means ms r.1.0 state promise

-- a try, at a live position where a primitive is asked: the memories after a grant and after a refusal
pub record IsTryRow (g : Game) (ms : List (StateId × ℕ)) (r : TryRow) : Type 0 where
  pub pos : ℕ
  pub state : ℕ
  pub promise : ℕ
  pub prim : Primitive
  pub live : IsLive g pos state promise
  pub asked : slice_get g.spots pos ≡ Some (Asked r.seam.0 r.stage prim)
  pub meant : Means ms r.mem.0 state promise
  pub granted : IsAfter ms promise (leads_in g pos state [] (Some (Asked r.seam.0 r.stage prim)) Grant) r.granted
  pub refused : IsRefused g ms pos state promise (leads_in g pos state [] (Some (Asked r.seam.0 r.stage prim)) Refuse) r.refused

-- a label at a live position: the memory behind it
pub record IsLabelRow (g : Game) (ms : List (StateId × ℕ)) (r : AtRow) : Type 0 where
  pub pos : ℕ
  pub state : ℕ
  pub promise : ℕ
  pub label : ℕ
  pub next : ℕ
  pub live : IsLive g pos state promise
  pub spot : slice_get g.spots pos ≡ Some (Label r.seam.0 label next)
  pub meant : Means ms r.mem.0 state promise
  pub after : Means ms r.after.0 (g.states.lettered state label) promise

-- an open at a live position: the memories where it succeeds and where it fails
pub record IsOpenRow (g : Game) (ms : List (StateId × ℕ)) (r : OpenRow) : Type 0 where
  pub pos : ℕ
  pub state : ℕ
  pub promise : ℕ
  pub descriptor : ℕ
  pub next : ℕ
  pub live : IsLive g pos state promise
  pub spot : slice_get g.spots pos ≡ Some (Open r.seam.0 descriptor next)
  pub meant : Means ms r.mem.0 state promise
  pub opened : Means ms r.opened.0 (g.states.opened state descriptor) promise
  pub failed : Means ms r.failed.0 (g.states.closed state descriptor) promise

-- a close at a live position: the memory behind it
pub record IsCloseRow (g : Game) (ms : List (StateId × ℕ)) (r : AtRow) : Type 0 where
  pub pos : ℕ
  pub state : ℕ
  pub promise : ℕ
  pub descriptor : ℕ
  pub next : ℕ
  pub live : IsLive g pos state promise
  pub spot : slice_get g.spots pos ≡ Some (Close r.seam.0 descriptor next)
  pub meant : Means ms r.mem.0 state promise
  pub after : Means ms r.after.0 (g.states.closed state descriptor) promise

-- a call of this seam and mode is live at p, and promises this set
pub record IsCalled (g : Game) (ms : List (StateId × ℕ)) (seam : ℕ) (split : Bool) (m : ℕ) : Type 0 where
  pub pos : ℕ
  pub state : ℕ
  pub promise : ℕ
  pub call : Called
  pub set : ℕ
  pub live : IsLive g pos state promise
  pub is_call : call_in (slice_get g.spots pos) ≡ Some call
  pub seams : call.seam ≡ seam
  pub modes : call.split ≡ split
  pub meant : Means ms m state promise
  pub full : IsFull g call state promise set

-- a live call: the memory with which the callee begins, in the state of the call under what is promised to it
pub record IsIntoRow (g : Game) (ms : List (StateId × ℕ)) (r : IntoRow) : Type 0 where
  pub called : IsCalled g ms r.seam.0 r.split r.mem.0
  pub callee : Means ms r.callee.0 called.state called.set

-- of each call for each exit state that is live where the callee ends, under what is promised to it
pub record IsBackRow (g : Game) (ms : List (StateId × ℕ)) (r : BackRow) : Type 0 where
  pub called : IsCalled g ms r.seam.0 r.split r.mem.0
  pub ended : IsLive g (g.exit called.call.function) r.exit.0 called.set
  pub after : Means ms r.after.0 (returned g.states (kept_at called.call.split called.state) r.exit.0) called.promise

-- The lazy table of a game: each list has exactly its rows, in order. So the memories are numbered by state, then promise.
pub record IsLazyTable (g : Game) (t : Table) : Type 0 where
  pub states : t.states ≡ g.states.count
  pub start : Means t.mems t.start.0 g.states.start (all_states g)
  pub mems : Exactly mem_cmp (IsMemory g) t.mems
  pub live : Exactly live_cmp (IsLiveRow g t.mems) t.live
  pub tries : Exactly try_cmp (IsTryRow g t.mems) t.tries
  pub ats : Exactly at_cmp (IsLabelRow g t.mems) t.ats
  pub opened : Exactly open_cmp (IsOpenRow g t.mems) t.opened
  pub closed : Exactly at_cmp (IsCloseRow g t.mems) t.closed
  pub into : Exactly into_cmp (IsIntoRow g t.mems) t.into
  pub back : Exactly back_cmp (IsBackRow g t.mems) t.back

-- all rows of all lists, backs counted
abbrev pub table_rows : Table → ℕ
table_rows t = length t.mems + length t.live + length t.tries + length t.ats + length t.opened + length t.closed + length t.into + length t.back

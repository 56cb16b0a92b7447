-- Working definitions: the conditions of a table and of a strategy without their ranges, by what stands at a position. What meets the
-- numbered conditions meets these; the theorems are proved from these.
use Rattle.std.specs.Prelude.{◌≡◌, ◌≢◌, ℕ, ◌+◌, ◌<◌, List, [], ◌∷◌, Bool, true, false, cond, not, ◌&&◌, ◌||◌, Option, Some, None, is_some, nat_eq, slice_get}
use Rattle.cw_core.specs.declared.ids.MemId.{MemId}
use Rattle.cw_core.specs.declared.ids.StateId.{StateId}
use Rattle.cw_core.specs.declared.ids.PosId.{PosId}
use Rattle.cw_rights.specs.declared.capabilities.Primitive.TheVariants.{Split}
use Rattle.cw_certs.specs.declared.rows.TryRow.{TryRow}
use Rattle.cw_certs.specs.declared.rows.AtRow.{AtRow}
use Rattle.cw_certs.specs.declared.rows.OpenRow.{OpenRow}
use Rattle.cw_certs.specs.declared.rows.IntoRow.{IntoRow}
use Rattle.cw_certs.specs.declared.rows.BackRow.{BackRow}
use Rattle.cw_certs.specs.Tables.{Table, try_at, after_at, open_at, into_at, back_at}
use Rattle.cw_certs.specs.Strategies.{How, Bad, Out, Both, Go, Into, Row, Strategy, back_of}
use Rattle.cw_game.specs.declared.spots.Spot.{Spot}
use Rattle.cw_game.specs.declared.spots.Spot.TheVariants.{Visit, Asked, Step, Branch, Label, Open, Close, Call, SplitCall, Exit}
use Rattle.cw_game.specs.Games.{Game, can_stop_in, refuses_in, returned, at_pair, leads_in, bad_in, weavers_in}
use Rattle.cw_game.specs.Pairs.{has, all_states, is_live, leads, leads_if, is_call_in, is_exit_in, IsAt}

-- where the memory is there it leads on
abbrev pub leads_where : Table → ℕ → Option MemId → ℕ → ℕ → Bool
leads_where t p None q e = true
leads_where t p (Some m) q e = leads t p m.0 q e

-- At what is asked there is a try row, and for each answer that the game allows its memory leads on: granted to the position pg with the state
-- qg, refused to pr with q. After a refusal that a stop can answer the memory leads on to pr with q too, where the row has one.
abbrev pub asked_ok : (grants refuses stops : Bool) → Table → ℕ → ℕ → ℕ → ℕ → ℕ → Option TryRow → Bool
asked_ok grants refuses stops t pg pr qg q e None = false
asked_ok grants refuses stops t pg pr qg q e (Some r) =
    (not grants || leads_if t pg r.granted qg e) && ((not refuses || leads_if t pr r.refused q e) && (not stops || leads_where t pr r.refused q e))

abbrev pub row_leads : Table → ℕ → ℕ → ℕ → Option AtRow → Bool
row_leads t n q e None = false
row_leads t n q e (Some r) = leads t n r.after.0 q e

abbrev pub open_leads : Table → ℕ → ℕ → ℕ → ℕ → Option OpenRow → Bool
open_leads t n opened failed e None = false
open_leads t n opened failed e (Some r) = leads t n r.opened.0 opened e && leads t n r.failed.0 failed e

abbrev pub back_leads : Table → ℕ → ℕ → ℕ → Option BackRow → Bool
back_leads t n q e None = false
back_leads t n q e (Some r) = leads t n r.after.0 q e

-- each memory with the callee's promise that is live at the callee's exit has its way back to n
abbrev pub returns_in : Game → Table → ℕ → Option ℕ → ℕ → ℕ → ℕ → ℕ → Option (StateId × ℕ) → Bool
returns_in g t j kept m n e promise None = true
returns_in g t j kept m n e promise (Some r) = not (nat_eq r.1 promise) || back_leads t n (returned g.states kept r.0.0) e (back_at t j (is_some kept) m r.0.0)

abbrev pub returns_ok : Game → Table → ℕ → Option ℕ → ℕ → ℕ → ℕ → ℕ → ℕ → List (PosId × MemId) → Bool
returns_ok g t j kept m n exit e promise [] = true
returns_ok g t j kept m n exit e promise (r ∷ rows) = (not (nat_eq r.0.0 exit) || returns_in g t j kept m n e promise (slice_get t.mems r.1.0)) && returns_ok g t j kept m n exit e promise rows

-- the callee's memory means the caller's state with some promise, and is live at the callee's entry
abbrev pub enters : Game → Table → ℕ → Option ℕ → ℕ → ℕ → ℕ → ℕ → ℕ → ℕ → Option (StateId × ℕ) → Bool
enters g t j kept m n f q e callee None = false
enters g t j kept m n f q e callee (Some r) = nat_eq r.0.0 q && (is_live t (g.entry f) callee && returns_ok g t j kept m n (g.exit f) e r.1 t.live)

abbrev pub call_ok : Game → Table → ℕ → Option ℕ → ℕ → ℕ → ℕ → ℕ → ℕ → Option IntoRow → Bool
call_ok g t j kept m n f q e None = false
call_ok g t j kept m n f q e (Some r) = enters g t j kept m n f q e r.callee.0 (slice_get t.mems r.callee.0)

-- The conditions of a live row at p with the memory m, which means the state q with the promise e.
abbrev pub row_ok_in : Game → Table → ℕ → ℕ → ℕ → ℕ → Option Spot → Bool
row_ok_in g t p m q e (Some (Visit j i a)) = is_live t (cond (is_some (try_at t j i m)) (p + 1) (p + 2)) m
row_ok_in g t p m q e (Some (Asked j i Split)) =
    asked_ok (g.states.may_grant q Split) (refuses_in g q Split) (can_stop_in g q Split) t (p + 2) (p + 1) q q e (try_at t j i m)
row_ok_in g t p m q e (Some (Asked j i a)) =
    asked_ok (g.states.may_grant q a) (refuses_in g q a) (can_stop_in g q a) t (p + 1) (p + 1) (g.states.granted q a) q e (try_at t j i m)
row_ok_in g t p m q e (Some (Step n)) = is_live t n m
row_ok_in g t p m q e (Some (Branch left right)) = is_live t left m && is_live t right m
row_ok_in g t p m q e (Some (Label j l n)) = not (g.states.bad q l) && row_leads t n (g.states.lettered q l) e (after_at t.ats j m)
row_ok_in g t p m q e (Some (Open j d n)) = open_leads t n (g.states.opened q d) (g.states.closed q d) e (open_at t j m)
row_ok_in g t p m q e (Some (Close j d n)) = row_leads t n (g.states.closed q d) e (after_at t.closed j m)
row_ok_in g t p m q e (Some (Call j f n)) = call_ok g t j None m n f q e (into_at t j false m)
row_ok_in g t p m q e (Some (SplitCall j f n)) = call_ok g t j (Some q) m n f q e (into_at t j true m)
row_ok_in g t p m q e (Some (Exit f)) = nat_eq f g.main || has e q
row_ok_in g t p m q e None = false

abbrev pub row_ok_by : Game → Table → ℕ → ℕ → Option (StateId × ℕ) → Bool
row_ok_by g t p m None = false
row_ok_by g t p m (Some r) = row_ok_in g t p m r.0.0 r.1 (slice_get g.spots p)

abbrev pub row_ok : Game → Table → ℕ → ℕ → Bool
row_ok g t p m = row_ok_by g t p m (slice_get t.mems m)

abbrev pub rows_ok : Game → Table → List (PosId × MemId) → Bool
rows_ok g t [] = true
rows_ok g t (r ∷ rows) = row_ok g t r.0.0 r.1.0 && rows_ok g t rows

-- The table begins at the start with all states promised, and each of its live rows leads to live rows.
abbrev pub is_closed_table : Game → Table → Bool
is_closed_table g t = leads t (g.entry g.main) t.start.0 g.states.start (all_states g) && rows_ok g t t.live

-- a call at p, in a mode, of the function f, which returns to n; split, it keeps the state
abbrev pub CallsIn : ℕ → Option Spot → ℕ → ℕ → Option ℕ → Type 0
CallsIn q (Some (Call j f n)) f' n' kept = (f' ≡ f) × (n' ≡ n) × (kept ≡ None)
CallsIn q (Some (SplitCall j f n)) f' n' kept = (f' ≡ f) × (n' ≡ n) × (kept ≡ Some q)
CallsIn q _ f' n' kept = ⊥

-- The conditions of the row with number i of a strategy.
abbrev pub HowOk : Game → Strategy → ℕ → ℕ → ℕ → ℕ → How → Type 0
HowOk g s i p q e Bad = bad_in g q (slice_get g.spots p) ≡ true
HowOk g s i p q e Out = (f : ℕ) × (slice_get g.spots p ≡ Some (Exit f)) × (f ≢ g.main) × (has e q ≡ true)
HowOk g s i p q e (Both skip tried) =
    (skip < i) × (tried < i) × (weavers_in (slice_get g.spots p) ≡ true) × IsAt s skip (p + 2) q e × IsAt s tried (p + 1) q e
HowOk g s i p q e (Go by row) =
    (row < i)
    × ((weavers_in (slice_get g.spots p) ≡ false) × (bad_in g q (slice_get g.spots p) ≡ false) × (is_call_in (slice_get g.spots p) ≡ false) × (is_exit_in (slice_get g.spots p) ≡ false))
    × ((p' : ℕ) × (q' : ℕ) × (leads_in g p q [] (slice_get g.spots p) by ≡ Some (at_pair p' q' [])) × IsAt s row p' q' e)
HowOk g s i p q e (Into callee backs) =
    (callee < i)
    × ((f : ℕ) × (n : ℕ) × (kept : Option ℕ) × (aim : ℕ) × CallsIn q (slice_get g.spots p) f n kept × IsAt s callee (g.entry f) q aim
    × ((x : ℕ) → x < g.states.count → has aim x ≡ true → (b : ℕ) × (back_of backs x ≡ Some b) × (b < i) × IsAt s b n (returned g.states kept x) e))

-- Each row of the strategy meets its conditions.
abbrev pub IsClosedStrategy : Game → Strategy → Type 0
IsClosedStrategy g s = (i : ℕ) (r : Row) → slice_get s.rows i ≡ Some r → HowOk g s i r.pos r.state r.aim r.how

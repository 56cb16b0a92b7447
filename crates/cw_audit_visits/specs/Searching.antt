-- A search under way, by what it has found.
use Rattle.std.specs.Prelude.{◌≡◌, ℕ, ◌+◌, ◌*◌, ◌<◌, ◌≤◌, ◌⊎◌, List, [], Bool, true, false, cond, Option, Some, length, slice_get, Contains}
use Rattle.cw_certs.specs.declared.moves.Move.{Move}
use Rattle.cw_game.specs.declared.spots.Spot.{Spot}
use Rattle.cw_game.specs.declared.spots.Spot.TheVariants.{Call}
use Rattle.cw_game.specs.Games.{Game, Config, leads_in}
use Rattle.cw_audit_table.specs.Runs.{cut, is_step, skipped}
use Rattle.cw_audit_table.specs.Conditions.{is_inner}
use Rattle.cw_product.specs.Product.{Held, game_of}
use Rattle.cw_audit_store.specs.declared.row_key.Entrance.{Entrance}
use Rattle.cw_audit_store.specs.declared.row_key.RowKey.{RowKey}
use Rattle.cw_audit_store.specs.declared.row_key.Row.{Row}
use Rattle.cw_audit_store.specs.declared.row_key.Way.{Way}
use Rattle.cw_audit_store.specs.declared.row_key.Entered.{Entered}
use Rattle.cw_audit_store.specs.declared.row_key.Hit.{Hit}
use Rattle.cw_audit_store.specs.declared.store.Store.{Store}
use Rattle.cw_audit_store.specs.declared.lists.Lists.{Lists}
use Rattle.std.specs.BTreeMap.{is_at}
use Rattle.cw_audit_store.specs.Stores.{row_at, group_at, row_key_cmp, entrance_cmp, work}
use Rattle.cw_audit_store.specs.Listed.{list_of}
use Rattle.cw_product.specs.Moves.{IsPosition}
pub use Rattle.cw_audit_store.specs.Finding.{entrance, row_key, found_of, way_of, caller_of, bad_way_of, ways_of}
use Rattle.cw_audit_search.specs.Sound.{IsFair, IsRowKey, IsSound, IsProposal, HasFallen}
use Rattle.cw_audit_search.specs.Ways as way
use Rattle.cw_audit_search.specs.Ways.{IsWay, AreWays}
use Rattle.cw_audit_search.specs.Settled.{IsCovered, IsClosedAt}
use Rattle.cw_audit_visits.specs.declared.met.Met.{Met}
use Rattle.cw_audit_visits.specs.declared.met.Calling.{Calling}
use Rattle.cw_audit_visits.specs.declared.under_way.Search.{Search}

-- what is left to do: each number that falls has one row key more wait at most
abbrev pub left : Search → ℕ
left s = 2 * work s.store + length s.frontier.rows

-- Whether a step changed anything is answered: where not, all is as it was; else less is left.
pub record Tells (old new : Search) (changed : Bool) : Type 0 where
  pub same : changed ≡ false → (new.store ≡ old.store) × (left new ≡ left old)
  pub less : changed ≡ true → left new < left old

-- what a search keeps
pub record IsKept (g : Game) (functions : ℕ) (s : Search) : Type 0 where
  pub sound : IsSound g functions (found_of s.store)
  pub ways : AreWays g (found_of s.store) (ways_of s.store)

abbrev pub functions_of : Held → ℕ
functions_of h = length h.graph.parts.items

abbrev pub IsFairGame : Held → Type 0
IsFairGame h = IsFair (game_of h) (functions_of h)

-- the reach of a row key's group
abbrev pub reach_of : Search → RowKey → Option ℕ
reach_of s at = (found_of s.store).reach at.entrance.function at.entrance.state.0

-- the row with the number waits under the key
abbrev pub Waits : Search → (key number : ℕ) → Type 0
Waits s key number = Contains s.frontier.rows (key, number)

-- the row with the number waits under a key that isn't less than how far it is from the start
abbrev pub WaitsFor : Search → (number : ℕ) → RowKey → Row → Type 0
WaitsFor s number at row = (key : ℕ) × (r : ℕ) × Waits s key number × (reach_of s at ≡ Some r) × (r + row.inside ≤ key)

-- what waited still waits, and so does each row that was made or lowered
pub record WaitOn (old new : Search) : Type 0 where
  pub kept : (key number : ℕ) → Waits old key number → Waits new key number
  pub made : (number : ℕ) (at : RowKey) (row : Row) → slice_get new.store.rows.entries number ≡ Some (at, row)
      → (slice_get old.store.rows.entries number ≡ Some (at, row)) ⊎ WaitsFor new number at row

-- what waited still waits, and so does the row of the row key, where it was made or lowered, in a group of that reach
pub record IsPut (old new : Search) (row_key : RowKey) (reach : ℕ) : Type 0 where
  pub kept : (key number : ℕ) → Waits old key number → Waits new key number
  pub made : (number : ℕ) (at : RowKey) (row : Row) → slice_get new.store.rows.entries number ≡ Some (at, row)
      → (slice_get old.store.rows.entries number ≡ Some (at, row)) ⊎ ((at ≡ row_key) × Waits new (reach + row.inside) number)

-- it goes on: numbers only fall, and where one does the row waits
pub record IsGoneOn (h : Held) (old new : Search) : Type 0 where
  pub kept : IsKept (game_of h) (functions_of h) new
  pub fallen : HasFallen (found_of old.store) (found_of new.store)
  pub waits : WaitOn old new

-- the row key may be proposed, with so many moves and this way
pub record IsDue (h : Held) (s : Search) (at : RowKey) (n : ℕ) (by : Way) : Type 0 where
  pub proposal : IsProposal (game_of h) (found_of s.store) at.entrance.function at.entrance.state.0 at.pos.0 at.state.0 n
  pub leads : IsWay (game_of h) (found_of s.store) at.entrance.function at.entrance.state.0 (skipped (game_of h) at.pos.0) at.state.0 n (way_of by)

-- the row key is noted with so many moves
abbrev pub IsNoted : Held → Search → RowKey → ℕ → Type 0
IsNoted h s at n =
    (r : ℕ) → (found_of s.store).reach at.entrance.function at.entrance.state.0 ≡ Some r
    → IsCovered (game_of h) (found_of s.store) at.entrance.function at.entrance.state.0 r at.pos.0 at.state.0 n

-- the row key has a row that isn't greater; the nearest violation isn't later
abbrev pub IsNear : Search → RowKey → ℕ → Type 0
IsNear s at n = (r : Row) × (row_at s.store at ≡ Some r) × (r.inside ≤ n)

abbrev pub IsHitNear : Search → ℕ → Type 0
IsHitNear s n = (h : Hit) × (s.store.hit ≡ Some h) × (h.distance ≤ n)

-- one row is set, one group, the violation
pub record IsRowSet (s s2 : Store) (at : RowKey) (row : Row) : Type 0 where
  pub rows : (q : RowKey) → row_at s2 q ≡ cond (is_at (row_key_cmp at) q) (Some row) (row_at s q)
  pub groups : s2.groups ≡ s.groups
  pub hit : s2.hit ≡ s.hit

pub record IsGroupSet (s s2 : Store) (at : Entrance) (entered : Entered) : Type 0 where
  pub groups : (q : Entrance) → group_at s2 q ≡ cond (is_at (entrance_cmp at) q) (Some entered) (group_at s q)
  pub rows : s2.rows ≡ s.rows
  pub hit : s2.hit ≡ s.hit

pub record IsHitSet (s s2 : Store) (to : Hit) : Type 0 where
  pub hit : s2.hit ≡ Some to
  pub rows : s2.rows ≡ s.rows
  pub groups : s2.groups ≡ s.groups

-- what is there isn't less
abbrev pub IsRowFalling : Search → RowKey → ℕ → Type 0
IsRowFalling s at n = (r : Row) → row_at s.store at ≡ Some r → n ≤ r.inside

abbrev pub IsGroupFalling : Search → Entrance → ℕ → Type 0
IsGroupFalling s at n = (e : Entered) → group_at s.store at ≡ Some e → n ≤ e.reach

abbrev pub IsHitFalling : Search → ℕ → Type 0
IsHitFalling s n = (h : Hit) → s.store.hit ≡ Some h → n ≤ h.distance

abbrev pub IsGroupNear : Search → Entrance → ℕ → Type 0
IsGroupNear s at n = (e : Entered) × (group_at s.store at ≡ Some e) × (e.reach ≤ n)

-- where the move leads from the row key may be proposed; and is noted
abbrev pub number_of : Search → RowKey → Option ℕ
number_of s at = (found_of s.store).number at.entrance.function at.entrance.state.0 at.pos.0 at.state.0

abbrev pub spot_at : Held → RowKey → Option Spot
spot_at h at = slice_get (game_of h).spots at.pos.0

abbrev pub IsStepDue : Held → Search → RowKey → ℕ → Move → Type 0
IsStepDue h s at a by =
    (c : Config) → leads_in (game_of h) at.pos.0 at.state.0 [] (spot_at h at) by ≡ Some c
    → IsProposal (game_of h) (found_of s.store) at.entrance.function at.entrance.state.0 c.pos c.state (cut (a + 1))
    × IsWay (game_of h) (found_of s.store) at.entrance.function at.entrance.state.0 (skipped (game_of h) c.pos) c.state (cut (a + 1)) (way.Moved at.pos.0 at.state.0 by)

abbrev pub IsStepNoted : Held → Search → RowKey → ℕ → Move → Type 0
IsStepNoted h s at a by =
    (r : ℕ) (c : Config) → reach_of s at ≡ Some r → leads_in (game_of h) at.pos.0 at.state.0 [] (spot_at h at) by ≡ Some c
    → IsCovered (game_of h) (found_of s.store) at.entrance.function at.entrance.state.0 r c.pos c.state (cut (a + 1))

-- the row key is at a call of f that returns to k, or at no call
abbrev pub IsCallAt : Held → RowKey → (f k : ℕ) → Type 0
IsCallAt h at f k = (j : ℕ) × (spot_at h at ≡ Some (Call j f k))

abbrev pub IsNoCall : Held → RowKey → Type 0
IsNoCall h at = (j f k : ℕ) → spot_at h at ≡ Some (Call j f k) → ⊥

-- a row may stand at the row key
abbrev pub MayStand : Held → RowKey → Type 0
MayStand h at = IsRowKey (game_of h) (functions_of h) at.entrance.function at.entrance.state.0 at.pos.0 at.state.0

-- its row and the reach of its group are there
pub record IsThere (s : Search) (met : Met) : Type 0 where
  pub row : row_at s.store met.row_key ≡ Some met.row
  pub reach : reach_of s met.row_key ≡ Some met.reach

-- no row has the number, or its entrance has no group
abbrev pub IsUnknown : Search → ℕ → Type 0
IsUnknown s number = (at : RowKey) (row : Row) (r : ℕ) → slice_get s.store.rows.entries number ≡ Some (at, row) → reach_of s at ≡ Some r → ⊥

-- the row key is at a call of f that returns to k, both the game's
pub record IsCallOf (h : Held) (at : RowKey) (f k : ℕ) : Type 0 where
  pub callee : f < functions_of h
  pub back : IsPosition (game_of h) k
  pub call : IsCallAt h at f k

-- the callee is entered no later than by one move more than the call's row
abbrev pub IsCallNear : Search → Calling → Type 0
IsCallNear s call = IsGroupNear s (record { function = call.callee; state = call.met.row_key.state }) (cut (call.met.reach + call.met.row.inside + 1))

-- the moves from the row key are noted, where it is within its function, and its callee is entered no later, where it is a call
pub record AreLeadsNoted (h : Held) (s : Search) (at : RowKey) (row : Row) (r : ℕ) : Type 0 where
  pub moves : is_inner (spot_at h at) ≡ true → (by : Move) → is_step by ≡ true → IsStepNoted h s at row.inside by
  pub callee : (f k : ℕ) → IsCallAt h at f k → IsGroupNear s (entrance f at.state.0) (cut (r + row.inside + 1))

-- so they are of the row with the number, where it isn't nearer than by the key
abbrev pub AreLeadsNotedBy : Held → Search → (key number : ℕ) → Type 0
AreLeadsNotedBy h s key number =
    (at : RowKey) (row : Row) (r : ℕ) → slice_get s.store.rows.entries number ≡ Some (at, row) → reach_of s at ≡ Some r → key ≤ r + row.inside → AreLeadsNoted h s at row r

-- the entry of each group is noted
abbrev pub IsEntryNoted : Held → Search → (f q r : ℕ) → Type 0
IsEntryNoted h s f q r = IsCovered (game_of h) (found_of s.store) f q r ((game_of h).entry f) q 0

abbrev pub IsBegunAt : Held → Search → ℕ → Type 0
IsBegunAt h s number = (at : Entrance) (e : Entered) → slice_get s.store.groups.entries number ≡ Some (at, e) → IsEntryNoted h s at.function at.state.0 e.reach

abbrev pub AreBegunUpTo : Held → Search → (many : ℕ) → Type 0
AreBegunUpTo h s many = (number : ℕ) → number < many → IsBegunAt h s number

abbrev pub AreBegun : Held → Search → Type 0
AreBegun h s = (f q r : ℕ) → (found_of s.store).reach f q ≡ Some r → IsEntryNoted h s f q r

-- the number stands in the list
abbrev pub IsIn : List ℕ → ℕ → Type 0
IsIn ns number = (i : ℕ) × (slice_get ns i ≡ Some number)

-- the row with the number, where it is at the end of its function, is among those of its entrance; so all are up to a number, and all
abbrev pub IsEndIn : Held → Search → Lists → ℕ → Type 0
IsEndIn h s ends number =
    (at : RowKey) (row : Row) → slice_get s.store.rows.entries number ≡ Some (at, row) → at.pos.0 ≡ (game_of h).exit at.entrance.function → IsIn (list_of ends at.entrance) number

abbrev pub AreEndsUpTo : Held → Search → Lists → (many : ℕ) → Type 0
AreEndsUpTo h s ends many = (number : ℕ) → number < many → IsEndIn h s ends number

abbrev pub AreEnds : Held → Search → Lists → Type 0
AreEnds h s ends = (number : ℕ) → IsEndIn h s ends number

-- one more is, and those that were among others still are
pub record IsEndPut (h : Held) (s : Search) (number : ℕ) (ends ends2 : Lists) : Type 0 where
  pub one : IsEndIn h s ends2 number
  pub others : (at : Entrance) (n : ℕ) → IsIn (list_of ends at) n → IsIn (list_of ends2 at) n

-- where the callee ends in y, what is behind the return is noted
abbrev pub IsReturnNoted : Held → Search → RowKey → (f k y : ℕ) → Type 0
IsReturnNoted h s at f k y =
    (r a e : ℕ) → reach_of s at ≡ Some r → number_of s at ≡ Some a → (found_of s.store).number f at.state.0 ((game_of h).exit f) y ≡ Some e
    → IsCovered (game_of h) (found_of s.store) at.entrance.function at.entrance.state.0 r k y (cut (a + e + 2))

-- all that the row key's row leads to is noted
abbrev pub IsVisited : Held → Search → RowKey → Type 0
IsVisited h s at =
    (r a : ℕ) → reach_of s at ≡ Some r → number_of s at ≡ Some a
    → IsClosedAt (game_of h) (found_of s.store) at.entrance.function at.entrance.state.0 r at.pos.0 at.state.0 a

-- the row key at which the callee ends in y; and what is behind the return from the row with the number, where that is such an end, is noted
abbrev pub end_of : Held → Calling → (y : ℕ) → RowKey
end_of h call y = row_key call.callee call.met.row_key.state.0 ((game_of h).exit call.callee) y

abbrev pub IsEndNoted : Held → Search → Calling → ℕ → Type 0
IsEndNoted h s call number =
    (y : ℕ) (row : Row) → slice_get s.store.rows.entries number ≡ Some (end_of h call y, row) → IsReturnNoted h s call.met.row_key call.callee call.back.0 y

-- each end of what the call enters stands in the list
abbrev pub AreEndsOf : Held → Search → Calling → List ℕ → Type 0
AreEndsOf h s call ns = (y number : ℕ) (row : Row) → slice_get s.store.rows.entries number ≡ Some (end_of h call y, row) → IsIn ns number

abbrev pub AreEndsNoted : Held → Search → Calling → List ℕ → (many : ℕ) → Type 0
AreEndsNoted h s call ns many = (i number : ℕ) → i < many → slice_get ns i ≡ Some number → IsEndNoted h s call number

-- where the row key's row is below the bound, all that it leads to is noted; so of the row with a number, of as many rows, and of each row key
abbrev pub IsSettledAt : Held → Search → (bound : ℕ) → RowKey → Type 0
IsSettledAt h s bound at =
    (r a : ℕ) → reach_of s at ≡ Some r → number_of s at ≡ Some a → cut (r + a) < bound
    → IsClosedAt (game_of h) (found_of s.store) at.entrance.function at.entrance.state.0 r at.pos.0 at.state.0 a

abbrev pub IsNumberSettled : Held → Search → (bound number : ℕ) → Type 0
IsNumberSettled h s bound number = (at : RowKey) (row : Row) → slice_get s.store.rows.entries number ≡ Some (at, row) → IsSettledAt h s bound at

abbrev pub AreSettledAt : Held → Search → (bound many : ℕ) → Type 0
AreSettledAt h s bound many = (number : ℕ) → number < many → IsNumberSettled h s bound number

abbrev pub AreSettledBelow : Held → Search → (bound : ℕ) → Type 0
AreSettledBelow h s bound = (f q p x : ℕ) → IsSettledAt h s bound (row_key f q p x)

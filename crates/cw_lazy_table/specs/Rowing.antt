-- Working definitions: the rows of keys, as functions of the game and the memories.
use Rattle.std.specs.Prelude.{ℕ, ◌≤◌, List, Bool, cond, Option, Some, None, option_map, nat_eq, length}
use Rattle.std.specs.List.Sorted.{IsStrictlySortedBy}
use Rattle.cw_core.specs.Quantities.{limit_of}
use Rattle.cw_core.specs.declared.quantity.Quantity.TheVariants.{Rows}
use Rattle.cw_core.specs.declared.ids.StateId.{StateId}
use Rattle.cw_core.specs.declared.ids.MemId.{MemId}
use Rattle.cw_core.specs.declared.ids.PosId.{PosId}
use Rattle.cw_certs.specs.declared.moves.Move.{Move}
use Rattle.cw_certs.specs.declared.moves.Move.TheVariants.{Grant, Refuse, On, Opened, Failed}
use Rattle.cw_certs.specs.declared.rows.TryRow.{TryRow}
use Rattle.cw_certs.specs.declared.rows.AtRow.{AtRow}
use Rattle.cw_certs.specs.declared.rows.OpenRow.{OpenRow}
use Rattle.cw_certs.specs.declared.rows.IntoRow.{IntoRow}
use Rattle.cw_certs.specs.declared.rows.BackRow.{BackRow}
use Rattle.cw_certs.specs.Ascending.{mem_cmp}
use Rattle.cw_fixpoint.specs.Numbers.{number_in}
use Rattle.cw_game.specs.Games.{Game, resumed, returned}
use Rattle.cw_game.specs.Pairs.{kept_at}
use Rattle.cw_product.specs.Moves.{next_at, pos_id}
use Rattle.cw_points.specs.Graphs.{seam_id}
use Rattle.cw_lazy_table.specs.declared.key.Key.{Key}
use Rattle.cw_lazy_table.specs.declared.seam_key.SeamKey.{SeamKey}
use Rattle.cw_lazy_table.specs.Lazy.{state_id}

abbrev pub Memories : Type 0
Memories = List (StateId × ℕ)

-- memories in order, and not too many
pub record AreMemories (ms : Memories) : Type 0 where
  pub order : IsStrictlySortedBy mem_cmp ms
  pub few : length ms ≤ limit_of Rows

-- the index of a state and a promise among the memories, and how many they are where it is none of them
abbrev pub number : Memories → (q e : ℕ) → ℕ
number ms q e = number_in mem_cmp ms (state_id q, e)

abbrev pub mem_id : ℕ → MemId
mem_id n = record { 0 = n }

abbrev pub mem : Memories → (q e : ℕ) → MemId
mem ms q e = mem_id (number ms q e)

abbrev pub live_row : Memories → Key → PosId × MemId
live_row ms k = (pos_id k.pos, mem ms k.state k.promise)

-- the memory after a move, if there is one; the same state's where there is none
abbrev pub mem_after : Memories → (e : ℕ) → Option (ℕ × ℕ) → Option MemId
mem_after ms e o = option_map (λ r. mem ms r.1 e) o

abbrev pub state_or : ℕ → Option (ℕ × ℕ) → ℕ
state_or q None = q
state_or q (Some r) = r.1

abbrev pub moved : Game → Memories → SeamKey → Move → MemId
moved g ms x by = mem ms (state_or x.state (next_at g x.pos x.state by)) x.promise

-- after a refusal that a stop can answer
abbrev pub going_on : ((p q e : ℕ) → Bool) → Memories → (e : ℕ) → Option (ℕ × ℕ) → Option MemId
going_on lost ms e None = None
going_on lost ms e (Some pair) = cond (lost pair.0 pair.1 e) None (Some (mem ms pair.1 e))

abbrev pub refused_by : ((p q e : ℕ) → Bool) → Memories → (e : ℕ) → Option (ℕ × ℕ) → Option (ℕ × ℕ) → Option MemId
refused_by lost ms e None on = going_on lost ms e on
refused_by lost ms e (Some r) on = Some (mem ms r.1 e)

abbrev pub try_row : Game → ((p q e : ℕ) → Bool) → Memories → SeamKey → TryRow
try_row g lost ms x = record {
  seam = seam_id x.seam;
  stage = x.part;
  mem = mem ms x.state x.promise;
  granted = mem_after ms x.promise (next_at g x.pos x.state Grant);
  refused = refused_by lost ms x.promise (next_at g x.pos x.state Refuse) (resumed g x.pos x.state);
}

abbrev pub at_row : Game → Memories → SeamKey → AtRow
at_row g ms x = record { seam = seam_id x.seam; mem = mem ms x.state x.promise; after = moved g ms x On }

abbrev pub open_row : Game → Memories → SeamKey → OpenRow
open_row g ms x = record { seam = seam_id x.seam; mem = mem ms x.state x.promise; opened = moved g ms x Opened; failed = moved g ms x Failed }

abbrev pub is_split : SeamKey → Bool
is_split x = nat_eq x.part 1

abbrev pub into_row : ((p q e : ℕ) → ℕ) → Memories → SeamKey → IntoRow
into_row set ms x = record { seam = seam_id x.seam; split = is_split x; mem = mem ms x.state x.promise; callee = mem ms x.state (set x.pos x.state x.promise) }

abbrev pub back_row : Game → Memories → SeamKey × Key → BackRow
back_row g ms (x, b) = record {
  seam = seam_id x.seam;
  split = is_split x;
  mem = mem ms x.state x.promise;
  exit = state_id b.state;
  after = mem ms (returned g.states (kept_at (is_split x) x.state) b.state) x.promise;
}

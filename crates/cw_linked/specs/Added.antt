-- Working definitions: room is made for a context, and it is added.
use Rattle.std.specs.Prelude.{◌≡◌, ◌⊎◌, ℕ, ◌+◌, ◌-◌, ◌*◌, ◌<◌, ◌≤◌, List, [], ◌∷◌, ◌++◌, Bool, true, false, Option, Some, length, replicate, slice_get, slice_index, take, count_by}
use Rattle.cw_game.specs.declared.spots.Spot.{Spot}
use Rattle.cw_game.specs.declared.spots.Spot.TheVariants.{Label, Exit}
use Rattle.cw_game.specs.Games.{Game}
use Rattle.cw_game.specs.Pairs.{Called, call_in}
use Rattle.cw_links.specs.Flags.{is_flagged}
use Rattle.cw_links.specs.Stores.{Stored}
use Rattle.cw_solve.specs.declared.contexts.Context.{Context}
use Rattle.cw_solve.specs.declared.table.Blocks.{Blocks}
use Rattle.cw_solve.specs.Tabled.{Tabled}
use Rattle.cw_product.specs.Routed.{IsOf}
use Rattle.cw_solve.specs.Contexts.{size, cells_of}
use Rattle.cw_solve.specs.Rounds.{positions, IsCell}
use Rattle.cw_solve.specs.Tables.{is_none, HasCell}
use Rattle.cw_linked.specs.declared.work.Work.{Work}
use Rattle.cw_linked.specs.Calls.{AreCallers}
use Rattle.cw_linked.specs.Founds.{class_of, IsLink, AreRight, IsClosed, Nothing, AllClosed, AllCalled, AllStanding}
use Rattle.cw_linked.specs.Queues.{found_of, AreFlagged, AreLong, AreHigh, AreDue, AreSameBut, LowersKeys}
use Rattle.cw_linked.specs.Steps.{IsIt}
use Rattle.cw_linked.specs.Tied.{IsFirm}
use Rattle.cw_linked.specs.Works.{Known, known_of, index_at, heights_of}

-- what is known of cells, whatever their contexts are
pub record IsLaid (g : Game) (t : Known) : Type 0 where
  pub begins : (i : ℕ) → i < length t.blocks.contexts.items → slice_index t.blocks.bases.items i ≡ cells_of g (take i t.blocks.contexts.items)
  pub bases : length t.blocks.bases.items ≡ length t.blocks.contexts.items
  pub cells : length t.heights ≡ cells_of g t.blocks.contexts.items
  pub counted : t.written + count_by is_none t.heights ≡ length t.heights

-- so many indices more, of which none has a height and nothing waits, and links that go nowhere
pub record PushesIndices (old new : Stored) (many : ℕ) : Type 0 where
  pub heights : new.heights ≡ old.heights ++ replicate many 0
  pub asked : new.asked ≡ old.asked ++ replicate many 0
  pub due : new.due ≡ old.due ++ replicate many 0
  pub to : new.to ≡ old.to ++ replicate many 0
  pub waves : new.waves ≡ old.waves ++ replicate many 0
  pub long : length new.flags ≡ length old.flags + many
  pub kept : (k : ℕ) → k < length old.flags → is_flagged new.flags k ≡ is_flagged old.flags k
  pub lists : length old.lists ≤ length new.lists

-- of so many new indices, for a function's positions in one state, those of links are flagged
abbrev pub FlagsState : Game → (old new : List Bool) (function x many : ℕ) → Type 0
FlagsState g old new function x many =
    (p : ℕ) (call : Called) → IsOf g function p → call_in (slice_get g.spots p) ≡ Some call → class_of g call.split x ≡ x
    → p - g.entry function < many → is_flagged new (length old + (p - g.entry function)) ≡ true

-- of so many new indices, for a function's pairs state by state, those of links are flagged
abbrev pub FlagsLinks : Game → (old new : List Bool) (function many : ℕ) → Type 0
FlagsLinks g old new function many =
    (p x : ℕ) (call : Called) → IsOf g function p → call_in (slice_get g.spots p) ≡ Some call → class_of g call.split x ≡ x
    → x * positions g function + (p - g.entry function) < many → is_flagged new (length old + (x * positions g function + (p - g.entry function))) ≡ true

-- So many indices before a position are still to be added, and then so many before the next: none, where it is a link's, which is added behind them; or one more, where it isn't.
abbrev pub PushesNext : Game → (old new : Stored) → (p x plain more : ℕ) → Type 0
PushesNext g old new p x plain more =
    ((more ≡ 0) × PushesIndices old new (plain + 1) × (is_flagged new.flags (length old.flags + plain) ≡ true))
    ⊎ ((more ≡ plain + 1) × (new ≡ old) × ((call : Called) → call_in (slice_get g.spots p) ≡ Some call → class_of g call.split x ≡ x → ⊥))

-- a function's indices in one state up to a position, but for so many before it, which are no links'
pub record ArePushed (g : Game) (old new : Stored) (function x p plain : ℕ) : Type 0 where
  pub ahead : g.entry function + plain ≤ p
  pub indices : PushesIndices old new (p - g.entry function - plain)
  pub flagged : (r : ℕ) (call : Called) → IsOf g function r → r + plain < p → call_in (slice_get g.spots r) ≡ Some call → class_of g call.split x ≡ x
      → is_flagged new.flags (length old.flags + (r - g.entry function)) ≡ true
  pub rest : (r : ℕ) (call : Called) → r < p → p ≤ r + plain → call_in (slice_get g.spots r) ≡ Some call → class_of g call.split x ≡ x → ⊥

-- a context is added, whose cells begin at this index
pub record PushesContext (old new : Blocks) (context : Context) (base : ℕ) : Type 0 where
  pub contexts : new.contexts.items ≡ old.contexts.items ++ context ∷ []
  pub bases : new.bases.items ≡ old.bases.items ++ base ∷ []

-- a context is added, with so many cells of which none has a height or waits, and links that go nowhere
pub record Pushes (g : Game) (old new : Work) (context : Context) (many : ℕ) : Type 0 where
  pub contexts : new.blocks.contexts.items ≡ old.blocks.contexts.items ++ context ∷ []
  pub bases : new.blocks.bases.items ≡ old.blocks.bases.items ++ length old.store.heights ∷ []
  pub written : new.written ≡ old.written
  pub indices : PushesIndices old.store new.store many
  pub flagged : FlagsLinks g old.store.flags new.store.flags context.function many
  pub lists : length old.blocks.contexts.items + 1 < length new.store.lists

-- what is lost begins at a label, which may be bad, and at an exit
abbrev pub loss_begins_in : Option Spot → Bool
loss_begins_in (Some (Label j l n)) = true
loss_begins_in (Some (Exit f)) = true
loss_begins_in _ = false

-- no cell of a context has a height
abbrev pub HasNoHeights : Game → Known → Tabled → Type 0
HasNoHeights g t at = (p q : ℕ) → HasCell g t.blocks at p q → heights_of g t at.number p q ≡ 0

-- the index of a link of a context
abbrev pub IsLinkOf : Game → List Context → (i : ℕ) → Context → ℕ → Type 0
IsLinkOf g contexts i c k = (p : ℕ) × (x : ℕ) × (call : Called) × IsLink g contexts i c p x call × (k ≡ index_at g contexts i p x)

-- Pairs of a position and a state: one of them, those of a position at states before one, all of a position, those at positions before one, each.
abbrev pub ThePair : (r y : ℕ) → ℕ → ℕ → Type 0
ThePair r y p x = (p ≡ r) × (x ≡ y)

abbrev pub FirstOf : (r y : ℕ) → ℕ → ℕ → Type 0
FirstOf r y p x = (p ≡ r) × (x < y)

abbrev pub AllOf : (r : ℕ) → ℕ → ℕ → Type 0
AllOf r p x = p ≡ r

abbrev pub Before : (r : ℕ) → ℕ → ℕ → Type 0
Before r p x = p < r

abbrev pub Each : ℕ → ℕ → Type 0
Each p x = Unit {0}

-- the links of a context at these pairs wait to be tied, and nothing else changes
pub record FreesLinks (g : Game) (old new : Work) (i : ℕ) (c : Context) (These : ℕ → ℕ → Type 0) : Type 0 where
  pub others : AreSameBut old new
  pub asked : new.store.asked ≡ old.store.asked
  pub long : length new.store.due ≡ length old.store.due
  pub links : (p x : ℕ) (call : Called) → IsLink g old.blocks.contexts.items i c p x call → These p x → slice_index new.store.due (index_at g old.blocks.contexts.items i p x) ≡ 1
  pub rest : (k : ℕ) → (slice_index new.store.due k ≡ slice_index old.store.due k) ⊎ (IsLinkOf g old.blocks.contexts.items i c k × (slice_index new.store.due k ≡ 1))

-- the cells of a context at these pairs are asked for
pub record AsksCells (g : Game) (old new : Work) (j : ℕ) (c : Context) (These : ℕ → ℕ → Type 0) : Type 0 where
  pub step : LowersKeys g old new
  pub closed : (p q : ℕ) → IsCell g old.blocks.contexts.items j c p q → These p q → IsClosed g (found_of g new) j c p q
  pub due : new.store.due ≡ old.store.due

-- what the solver keeps but for what waits, whatever the contexts are: one more may be added
pub record IsOpen (g : Game) (w : Work) : Type 0 where
  pub laid : IsLaid g (known_of w)
  pub long : AreLong w
  pub flagged : AreFlagged g w
  pub high : AreHigh w
  pub callers : AreCallers w
  pub dues : AreDue g w
  pub right : AreRight g w.blocks.contexts.items (found_of g w)

-- A context is added, the last one: its cells have no heights, its links go nowhere, and both are asked for. What was there is as before but for keys of cells, and what
-- is known is missing nowhere where it wasn't, but for a link that is left to do.
pub record AddsContext (g : Game) (old new : Work) (context : Context) : Type 0 where
  pub firm : IsFirm g new
  pub contexts : new.blocks.contexts.items ≡ old.blocks.contexts.items ++ context ∷ []
  pub written : new.written ≡ old.written
  pub heights : new.store.heights ≡ old.store.heights ++ replicate (size g context.function) 0
  pub to : new.store.to ≡ old.store.to ++ replicate (size g context.function) 0
  pub dues : (k : ℕ) → k < length old.store.heights → slice_index new.store.due k ≡ slice_index old.store.due k
  pub closed : AllClosed g old.blocks.contexts.items (found_of g old) Nothing → AllClosed g new.blocks.contexts.items (found_of g new) Nothing
  pub called : AllCalled g old.blocks.contexts.items (found_of g old) Nothing → AllCalled g new.blocks.contexts.items (found_of g new) Nothing
  pub standing : AllStanding g old.blocks.contexts.items (found_of g old) Nothing → AllStanding g new.blocks.contexts.items (found_of g new) Nothing
  pub others : (j r x : ℕ) → AllStanding g old.blocks.contexts.items (found_of g old) (IsIt j r x) → AllStanding g new.blocks.contexts.items (found_of g new) (IsIt j r x)

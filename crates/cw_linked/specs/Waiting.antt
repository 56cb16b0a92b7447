-- Working definitions: what waits for a pair, the same in all contexts.
use Rattle.std.specs.Prelude.{◌≡◌, ℕ, ◌+◌, ◌*◌, ◌<◌, Bool, true, false, List, Option, Some, None, length, slice_get, Contains}
use Rattle.cw_certs.specs.declared.moves.Move.{Move}
use Rattle.cw_game.specs.declared.spots.Spot.{Spot}
use Rattle.cw_game.specs.declared.spots.Spot.TheVariants.{Visit, Step, Branch}
use Rattle.cw_game.specs.Games.{Game, Promise, weavers_in, holds_in}
use Rattle.cw_game.specs.Pairs.{is_call_in}
use Rattle.cw_links.specs.Flat.{row_at}
use Rattle.cw_links.specs.Lists.{Chained, list_at}
use Rattle.cw_links.specs.Flags.{is_flagged, number, rank}
use Rattle.cw_product.specs.Moves.{pos_id, next_in, next_at}
use Rattle.cw_product.specs.MovesAt.{first_move, second_move}
use Rattle.cw_linked.specs.declared.edges.Pair.{Pair}
use Rattle.cw_linked.specs.declared.edges.Changes.{Changes}
use Rattle.cw_linked.specs.declared.edges.Source.{Source}
use Rattle.cw_linked.specs.declared.edges.Waits.{Waits}
use Rattle.cw_linked.specs.declared.work.Cell.{Cell}
use Rattle.cw_linked.specs.declared.work.Work.{Work}
use Rattle.cw_linked.specs.Founds.{AllClosed}
use Rattle.cw_linked.specs.Queues.{found_of, LowersKeys}
use Rattle.cw_linked.specs.Steps.{Leads, WaitsFor}

-- whether one at most of two moves leads anywhere
abbrev pub lone : Option (ℕ × ℕ) → Option (ℕ × ℕ) → Bool
lone None b = true
lone (Some a) None = true
lone (Some a) (Some b) = false

-- where the second move leads, if there is one
abbrev pub next_by : Game → (p q : ℕ) → Option Spot → Option Move → Option (ℕ × ℕ)
next_by g p q o None = None
next_by g p q o (Some by) = next_in g p q o by

-- whether one move at most leads anywhere from a pair
abbrev pub is_sole : Game → (p q : ℕ) → Bool
is_sole g p q = lone (next_at g p q (first_move (slice_get g.spots p))) (next_by g p q (slice_get g.spots p) (second_move (slice_get g.spots p)))

abbrev pub pair_of : Game → (p q : ℕ) → Pair
pair_of g p q = record { pos = record { 0 = p }; state = record { 0 = q }; sole = is_sole g p q }

-- All that is asked of the pair (p, q), which is no call, is asked of (r, x): one move leads there, and no other leads anywhere.
abbrev pub IsOnly : Game → (p q r x : ℕ) → Type 0
IsOnly g p q r x = (is_call_in (slice_get g.spots p) ≡ false) × ((h : ℕ → ℕ → Promise → Bool) (e : Promise) → holds_in g h p q e (slice_get g.spots p) ≡ h r x e)

-- where one move at most leads anywhere from a pair, it leads to (r, x)
abbrev pub IsSoleTo : Game → Pair → (r x : ℕ) → Type 0
IsSoleTo g pair r x = pair.sole ≡ true → IsOnly g pair.pos.0 pair.state.0 r x

-- the number of the list of a pair whose position is flagged: those of a position stand together, behind those of the flagged positions before it
abbrev pub list_of : Game → List Bool → (p q : ℕ) → ℕ
list_of g flags p q = rank flags p * g.states.count + q

-- a link of a list has a value
abbrev pub HasIn : {T : Type 0} → Chained T → ℕ → T → Type 0
HasIn chains l v = (edge : ℕ) × Contains (list_at chains.lists l) edge × (slice_get chains.values edge ≡ Some v)

-- whether the moves where this stands keep the state: then they lead to the same positions from all states
abbrev pub keeps_state : Option Spot → Bool
keeps_state (Some (Visit j i a)) = true
keeps_state (Some (Step n)) = true
keeps_state (Some (Branch m n)) = true
keeps_state _ = false

abbrev pub is_step : Option Spot → Bool
is_step (Some (Step n)) = true
is_step _ = false

abbrev pub source_at : Game → ℕ → Source
source_at g p = record { pos = pos_id p; step = is_step (slice_get g.spots p); visit = weavers_in (slice_get g.spots p) }

-- where a source is a step, it leads to this position
abbrev pub IsStepTo : Game → Source → ℕ → Type 0
IsStepTo g source r = source.step ≡ true → slice_get g.spots source.pos.0 ≡ Some (Step r)

-- where it is a visit, one stands there
abbrev pub IsVisit : Game → Source → Type 0
IsVisit g source = source.visit ≡ true → weavers_in (slice_get g.spots source.pos.0) ≡ true

-- For each position a row, which has the positions that keep the state and lead there, and tells which of them are steps and visits.
pub record AreSources (g : Game) (sources : List (List Source)) : Type 0 where
  pub rows : length sources ≡ length g.spots
  pub steps : (r : ℕ) (source : Source) → Contains (row_at sources r) source → IsStepTo g source r
  pub visits : (r : ℕ) (source : Source) → Contains (row_at sources r) source → IsVisit g source
  pub leads : (p q r x : ℕ) → p < length g.spots → keeps_state (slice_get g.spots p) ≡ true → Leads g p q r x → Contains (row_at sources r) (source_at g p)

-- the pair (p, q) is in the list of (r, x), and r is flagged
abbrev pub IsChange : Game → Changes → (p q r x : ℕ) → Type 0
IsChange g changes p q r x = HasIn changes.pairs (list_of g changes.flags r x) (pair_of g p q) × (is_flagged changes.flags r ≡ true)

-- each link of the list of a pair has a pair from which that is led to, if by one move alone
abbrev pub AreSoles : Game → List Bool → Chained Pair → Type 0
AreSoles g flags pairs = (r x edge : ℕ) → is_flagged flags r ≡ true → x < g.states.count → Contains (list_at pairs.lists (list_of g flags r x)) edge
    → (pair : Pair) × (slice_get pairs.values edge ≡ Some pair) × IsSoleTo g pair r x

-- For each pair at a flagged position a list. That of a pair has the pairs at the other positions from which a move leads there, and all positions to which one leads are flagged.
pub record AreChanges (g : Game) (changes : Changes) : Type 0 where
  pub lists : length changes.pairs.lists ≡ number changes.flags * g.states.count
  pub flags : length changes.flags ≡ length g.spots
  pub fine : (edge : ℕ) (pair : Pair) → slice_get changes.pairs.values edge ≡ Some pair → (pair.pos.0 < length g.spots) × (pair.state.0 < g.states.count)
  pub leads : (p q r x : ℕ) → p < length g.spots → q < g.states.count → keeps_state (slice_get g.spots p) ≡ false → Leads g p q r x → IsChange g changes p q r x
  pub soles : AreSoles g changes.flags changes.pairs

pub record AreWaits (g : Game) (waits : Waits) : Type 0 where
  pub sources : AreSources g waits.sources
  pub changes : AreChanges g waits.changes

-- of the pairs that wait for a pair those at the other positions
abbrev pub ChangesFor : Game → (j r x : ℕ) → ℕ → ℕ → ℕ → Type 0
ChangesFor g j r x i p q = (keeps_state (slice_get g.spots p) ≡ false) × WaitsFor g j r x i p q

-- keys become lower, and all that waits for the cell is asked for but for these
pub record AsksSources (g : Game) (old new : Work) (cell : Cell) : Type 0 where
  pub step : LowersKeys g old new
  pub closed : AllClosed g old.blocks.contexts.items (found_of g new) (ChangesFor g cell.at.number cell.pos.0 cell.state.0)

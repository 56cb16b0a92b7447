-- Working definitions: the lists of what waits for pairs, and of what returns to positions, while they are made.
use Rattle.std.specs.Prelude.{◌≡◌, ◌⊎◌, ℕ, ◌+◌, ◌*◌, ◌<◌, ◌≤◌, Bool, true, false, ◌&&◌, not, List, Option, Some, None, length, slice_get, Contains}
use Rattle.cw_core.specs.declared.ids.PosId.{PosId}
use Rattle.cw_certs.specs.declared.moves.Move.{Move}
use Rattle.cw_rights.specs.declared.capabilities.Primitive.{Primitive}
use Rattle.cw_rights.specs.declared.capabilities.Primitive.TheVariants.{Split}
use Rattle.cw_rights.specs.Policies.{is_refusable}
use Rattle.cw_game.specs.declared.spots.Spot.{Spot}
use Rattle.cw_game.specs.declared.spots.Spot.TheVariants.{Visit, Asked, Step, Branch, Label, Open, Close}
use Rattle.cw_game.specs.Games.{Game}
use Rattle.cw_game.specs.Pairs.{Called, call_in}
use Rattle.cw_links.specs.Lists.{Chained, list_at}
use Rattle.cw_links.specs.Flags.{is_flagged, number}
use Rattle.cw_product.specs.Moves.{pos_id, next_at}
use Rattle.cw_linked.specs.declared.edges.Pair.{Pair}
use Rattle.cw_linked.specs.declared.edges.Source.{Source}
use Rattle.cw_linked.specs.Steps.{Leads}
use Rattle.cw_linked.specs.Waiting.{pair_of, HasIn, keeps_state, source_at, IsStepTo, IsVisit, list_of, AreSoles}

-- each value is a pair of the game
abbrev pub AreFine : Game → Chained Pair → Type 0
AreFine g pairs = (edge : ℕ) (pair : Pair) → slice_get pairs.values edge ≡ Some pair → (pair.pos.0 < length g.spots) × (pair.state.0 < g.states.count)

-- each link of a list has a source, which leads there where it is a step, and where it is a visit one stands there
abbrev pub AreSteps : Game → Chained Source → Type 0
AreSteps g sources = (l edge : ℕ) → Contains (list_at sources.lists l) edge → (source : Source) × (slice_get sources.values edge ≡ Some source) × IsStepTo g source l × IsVisit g source

-- where the moves lead from where this stands, if they keep the state, one or two
abbrev pub first_kept : ℕ → Option Spot → Option ℕ
first_kept p (Some (Visit j i a)) = Some (p + 2)
first_kept p (Some (Step n)) = Some n
first_kept p (Some (Branch m n)) = Some m
first_kept p _ = None

abbrev pub second_kept : ℕ → Option Spot → Option ℕ
second_kept p (Some (Visit j i a)) = Some (p + 1)
second_kept p (Some (Branch m n)) = Some n
second_kept p _ = None

-- what was in stays in, and a source is in the list of this position, if there is one
pub record AddsSource (g : Game) (old new : Chained Source) (source : Source) (to : Option ℕ) : Type 0 where
  pub lists : length new.lists ≡ length old.lists
  pub grows : length new.values ≤ length old.values + 1
  pub keeps : (l : ℕ) (source : Source) → HasIn old l source → HasIn new l source
  pub steps : AreSteps g old → AreSteps g new
  pub leads : (r : ℕ) → to ≡ Some r → HasIn new r source

-- the positions before this one are in
pub record AreSourcesTo (g : Game) (sources : Chained Source) (m : ℕ) : Type 0 where
  pub lists : length sources.lists ≡ length g.spots
  pub few : length sources.values ≤ m * 2
  pub steps : AreSteps g sources
  pub leads : (p q r x : ℕ) → p < m → keeps_state (slice_get g.spots p) ≡ true → Leads g p q r x → HasIn sources r (source_at g p)

-- what is so of each move from the pairs before this one whose position may change the state, with where it leads
abbrev pub AreLed : Game → (ℕ → ℕ → ℕ → ℕ → Type 0) → (m n : ℕ) → Type 0
AreLed g Is m n = (p q r x : ℕ) → (p < m) ⊎ ((p ≡ m) × (q < n)) → q < g.states.count → keeps_state (slice_get g.spots p) ≡ false → Leads g p q r x → Is p q r x

-- the position to which a move leads is flagged
abbrev pub IsReached : List Bool → (p q r x : ℕ) → Type 0
IsReached flags p q r x = is_flagged flags r ≡ true

-- whether moves lead from where this stands that may change the state: none leads anywhere from a call or an exit
abbrev pub changes_state : Option Spot → Bool
changes_state (Some (Asked j i a)) = true
changes_state (Some (Label j l n)) = true
changes_state (Some (Open j d n)) = true
changes_state (Some (Close j d n)) = true
changes_state _ = false

-- the positions to which moves may lead that may change the state, one or two
abbrev pub first_target : ℕ → Option Spot → Option ℕ
first_target p (Some (Asked j i a)) = Some (p + 1)
first_target p (Some (Label j l n)) = Some n
first_target p (Some (Open j d n)) = Some n
first_target p (Some (Close j d n)) = Some n
first_target p _ = None

abbrev pub second_asked : ℕ → Primitive → Option ℕ
second_asked p Split = Some (p + 2)
second_asked p _ = None

abbrev pub second_target : ℕ → Option Spot → Option ℕ
second_target p (Some (Asked j i a)) = second_asked p a
second_target p _ = None

-- where something is asked, whether it may be refused in states that may grant it
abbrev pub refusal : Game → Option Spot → Option Bool
refusal g (Some (Asked j i a)) = Some (is_refusable g.policy a && not g.policy.stop)
refusal g _ = None

-- what was flagged stays flagged, and so is this position, if there is one
pub record FlagsTarget (old new : List Bool) (to : Option ℕ) : Type 0 where
  pub long : length new ≡ length old
  pub keeps : (r : ℕ) → is_flagged old r ≡ true → is_flagged new r ≡ true
  pub flagged : (r : ℕ) → to ≡ Some r → is_flagged new r ≡ true

-- the positions to which those before this pair lead are flagged
pub record AreReachedTo (g : Game) (flags : List Bool) (m n : ℕ) : Type 0 where
  pub long : length flags ≡ length g.spots
  pub leads : AreLed g (IsReached flags) m n

-- and to which all lead
pub record AreReached (g : Game) (flags : List Bool) : Type 0 where
  pub long : length flags ≡ length g.spots
  pub leads : (p q r x : ℕ) → p < length g.spots → q < g.states.count → keeps_state (slice_get g.spots p) ≡ false → Leads g p q r x → is_flagged flags r ≡ true

-- the pair (p, q) is in the list of (r, x)
abbrev pub IsListed : Game → List Bool → Chained Pair → (p q r x : ℕ) → Type 0
IsListed g flags pairs p q r x = HasIn pairs (list_of g flags r x) (pair_of g p q)

-- what was in stays in, and a pair is in the list of the one to which this move leads
pub record AddsMove (g : Game) (flags : List Bool) (old new : Chained Pair) (p q : ℕ) (by : Move) : Type 0 where
  pub lists : length new.lists ≡ length old.lists
  pub grows : length new.values ≤ length old.values + 1
  pub fine : AreFine g old → AreFine g new
  pub keeps : (l : ℕ) (pair : Pair) → HasIn old l pair → HasIn new l pair
  pub leads : (r x : ℕ) → next_at g p q by ≡ Some (r, x) → IsListed g flags new p q r x
  pub soles : AreSoles g flags old → AreSoles g flags new

-- of all moves at its position
pub record AddsMoves (g : Game) (flags : List Bool) (old new : Chained Pair) (p q : ℕ) : Type 0 where
  pub lists : length new.lists ≡ length old.lists
  pub grows : length new.values ≤ length old.values + 2
  pub fine : AreFine g old → AreFine g new
  pub keeps : (l : ℕ) (pair : Pair) → HasIn old l pair → HasIn new l pair
  pub leads : (r x : ℕ) → Leads g p q r x → IsListed g flags new p q r x
  pub soles : AreSoles g flags old → AreSoles g flags new

-- the pairs before this one are in
pub record AreChangesTo (g : Game) (flags : List Bool) (pairs : Chained Pair) (m n : ℕ) : Type 0 where
  pub lists : length pairs.lists ≡ number flags * g.states.count
  pub few : length pairs.values ≤ (m * g.states.count + n) * 2
  pub fine : AreFine g pairs
  pub leads : AreLed g (IsListed g flags pairs) m n
  pub soles : AreSoles g flags pairs

-- the positions before this one are in
pub record AreReturnsTo (g : Game) (returns : Chained PosId) (m : ℕ) : Type 0 where
  pub lists : length returns.lists ≡ length g.spots
  pub few : length returns.values ≤ m
  pub fine : (edge : ℕ) (pos : PosId) → slice_get returns.values edge ≡ Some pos → pos.0 < length g.spots
  pub leads : (p : ℕ) (call : Called) → p < m → call_in (slice_get g.spots p) ≡ Some call → HasIn returns call.back (pos_id p)

-- What is seen of the states of a run: of each its phase, and the item at its front by a number.
use Rattle.std.specs.Prelude.{◌≡◌, ℕ, List, [], ◌∷◌, Bool, true, false, cond, Option, Some, None}
use Rattle.cw_syntax.specs.Frames.{Item, front}
use Rattle.cw_model.specs.Boards.{Phase, Visit, Asked, Refused, Free, FreeSplit, Over}
use Rattle.cw_model.specs.Runs.{State}
use Rattle.cw_boards.specs.declared.paths.Front.{Front}
use Rattle.cw_boards.specs.declared.paths.Seen.{Seen}
use Rattle.cw_boards.specs.declared.paths.Phase.{Phase as SeenPhase}
use Rattle.cw_boards.specs.declared.paths.Phase.TheVariants.{Visit as SeenVisit, Asked as SeenAsked, Refused as SeenRefused, Free as SeenFree, FreeSplit as SeenFreeSplit, Over as SeenOver}

abbrev pub seen_phase : Phase → SeenPhase
seen_phase (Visit stage a later) = SeenVisit
seen_phase (Asked stage a later) = SeenAsked
seen_phase (Refused stage a later) = SeenRefused
seen_phase Free = SeenFree
seen_phase FreeSplit = SeenFreeSplit
seen_phase Over = SeenOver

abbrev pub items_by : (ℕ → Item) → Option Front → List Item
items_by item None = []
items_by item (Some number) = item number.0 ∷ []

-- The state's phase is seen, and its front, where `item` says which item a number stands for.
pub record IsSeen (item : ℕ → Item) (s : State) (seen : Seen) : Type 0 where
  pub phase : seen_phase s.board.phase ≡ seen.phase
  pub front : front s.board.stack ≡ items_by item seen.front

-- each of these states is seen so, in order
abbrev pub AreSeen : (ℕ → Item) → List State → List Seen → Type 0
AreSeen item [] [] = Unit {0}
AreSeen item (s ∷ run) (seen ∷ later) = IsSeen item s seen × AreSeen item run later
AreSeen item _ _ = ⊥

-- whether the program steps
abbrev pub steps : SeenPhase → Bool
steps SeenFree = true
steps SeenFreeSplit = true
steps _ = false

-- the front that is passed next
abbrev pub passed_by : Seen → Option Front
passed_by seen = cond (steps seen.phase) seen.front None

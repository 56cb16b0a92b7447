-- Where a board stands in the game: its top frame at a pair of a position and a state, each frame below at a return that waits.
use Rattle.std.specs.Prelude.{◌≡◌, ℕ, ◌+◌, List, [], ◌∷◌, true, false, Option, Some, None, slice_get, Contains}
use Rattle.cw_rights.specs.declared.capabilities.Caps.{Caps}
use Rattle.cw_rights.specs.declared.capabilities.Primitive.{Primitive}
use Rattle.cw_rights.specs.Words.{Word}
use Rattle.cw_rights.specs.Policies.{PlainPolicy}
use Rattle.cw_certs.specs.declared.moves.Move.{Move}
use Rattle.cw_syntax.specs.Plans.{Callee, Call, Label}
use Rattle.cw_syntax.specs.Frames.{Entry, Todo, Frame, settled}
use Rattle.cw_model.specs.Boards.{Problem, Phase, Visit, Asked, Refused, Free, FreeSplit, Board, seam_in, primitives_in, is_refused, Moves}
use Rattle.cw_game.specs.declared.spots.Spot.{Spot}
use Rattle.cw_game.specs.declared.spots.Spot.TheVariants.{Step, Label as LabelSpot}
use Rattle.cw_game.specs.Games.{AreStates, Game, Ret, Config, leads_to}
use Rattle.cw_game.specs.Reached.{Reached}
use Rattle.cw_game.specs.Places.{Visits, CallsAt, Situated, AtIn, At, IsLaidOut, HasRoutines}

-- what a state stands for: `Means q word caps` says that state q stands for this word and these capabilities
abbrev pub Meaning : Type 1
Meaning = ℕ → Word → Caps → Type 0

-- where z is the free position of a front, the one after its visit
abbrev pub FreeIn : List Spot → PlainPolicy → ℕ → Option ℕ → Option ℕ → Frame → ℕ → Type 0
FreeIn g pol x b c (Entry f j ∷ is) z = (m : ℕ) × (slice_get g z ≡ Some (Step m)) × AtIn g pol x b c is m
FreeIn g pol x b c (Todo (Label at mark j l s) ∷ is) z =
    (k : ℕ) × ((m : ℕ) × (slice_get g z ≡ Some (LabelSpot j l m)) × Situated g pol x b c s m k) × AtIn g pol x b c is k
FreeIn g pol x b c (Todo (Call at j callee) ∷ is) z = (k : ℕ) × CallsAt g j callee z k × AtIn g pol x b c is k
FreeIn g pol x b c frame z = AtIn g pol x b c frame z

abbrev pub FreeAt : List Spot → PlainPolicy → ℕ → Frame → ℕ → Type 0
FreeAt g pol x frame z = (b : Option ℕ) × (c : Option ℕ) × FreeIn g pol x b c frame z

-- the front is a call that may be split
abbrev pub IsSplitCall : Frame → Type 0
IsSplitCall (Todo (Call at j callee) ∷ is) = callee.split ≡ true
IsSplitCall _ = ⊥

-- these are of the front's primitives
abbrev pub Within : PlainPolicy → Frame → List Primitive → Type 0
Within pol frame later = (a : Primitive) → Contains later a → Contains (primitives_in pol frame) a

-- the frame stands in its visit at p, before the primitive of this stage
abbrev pub Stage : List Spot → PlainPolicy → ℕ → Frame → ℕ → List Primitive → ℕ → Type 0
Stage g pol x frame i later p =
    (z : ℕ) × (j : ℕ) × (seam_in frame ≡ Some j) × FreeAt g pol x frame z × Visits g j i later p z × Within pol frame later

-- the capabilities that are kept for a return are those of the state at the call
abbrev pub KeptIs : Meaning → Option Caps → Option ℕ → Type 0
KeptIs Means None None = Unit {0}
KeptIs Means (Some caps) (Some q) = (word : Word) × Means q word caps
KeptIs Means _ _ = ⊥

-- a frame of the function fn2 that waits at r for the end of fn, whose frame keeps k
pub record Resumes (Means : Meaning) (g : Game) (fn fn2 : ℕ) (frame : Frame) (k : Option Caps) (r : Ret) : Type 0 where
  pub at : ℕ
  pub seam : ℕ
  pub callee : Callee
  pub rest : Frame
  pub is_call : frame ≡ Todo (Call at seam callee) ∷ rest
  pub calls : callee.number ≡ fn
  pub after_it : At g.spots g.policy (g.exit fn2) rest r.back
  pub keeps_it : KeptIs Means k r.kept

abbrev pub Under : Meaning → Game → ℕ → List Frame → List (Option Caps) → List Ret → Type 0
Under Means g fn [] kept [] = Unit {0}
Under Means g fn (frame ∷ frames) (k ∷ kept) (r ∷ rets) = (fn2 : ℕ) × Resumes Means g fn fn2 frame k r × Under Means g fn2 frames kept rets
Under Means g fn _ _ _ = ⊥

-- the top frame, of a function with its exit at x, stands at p with the state q
abbrev pub StandsIn : Meaning → List Spot → PlainPolicy → ℕ → Frame → Caps → Word → Phase → ℕ → ℕ → Type 0
StandsIn Means g pol x frame caps word (Visit i a later) p q = Stage g pol x frame i (a ∷ later) p × Means q word caps
StandsIn Means g pol x frame caps word (Asked i a later) p q = (o : ℕ) × Stage g pol x frame i (a ∷ later) o × (p ≡ o + 1) × Means q word caps
StandsIn Means g pol x frame caps word Free p q = FreeAt g pol x frame p × Means q word caps × (settled frame ≡ true)
StandsIn Means g pol x frame caps word FreeSplit p q = (z : ℕ) × FreeAt g pol x frame z × IsSplitCall frame × (p ≡ z + 1) × Means q word caps
StandsIn Means g pol x frame caps word _ p q = ⊥

abbrev pub StandsOn : Meaning → Game → List Frame → List (Option Caps) → Caps → Word → Phase → ℕ → ℕ → List Ret → Type 0
StandsOn Means g [] kept caps word phase p q rets = ⊥
StandsOn Means g (frame ∷ frames) kept caps word phase p q rets =
    (fn : ℕ) × StandsIn Means g.spots g.policy (g.exit fn) frame caps word phase p q × Under Means g fn frames kept rets

-- a board in Refused stands where it stood when it was asked
abbrev pub standing : Phase → Phase
standing (Refused i a later) = Asked i a later
standing phase = phase

-- The board stands at the pair, over the returns that wait, by a meaning of the states.
abbrev pub StandsBy : Meaning → Game → Board → Config → Type 0
StandsBy Means g b c = StandsOn Means g b.stack b.kept b.caps b.word (standing b.phase) c.pos c.state c.rets

-- The game is that of this program and policy: its states are the policy's, and each function stands where the game says.
pub record IsGameOf (p : Problem) (g : Game) : Type 0 where
  pub policy : g.policy ≡ p.policy
  pub states : AreStates g.policy g.spots g.states (Reached g.policy g.spots g.states)
  pub laid : IsLaidOut p.plan g
  pub routines : HasRoutines p.plan g

-- The same by the least meaning: what the states' own functions lead to.
abbrev pub StandsAt : Game → Board → Config → Type 0
StandsAt g b c = StandsBy (Reached g.policy g.spots g.states) g b c

-- A move is the board's exactly where it is the pair's. The next board isn't in Refused, and stands at the next pair.
pub record Tied (p : Problem) (g : Game) (b : Board) (c : Config) (by : Move) : Type 0 where
  pub to_pair : (next : Board) → Moves p b by next → (d : Config) × (leads_to g c by ≡ Some d) × StandsAt g next d × (is_refused next.phase ≡ false)
  pub to_board : (d : Config) → leads_to g c by ≡ Some d → (next : Board) × Moves p b by next × StandsAt g next d × (is_refused next.phase ≡ false)

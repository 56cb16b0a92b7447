-- What a state tells of a word and of capabilities: its set of positions is the word's, and its capabilities are these. So a board stands at a pair
-- where its word has the state's set and its capabilities are the state's.
use Rattle.std.specs.Prelude.{◌≡◌, ℕ, ◌<◌, List}
use Rattle.cw_rights.specs.declared.capabilities.Caps.{Caps}
use Rattle.cw_rights.specs.Words.{Word}
use Rattle.cw_dfa.specs.Positions.{IsSetOf}
use Rattle.cw_model.specs.Boards.{Problem}
use Rattle.cw_game.specs.declared.spots.Spot.{Spot}
use Rattle.cw_game.specs.Games.{AreStates, Game}
use Rattle.cw_game.specs.Reached.{Reached}
use Rattle.cw_game.specs.Places.{IsLaidOut, HasRoutines}
use Rattle.cw_game.specs.Linked.{AreLinkedBy}
use Rattle.cw_states.specs.declared.uses.Uses.{Uses}
use Rattle.cw_states.specs.States.{Lists, AreLists, count, set_at, caps_at, states_of}
use Rattle.cw_states.specs.Spots.{Have}

abbrev pub Tells : Lists → ℕ → Word → Caps → Type 0
Tells v q w c = (q < count v) × IsSetOf v.policy.rules w (set_at v q) × (caps_at v q ≡ c)

-- The states are the policy's by that.
abbrev pub StatesTell : Type 0
StatesTell = (uses : Uses) (v : Lists) (spots : List Spot) → AreLists uses v → Have v.policy uses spots → AreStates v.policy spots (states_of v) (Tells v)

-- It is told of all that the states' own functions lead to.
abbrev pub ReachedIsMeant : Type 0
ReachedIsMeant = (uses : Uses) (v : Lists) (spots : List Spot) → AreLists uses v → Have v.policy uses spots
    → (q : ℕ) (w : Word) (c : Caps) → Reached v.policy spots (states_of v) q w c → Tells v q w c

-- The boards of a program are linked by that to the pairs of each game with these states that is laid out for it.
abbrev pub BoardsAreLinkedByMeaning : Type 0
BoardsAreLinkedByMeaning = (uses : Uses) (v : Lists) (p : Problem) (g : Game) → AreLists uses v → Have v.policy uses g.spots
    → v.policy ≡ g.policy → g.policy ≡ p.policy → g.states ≡ states_of v → IsLaidOut p.plan g → HasRoutines p.plan g → AreLinkedBy (Tells v) p g

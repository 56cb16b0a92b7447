-- The words and capabilities that a state stands for because the states' own functions lead to it. It is the least such relation:
-- where any makes the states a policy's, this one does.
use Rattle.std.specs.Prelude.{◌≡◌, ℕ, ◌<◌, List, [], ◌∷◌, ◌++◌, true, slice_get, length, Contains}
use Rattle.cw_rights.specs.declared.capabilities.Caps.{Caps}
use Rattle.cw_rights.specs.declared.capabilities.Primitive.{Primitive}
use Rattle.cw_rights.specs.Capabilities.{applied, closed}
use Rattle.cw_rights.specs.Words.{Word}
use Rattle.cw_rights.specs.Policies.{PlainPolicy, IsBad, primitives, start_caps}
use Rattle.cw_model.specs.Boards.{may_grant, with_opened}
use Rattle.cw_game.specs.declared.spots.Spot.{Spot}
use Rattle.cw_game.specs.Games.{States, letter_of, IsOpenedIn, IsClosedIn, IsLabelIn}

-- The least meaning of states: the start state is that of the empty word with the capabilities at the start, and the state to which a grant, an open,
-- a close, a letter or a return leads is that of what these leave of the word and the capabilities.
pub data Reached (policy : PlainPolicy) (spots : List Spot) (states : States) : ℕ → Word → Caps → Type 0 where
  at_start : Reached policy spots states states.start [] (start_caps policy)
  by_grant : (q : ℕ) (w : Word) (c : Caps) (a : Primitive) → Contains (primitives policy true) a → may_grant c a ≡ true → Reached policy spots states q w c
      → Reached policy spots states (states.granted q a) w (applied c a)
  by_open : (q : ℕ) (w : Word) (c : Caps) (d : ℕ) → IsOpenedIn spots d → d < length policy.descriptors → Reached policy spots states q w c
      → Reached policy spots states (states.opened q d) w (with_opened c d (slice_get policy.descriptors d))
  by_close : (q : ℕ) (w : Word) (c : Caps) (d : ℕ) → IsClosedIn spots d → d < length policy.descriptors → Reached policy spots states q w c
      → Reached policy spots states (states.closed q d) w (closed c d)
  by_letter : (q : ℕ) (w : Word) (c : Caps) (l : ℕ) → IsLabelIn spots l → (IsBad policy (w ++ letter_of l c ∷ []) → ⊥) → Reached policy spots states q w c
      → Reached policy spots states (states.lettered q l) (w ++ letter_of l c ∷ []) c
  -- the word of the first, the capabilities of the second
  by_return : (x q : ℕ) (w v : Word) (c k : Caps) → Reached policy spots states x w c → Reached policy spots states q v k → Reached policy spots states (states.with_rights x q) w k

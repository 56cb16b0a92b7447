-- The least meaning of states.
use Rattle.std.proofs.Common.{ℕ, List}
use Rattle.cw_rights.specs.declared.capabilities.Caps.{Caps}
use Rattle.cw_rights.specs.Words.{Word}
use Rattle.cw_rights.specs.Policies.{PlainPolicy}
use Rattle.cw_game.specs.declared.spots.Spot.{Spot}
use Rattle.cw_game.specs.Games.{States, AreStates}
use Rattle.cw_game.specs.Reached.{Reached, at_start, by_grant, by_open, by_close, by_letter, by_return}

module _ (policy : PlainPolicy) (spots : List Spot) (states : States) (Means : ℕ → Word → Caps → Type 0) (right : AreStates policy spots states Means) where
  pub reached_means : (q : ℕ) (w : Word) (c : Caps) → Reached policy spots states q w c → Means q w c
  reached_means _ _ _ at_start = right.begins
  reached_means _ _ _ (by_grant q w c a in_policy may h) = right.granted q w c a in_policy (reached_means q w c h) may
  reached_means _ _ _ (by_open q w c d at lt h) = right.opened q w c d at lt (reached_means q w c h)
  reached_means _ _ _ (by_close q w c d at lt h) = right.closed q w c d at lt (reached_means q w c h)
  reached_means _ _ _ (by_letter q w c l at fine h) = right.lettered q w c l at (reached_means q w c h) fine
  reached_means _ _ _ (by_return x q w v c k h h2) = right.returned x q w v c k (reached_means x w c h) (reached_means q v k h2)

  -- where the states are the policy's by some meaning, they are by the least one
  pub are_reached : AreStates policy spots states (Reached policy spots states)
  are_reached = record {
    begins = at_start;
    within = λ q w c h. right.within q w c (reached_means q w c h);
    grants = λ q w c a in_policy h. right.grants q w c a in_policy (reached_means q w c h);
    granted = λ q w c a in_policy h may. by_grant q w c a in_policy may h;
    opened = λ q w c d at lt h. by_open q w c d at lt h;
    closed = λ q w c d at lt h. by_close q w c d at lt h;
    bad = λ q w c l at h. right.bad q w c l at (reached_means q w c h);
    lettered = λ q w c l at h fine. by_letter q w c l at fine h;
    returned = λ x q w v c k h h2. by_return x q w v c k h h2;
  }

-- Members of sets of states, as the program's sets tell them and as the game does.
use Rattle.std.proofs.Common.{◌≡◌, ℕ, ◌≤◌, false, refl, sym, ◌∙◌}
use Rattle.cw_core.specs.StateSet.{has as has_in, IsBelow}
use Rattle.cw_core.proofs.Sets.{has-zero, same_from_members}
use Rattle.cw_core.proofs.Runs.{outside}
use Rattle.cw_game.specs.Pairs.{has}

-- both are one
pub has_is : (set q : ℕ) → has_in set q ≡ has set q
unfolding has_in
has_is set q = refl

-- the empty set has none
pub has_none : (q : ℕ) → has 0 q ≡ false
has_none q = sym (has_is 0 q) ∙ has-zero q

-- the members of a set that can have the numbers below 1024
pub has_above : (set q : ℕ) → IsBelow 1024 set → 1024 ≤ q → has set q ≡ false
has_above set q below le = sym (has_is set q) ∙ outside set q below le

-- two sets with the same members are one
pub same_set : (a b : ℕ) → ((q : ℕ) → has a q ≡ has b q) → a ≡ b
same_set a b h = same_from_members a b (λ q. has_is a q ∙ h q ∙ sym (has_is b q))

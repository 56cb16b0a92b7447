-- Sets of states as numbers.
use Rattle.std.proofs.Common.{◌≡◌, ℕ, ◌^◌, ◌<◌, Bool, true, false, not, ◌&&◌, nat_lt, refl, sym, ap, ◌∙◌}
use Rattle.std.proofs.lemmas.Bool.{ltb-true}
use Rattle.cw_core.specs.StateSet.{has as has_member}
use Rattle.cw_core.proofs.Sets.{has-zero, IsBelow-lt}
use Rattle.cw_game.specs.Games.{Game}
use Rattle.cw_game.specs.Pairs.{has, all_states}
use Rattle.std.proofs.lemmas.Bool.{and_parts}
use Rattle.cw_solve.specs.Sets.{set_of}
use Rattle.cw_solve.proofs.Fresh.{all_is}
use Rattle.cw_solve.proofs.Sets.{has_set}
use Rattle.cw_least_strategy.specs.Heights.{others}

-- the states that pass are a set of states
pub set_within : (passes : ℕ → Bool) (n : ℕ) → set_of passes n < 2 ^ n
unfolding has_member
set_within passes n = IsBelow-lt n (set_of passes n) (λ s h. ltb-true s n (and_parts (nat_lt s n) (passes s) (sym (has_set passes n s) ∙ h)).0)

-- where nothing is aimed at all states are promised
pub none_aimed : (g : Game) → others g 0 ≡ all_states g
unfolding has_member
none_aimed g = all_is g (others g 0) (λ i. has_set (λ x. not (has 0 x)) g.states.count i ∙ by i (nat_lt i g.states.count))
  where
    by : (i : ℕ) (b : Bool) → (b && not (has 0 i)) ≡ b
    by i true = ap not (has-zero i)
    by i false = refl

-- The rule that a letter breaks is the least.
use Rattle.std.proofs.Common.{[], ◌∷◌, ◌++◌}
use Rattle.cw_dfa.proofs.Whole.{next_set, verdict_is}
use Rattle.cw_game.specs.Games.{letter_of}
use Rattle.cw_states.specs.Broken.{ViolationsAreVerdicts}
use Rattle.cw_states.specs.States.{caps_at, set_at, set_after}

pub violations_are_verdicts : ViolationsAreVerdicts
violations_are_verdicts v q label w h =
    let c = letter_of label (caps_at v q) in
    verdict_is v.policy.rules (w ++ c ∷ []) (set_after v q label) (next_set v.policy.rules w (set_at v q) c h)

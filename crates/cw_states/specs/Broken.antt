-- The rule that a letter breaks.
use Rattle.std.specs.Prelude.{◌≡◌, ℕ, [], ◌∷◌, ◌++◌, is_some}
use Rattle.cw_rights.specs.Words.{Word}
use Rattle.cw_dfa.specs.Positions.{IsSetOf}
use Rattle.cw_dfa.specs.Verdicts.{IsVerdict}
use Rattle.cw_game.specs.Games.{letter_of}
use Rattle.cw_states.specs.States.{Lists, caps_at, set_at, states_of, violated_in}

-- a rule is broken exactly where the letter is bad
abbrev pub ViolationsAreBad : Type 0
ViolationsAreBad = (v : Lists) (q label : ℕ) → is_some (violated_in v q label) ≡ (states_of v).bad q label

-- of each word whose set is the state's, with the letter of the label and the state's capabilities behind it, it is the least rule that matches it
abbrev pub ViolationsAreVerdicts : Type 0
ViolationsAreVerdicts = (v : Lists) (q label : ℕ) (w : Word) → IsSetOf v.policy.rules w (set_at v q)
    → IsVerdict v.policy.rules (w ++ letter_of label (caps_at v q) ∷ []) (violated_in v q label)

-- How the answers of `run` and `play` are told.
use Rattle.std.specs.Prelude.{ℕ, List, [], ◌∷◌, ◌++◌, codes, slice_get, unwrap_or, option_map}
use Rattle.std.specs.Fmt.{decimal}
use Rattle.cw_rights.specs.Policies.{PlainPolicy}
use Rattle.cw_trace.specs.Steps.{End, Ended, TapeSpent, BadMove}
use Rattle.cw_play.specs.declared.end.PlayEnd.{PlayEnd}
use Rattle.cw_play.specs.declared.end.PlayEnd.TheVariants as play
use Rattle.cw_commands.specs.declared.outcome.Reply.TheVariants.{Yes, No}
use Rattle.cw_commands.specs.Outcomes.{Due, Told}

-- the trace of a run, and behind it how the run ends
abbrev pub run_told : End → (lines : List ℕ) → Due
run_told Ended lines = Told Yes (lines ++ (codes "ended" ++ (10 ∷ [])))
run_told TapeSpent lines = Told No (lines ++ (codes "tape spent" ++ (10 ∷ [])))
run_told (BadMove i) lines = Told No (lines ++ (codes "bad move " ++ (decimal i ++ (10 ∷ []))))

-- the name of the rule with this number; a number without a rule has the empty one
abbrev pub rule_name : PlainPolicy → ℕ → List ℕ
rule_name whole number = unwrap_or (option_map (λ rule. rule.name) (slice_get whole.rules number)) []

-- the trace of a play, and behind it how the play ends
abbrev pub play_told : PlainPolicy → PlayEnd → (lines : List ℕ) → Due
play_told whole (play.Violation rule) lines = Told Yes (lines ++ (codes "violation " ++ (rule_name whole rule ++ (10 ∷ []))))
play_told whole play.TapeSpent lines = Told No (lines ++ (codes "tape spent" ++ (10 ∷ [])))

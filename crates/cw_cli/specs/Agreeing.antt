-- What `weave` writes, `check` and `refute` accept.
use Rattle.std.specs.Prelude.{◌≡◌, ◌≤◌, ℕ, List, length}
use Rattle.cw_core.specs.Quantities.{limit_of}
use Rattle.cw_core.specs.declared.quantity.Quantity.TheVariants.{SourceBytes}
use Rattle.cw_commands.specs.declared.outcome.Reply.TheVariants.{Yes, No}
use Rattle.cw_commands.specs.Outcomes.{Due, Told}
use Rattle.cw_stages.specs.Refusals.{yes}
use Rattle.cw_checking.specs.Checking.{IsCheckDue}
use Rattle.cw_checking.specs.Refuting.{IsRefuteDue}
use Rattle.cw_cli.specs.Weaving.{IsWeaveDue}

-- this is due, and nothing else
abbrev pub IsOnly : (Due → Type 0) → Due → Type 0
IsOnly Is due = Is due × ((other : Due) → Is other → other ≡ due)

-- Where a woven text is due for a policy and a source, `yes` alone is due for the policy and that text.
abbrev pub WovenIsChecked : Type 0
WovenIsChecked = (policy source text : List ℕ) → length source ≤ limit_of SourceBytes → IsWeaveDue policy source (Told Yes text)
    → IsOnly (IsCheckDue policy text) (Told Yes yes)

-- Where a strategy is due for them, `yes` alone is due for the policy, the source and that strategy.
abbrev pub RefutedIsJudged : Type 0
RefutedIsJudged = (policy source text : List ℕ) → IsWeaveDue policy source (Told No text) → IsOnly (IsRefuteDue policy source text) (Told Yes yes)

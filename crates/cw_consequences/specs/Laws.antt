-- What follows of what is due for the commands.
use Rattle.std.specs.Prelude.{◌≡◌, ◌⊎◌, ◌↔◌, ◌≤◌, ℕ, List, [], length, None, true}
use Rattle.cw_core.specs.Quantities.{limit_of}
use Rattle.cw_core.specs.declared.quantity.Quantity.TheVariants.{ProductStates, SourceBytes}
use Rattle.cw_rights.specs.Policies.{PlainPolicy}
use Rattle.cw_policy.specs.Answer.{Spells}
use Rattle.cw_consequences.specs.Unrefused.{unrefused}
use Rattle.cw_syntax.specs.Trees.{File}
use Rattle.cw_lex.specs.declared.tokens.Token.{Token}
use Rattle.cw_lex.specs.Tokens.{AreTokens}
use Rattle.cw_detach.specs.Faults.{taken}
use Rattle.cw_detach.specs.Form.{form_of}
use Rattle.cw_commands.specs.declared.command.Command.{Command}
use Rattle.cw_commands.specs.declared.command.Command.TheVariants.{Audit}
use Rattle.cw_commands.specs.declared.outcome.Reply.TheVariants.{Yes, No}
use Rattle.cw_commands.specs.Outcomes.{Due, Told}
use Rattle.cw_stages.specs.Reading.{AreRead}
use Rattle.cw_stages.specs.Refusals.{over, yes}
use Rattle.cw_checking.specs.Checking.{IsCheckDue}
use Rattle.cw_checking.specs.Refuting.{IsRefuteDue}
use Rattle.cw_parting.specs.Parting.{IsProcsDue}
use Rattle.cw_cli.specs.Due.{IsDue}
use Rattle.cw_cli.specs.Weaving.{IsWeaveDue}
use Rattle.cw_cli.specs.Agreeing.{IsOnly}
use Rattle.cw_consequences.specs.Alike.{in_format, AreAlike}

-- For a policy and a source one answer is due.
abbrev pub WeaveHasOneAnswer : Type 0
WeaveHasOneAnswer = (policy source : List ℕ) (due answer : Due) → IsWeaveDue policy source due → IsWeaveDue policy source answer → due ≡ answer

-- Of several shortest runs to a violation none is fixed, so an audit may be told with the moves of any.
abbrev pub IsFixed : Command → Type 0
IsFixed Audit = ⊥
IsFixed command = Unit {0}

-- For the files of a command, whichever it is but that one, and for the number of a sample one answer is due.
abbrev pub EachHasOneAnswer : Type 0
EachHasOneAnswer = (command : Command) → IsFixed command → (files : List (List ℕ)) (due answer : Due) → IsDue command files due → IsDue command files answer → due ≡ answer

-- Where `procs` is due to write a woven text, `yes` alone is due for its check.
abbrev pub FormIsChecked : Type 0
FormIsChecked = (policy source text : List ℕ) → IsProcsDue policy source (Told Yes text) → IsOnly (IsCheckDue policy text) (Told Yes yes)

-- Where it is due to write a strategy, `yes` alone is due for the policy, the form and that strategy.
abbrev pub FormIsJudged : Type 0
FormIsJudged = (policy source text : List ℕ) (whole : PlainPolicy) (file : File) → AreRead policy source whole file → IsProcsDue policy source (Told No text)
    → IsOnly (IsRefuteDue policy (form_of source whole.detached file) text) (Told Yes yes)

-- Under a policy that detaches no function, and for a source without a token `fork` or `_exit`, what is due for `procs` is due for `weave`, and the other way round.
abbrev pub ProcsIsWeave : Type 0
ProcsIsWeave = (policy source : List ℕ) (whole : PlainPolicy) (file : File) (tokens : List Token) → AreRead policy source whole file → length source ≤ limit_of SourceBytes
    → whole.detached ≡ [] → AreTokens source tokens → taken source tokens ≡ None
    → (due : Due) → IsProcsDue policy source due ↔ IsWeaveDue policy source due

-- Where the policy stops after a refusal, the answer that is due for a source is due under the same policy of which nothing can be refused: with the
-- same status, and the same bytes.
abbrev pub StopGivesTheSame : Type 0
StopGivesTheSame = (policy other source : List ℕ) (whole : PlainPolicy) → Spells policy whole → Spells other (unrefused whole) → whole.stop ≡ true
    → (due answer : Due) → IsWeaveDue policy source due → IsWeaveDue other source answer → due ≡ answer

-- Under a policy of format 1 the answer that is due for a source says what is due under the same policy of format 2, unless its product states are
-- over their number in format 1.
abbrev pub FormatsAgree : Type 0
FormatsAgree = (policy other source : List ℕ) (whole : PlainPolicy) → Spells policy whole → Spells other (in_format 2 whole) → whole.format ≡ 1
    → (due answer : Due) → IsWeaveDue policy source due → IsWeaveDue other source answer
    → (due ≡ over ProductStates) ⊎ AreAlike source whole (in_format 2 whole) due answer

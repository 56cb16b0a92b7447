-- What is due for each command, by the bytes of its files in the order of its arguments, and for `sample` by its number.
use Rattle.std.specs.Prelude.{ℕ, List, [], ◌∷◌}
use Rattle.cw_commands.specs.declared.command.Command.{Command}
use Rattle.cw_commands.specs.declared.command.Command.TheVariants.{Weave, Procs, Graph, Refute, Check, Play, Run, Sample, Reaudit, World, Audit, Values}
use Rattle.cw_commands.specs.Outcomes.{Due}
use Rattle.cw_checking.specs.Checking.{IsCheckDue}
use Rattle.cw_checking.specs.Refuting.{IsRefuteDue}
use Rattle.cw_playing.specs.Playing.{IsPlayDue}
use Rattle.cw_playing.specs.Running.{IsRunDue}
use Rattle.cw_auditing.specs.Auditing.{IsAuditDue}
use Rattle.cw_auditing.specs.Reauditing.{IsReauditDue}
use Rattle.cw_parting.specs.Parting.{IsProcsDue}
use Rattle.cw_worlding.specs.Worlding.{IsWorldDue}
use Rattle.cw_valuing.specs.Valuing.{IsValuesDue}
use Rattle.cw_cli.specs.Listings.{IsListingDue}
use Rattle.cw_cli.specs.Sampling.{IsSampleDue}
use Rattle.cw_cli.specs.Weaving.{IsWeaveDue}

abbrev pub IsDue : Command → List (List ℕ) → Due → Type 0
IsDue Weave (policy ∷ (source ∷ [])) due = IsWeaveDue policy source due
IsDue Procs (policy ∷ (source ∷ [])) due = IsProcsDue policy source due
IsDue Graph (source ∷ []) due = IsListingDue source due
IsDue Refute (policy ∷ (source ∷ (strategy ∷ []))) due = IsRefuteDue policy source strategy due
IsDue Check (policy ∷ (text ∷ [])) due = IsCheckDue policy text due
IsDue Play (policy ∷ (source ∷ (strategy ∷ (tape ∷ [])))) due = IsPlayDue policy source strategy tape due
IsDue Run (policy ∷ (text ∷ (tape ∷ []))) due = IsRunDue policy text tape due
IsDue World (policy ∷ (text ∷ (steps ∷ []))) due = IsWorldDue policy text steps due
IsDue Values (policy ∷ (text ∷ (answers ∷ []))) due = IsValuesDue policy text answers due
IsDue (Sample number) [] due = IsSampleDue number due
IsDue Audit (policy ∷ (source ∷ [])) due = IsAuditDue policy source due
IsDue Reaudit (policy ∷ (source ∷ (audit ∷ []))) due = IsReauditDue policy source audit due
IsDue command files due = ⊥

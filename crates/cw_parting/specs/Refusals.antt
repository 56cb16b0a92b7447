-- Why a source has no form under a policy, with the line that tells it.
use Rattle.std.specs.Prelude.{◌≡◌, ◌≢◌, ℕ, List, ◌++◌, Some, codes}
use Rattle.cw_rights.specs.Policies.{PlainPolicy}
use Rattle.cw_syntax.specs.Trees.{File}
use Rattle.cw_source.specs.Lines.{at_place}
use Rattle.cw_detach.specs.declared.faults.ProcFault.{ProcFault}
use Rattle.cw_detach.specs.declared.faults.ProcFault.TheVariants.{NoFunction, Both, Taken, Result, Limit, NoMemory}
use Rattle.cw_detach.specs.Faults.{IsFirstFault}
use Rattle.cw_commands.specs.declared.outcome.Cause.TheVariants.{Policy, Source}
use Rattle.cw_commands.specs.Outcomes.{Due, Refused}
use Rattle.cw_stages.specs.Refusals.{over}
use Rattle.cw_resolve.specs.Held.{name_in}

abbrev pub form_refusal : List ℕ → PlainPolicy → ProcFault → Due
form_refusal source whole (NoFunction i) = Refused Policy (codes "policy: no function " ++ name_in whole.detached i)
form_refusal source whole (Both i) = Refused Policy (codes "policy: detached " ++ name_in whole.detached i)
form_refusal source whole (Taken at) = Refused Source (at_place source at (codes "fork name"))
form_refusal source whole (Result at) = Refused Source (at_place source at (codes "detached result"))
form_refusal source whole (Limit quantity) = over quantity
form_refusal source whole NoMemory = Refused Source (codes "memory")

-- The source is refused, or its policy, by the first rule that forbids a form.
abbrev pub IsFormRefusal : List ℕ → File → PlainPolicy → Due → Type 0
IsFormRefusal source file whole due = (f : ProcFault) × (f ≢ NoMemory) × IsFirstFault source file whole (Some f) × (due ≡ form_refusal source whole f)

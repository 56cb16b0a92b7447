-- Why a policy or a source is refused, with the line that tells it; and what is told where all is well.
use Rattle.std.specs.Prelude.{◌≡◌, ◌≢◌, ℕ, List, [], ◌∷◌, ◌++◌, Bool, true, false, Some, codes, if◌then◌else◌}
use Rattle.cw_core.specs.declared.quantity.Quantity.{Quantity}
use Rattle.cw_core.specs.Quantities.{name_of}
use Rattle.cw_rights.specs.Policies.{PlainPolicy}
use Rattle.cw_syntax.specs.Trees.{File}
use Rattle.cw_text.specs.LimitsText.{descriptor_name}
use Rattle.cw_regex.specs.declared.read.RegexFault.TheVariants.{TooDeep}
use Rattle.cw_policy.specs.declared.fault.PolicyFault.{PolicyFault}
use Rattle.cw_policy.specs.declared.fault.PolicyFault.TheVariants.{Limit as OverLimit, Regex, NoMemory}
use Rattle.cw_policy.specs.Answer.{IsFault}
use Rattle.cw_policy.specs.Lines.{fault_line}
use Rattle.cw_scope.specs.declared.faults.ScopeFault.TheVariants as scope
use Rattle.cw_scope.specs.declared.descriptors.DescriptorFault.{DescriptorFault}
use Rattle.cw_scope.specs.declared.descriptors.DescriptorFault.TheVariants as descriptor
use Rattle.cw_scope.specs.Descriptors.{descriptor_fault}
use Rattle.cw_source.specs.declared.fault.SourceFault.{SourceFault}
use Rattle.cw_source.specs.declared.fault.SourceFault.TheVariants as source
use Rattle.cw_source.specs.Read.{IsFaultOf, ReadsAs}
use Rattle.cw_source.specs.Lines.{at_place, fault_line as source_line}
use Rattle.cw_commands.specs.declared.outcome.Cause.{Cause}
use Rattle.cw_commands.specs.declared.outcome.Cause.TheVariants.{Source, Policy, Limit}
use Rattle.cw_commands.specs.Outcomes.{Due, Refused}

-- a quantity is over its limit
abbrev pub over : Quantity → Due
over quantity = Refused Limit (codes "limit: " ++ name_of quantity)

-- a fault of a policy that says that a quantity is over its limit
abbrev pub is_limit : PolicyFault → Bool
is_limit (OverLimit quantity) = true
is_limit (Regex index TooDeep) = true
is_limit _ = false

-- its cause, and the refusal by it
abbrev pub policy_cause : PolicyFault → Cause
policy_cause f = if is_limit f then Limit else Policy

abbrev pub policy_refusal : PolicyFault → Due
policy_refusal f = Refused (policy_cause f) (fault_line f)

-- the policy is refused, by its first fault
abbrev pub IsPolicyRefusal : List ℕ → Due → Type 0
IsPolicyRefusal policy due = (f : PolicyFault) × IsFault policy f × (f ≢ NoMemory) × (due ≡ policy_refusal f)

-- the same of a source's fault
abbrev pub is_source_limit : SourceFault → Bool
is_source_limit source.TooDeep = true
is_source_limit (source.Scope (scope.Limit quantity)) = true
is_source_limit _ = false

abbrev pub source_cause : SourceFault → Cause
source_cause f = if is_source_limit f then Limit else Source

abbrev pub source_refusal : List ℕ → SourceFault → Due
source_refusal text f = Refused (source_cause f) (source_line text f)

abbrev pub IsSourceRefusal : List ℕ → Due → Type 0
IsSourceRefusal text due = (f : SourceFault) × IsFaultOf text f × (f ≢ source.NoMemory) × (due ≡ source_refusal text f)

-- the line that tells which rule of the descriptors is broken
abbrev pub descriptor_line : List ℕ → PlainPolicy → DescriptorFault → List ℕ
descriptor_line text policy (descriptor.NoVariable d) = codes "source: no variable " ++ descriptor_name policy d
descriptor_line text policy (descriptor.Shadowed d) = codes "source: shadowed " ++ descriptor_name policy d
descriptor_line text policy (descriptor.Misuse at) = at_place text at (codes "misuse")
descriptor_line text policy descriptor.NoMemory = codes "memory"

-- the source is read and refused, by the first rule that the policy's descriptors break in it
abbrev pub IsDescriptorRefusal : List ℕ → PlainPolicy → Due → Type 0
IsDescriptorRefusal text policy due =
    (file : File) × ReadsAs text file
    × ((f : DescriptorFault) × (descriptor_fault text file policy ≡ Some f) × (due ≡ Refused Source (descriptor_line text policy f)))

-- functions in processes of their own that aren't waited for: no program in one process does that
abbrev pub policy_detached : Due
policy_detached = Refused Policy (codes "policy: detached")

-- what is told where what was asked for holds
abbrev pub yes : List ℕ
yes = codes "yes" ++ (10 ∷ [])

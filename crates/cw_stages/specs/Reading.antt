-- A policy and a source are read first, and what is due where one of them isn't.
use Rattle.std.specs.Prelude.{◌≡◌, ◌⊎◌, ℕ, List, None}
use Rattle.cw_rights.specs.Policies.{PlainPolicy}
use Rattle.cw_syntax.specs.Trees.{File}
use Rattle.cw_policy.specs.Answer.{Spells}
use Rattle.cw_scope.specs.Descriptors.{descriptor_fault}
use Rattle.cw_source.specs.Read.{ReadsAs}
use Rattle.cw_commands.specs.Outcomes.{Due}
use Rattle.cw_stages.specs.Refusals.{IsPolicyRefusal, IsSourceRefusal, IsDescriptorRefusal}

-- The policy is spelled, the source is read, and the policy's descriptors keep their rules in it.
pub record AreRead (policy source : List ℕ) (whole : PlainPolicy) (file : File) : Type 0 where
  pub spelled : Spells policy whole
  pub reads : ReadsAs source file
  pub descriptors : descriptor_fault source file whole ≡ None

-- The source is refused, or it breaks a rule of the policy's descriptors.
abbrev pub IsSourceUnread : List ℕ → PlainPolicy → Due → Type 0
IsSourceUnread source whole due = IsSourceRefusal source due ⊎ IsDescriptorRefusal source whole due

-- The policy is read first: it is refused, or what is due under the policy that is spelled.
abbrev pub BehindPolicy : (PlainPolicy → Due → Type 0) → List ℕ → Due → Type 0
BehindPolicy Next policy due = IsPolicyRefusal policy due ⊎ ((whole : PlainPolicy) × Spells policy whole × Next whole due)

-- The policy is refused, or it is spelled and the source is refused under it.
abbrev pub IsUnread : List ℕ → List ℕ → Due → Type 0
IsUnread policy source = BehindPolicy (IsSourceUnread source) policy

-- What is due: that, or what is due for the policy and the program that are read.
abbrev pub AfterReading : (PlainPolicy → File → Due → Type 0) → List ℕ → List ℕ → Due → Type 0
AfterReading Next policy source due =
    IsUnread policy source due ⊎ ((whole : PlainPolicy) × (file : File) × AreRead policy source whole file × Next whole file due)

-- The same of a source behind its policy: it is refused under it, or what is due for the program that is read.
abbrev pub WithSource : (File → Due → Type 0) → List ℕ → PlainPolicy → Due → Type 0
WithSource Next source whole due =
    IsSourceUnread source whole due ⊎ ((file : File) × ReadsAs source file × (descriptor_fault source file whole ≡ None) × Next file due)

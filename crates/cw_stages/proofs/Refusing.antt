-- Refusals that are due.
use Rattle.std.proofs.Common.{◌≡◌, ◌≢◌, ℕ, List, ⊎_elim}
use Rattle.cw_rights.specs.Policies.{PlainPolicy}
use Rattle.cw_syntax.specs.Trees.{File}
use Rattle.cw_scope.specs.declared.descriptors.DescriptorFault.{DescriptorFault}
use Rattle.cw_scope.specs.declared.descriptors.DescriptorFault.TheVariants as descriptor
use Rattle.cw_scope.specs.Descriptors.{descriptor_fault, IsDueDescriptor}
use Rattle.cw_source.specs.Read.{ReadsAs}
use Rattle.cw_commands.specs.declared.outcome.Cause.TheVariants.{Source}
use Rattle.cw_commands.specs.Outcomes.{Due, Refused}
use Rattle.cw_stages.specs.Refusals.{descriptor_line, IsDescriptorRefusal}

pub descriptor_stops : (text : List ℕ) (whole : PlainPolicy) (file : File) (f : DescriptorFault) → ReadsAs text file → IsDueDescriptor (descriptor_fault text file whole) f
    → (due : Due) → (f ≢ descriptor.NoMemory) × (due ≡ Refused Source (descriptor_line text whole f)) → IsDescriptorRefusal text whole due
descriptor_stops text whole file f reads is due (ne, e) = (file, reads, (f, ⊎_elim (λ n. absurd (ne n)) (λ h. h) is, e))

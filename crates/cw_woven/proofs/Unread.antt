-- The fault of a text by that of its source is what the source is refused by.
use Rattle.std.proofs.Common.{◌≡◌, ℕ, ◌≤◌, List, Option, Some, length, inl, inr}
use Rattle.cw_rights.specs.Policies.{PlainPolicy}
use Rattle.cw_syntax.specs.Trees.{File}
use Rattle.cw_scope.specs.declared.descriptors.DescriptorFault.{DescriptorFault}
use Rattle.cw_scope.specs.declared.descriptors.DescriptorFault.TheVariants.{NoVariable, Shadowed, Misuse, NoMemory}
use Rattle.cw_scope.specs.Descriptors.{descriptor_fault, IsDueDescriptor}
use Rattle.cw_source.specs.declared.fault.SourceFault.{SourceFault}
use Rattle.cw_source.specs.declared.fault.SourceFault.TheVariants as read
use Rattle.cw_source.specs.Read.{IsFaultOf, ReadsAs}
use Rattle.cw_woven.specs.Accepting.{broken, unread, IsRefused}

due_is : (due : Option DescriptorFault) (f : DescriptorFault) → (f ≡ NoMemory → ⊥) → IsDueDescriptor due f → due ≡ Some f
due_is due f other (inl e) = absurd (other e)
due_is due f other (inr h) = h

no_variable : (d : ℕ) → NoVariable d ≡ NoMemory → ⊥
no_variable d e = cc

shadowed : (d : ℕ) → Shadowed d ≡ NoMemory → ⊥
shadowed d e = cc

misuse : (at : ℕ) → Misuse at ≡ NoMemory → ⊥
misuse at e = cc

module _ (policy : PlainPolicy) (text : List ℕ) where
  pub is_unread : (f : SourceFault) → length text ≤ 262144 → IsFaultOf text f → IsRefused policy text (unread f)
  is_unread (read.Lex fault) short is = (short, is)
  is_unread (read.Syntax at) short is = (short, is)
  is_unread read.TooDeep short is = (short, is)
  is_unread (read.Scope fault) short is = (short, is)
  is_unread read.NoMemory short is = tt

  pub is_broken : (file : File) (f : DescriptorFault) → length text ≤ 262144 → ReadsAs text file → IsDueDescriptor (descriptor_fault text file policy) f → IsRefused policy text (broken f)
  is_broken file (NoVariable d) short reads is = (file, short, reads, due_is (descriptor_fault text file policy) (NoVariable d) (no_variable d) is)
  is_broken file (Shadowed d) short reads is = (file, short, reads, due_is (descriptor_fault text file policy) (Shadowed d) (shadowed d) is)
  is_broken file (Misuse at) short reads is = (file, short, reads, due_is (descriptor_fault text file policy) (Misuse at) (misuse at) is)
  is_broken file NoMemory short reads is = tt

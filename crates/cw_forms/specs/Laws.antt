-- That a form is read.
use Rattle.std.specs.Prelude.{◌≡◌, ◌≢◌, ℕ, List, None, false}
use Rattle.cw_syntax.specs.Trees.{File}
use Rattle.cw_rights.specs.Policies.{PlainPolicy}
use Rattle.cw_scope.specs.Descriptors.{descriptor_fault}
use Rattle.cw_source.specs.declared.fault.SourceFault.{SourceFault}
use Rattle.cw_source.specs.declared.fault.SourceFault.TheVariants.{NoMemory, TooDeep}
use Rattle.cw_source.specs.Read.{ReadsAs, IsFaultOf}
use Rattle.cw_detach.specs.Form.{form_of}
use Rattle.cw_detach.specs.Faults.{is_shallow, IsFirstFault}
use Rattle.cw_forms.specs.Statements.{SameFile}

-- The form is read as a file that is the source's but for places and for what stands for the calls, and no rule of descriptors is broken in it.
pub record FormReads (source form : List ℕ) (file : File) (policy : PlainPolicy) : Type 0 where
  pub made : File
  pub reads : ReadsAs form made
  pub same : SameFile source form file made
  pub declared : descriptor_fault form made policy ≡ None

-- Where a source is read, its descriptors are as they have to be, and nothing forbids its form, the form is read.
abbrev pub FormsAreRead : Type 0
FormsAreRead = (source : List ℕ) (file : File) (policy : PlainPolicy) → ReadsAs source file → descriptor_fault source file policy ≡ None → IsFirstFault source file policy None
    → FormReads source (form_of source policy.detached file) file policy

-- And none of the reader's refusals is due for it.
abbrev pub FormsAreNotRefused : Type 0
FormsAreNotRefused = (source : List ℕ) (file : File) (policy : PlainPolicy) (fault : SourceFault) → ReadsAs source file → descriptor_fault source file policy ≡ None
    → IsFirstFault source file policy None
    → fault ≢ NoMemory → IsFaultOf (form_of source policy.detached file) fault → ⊥

-- Where the statements of a form, as they are reckoned by those of the source, nest deeper than they may, the form has tokens that are of the
-- grammar, and no program derives from them within the limit.
abbrev pub DeepFormsAreDeep : Type 0
DeepFormsAreDeep = (source : List ℕ) (names : List (List ℕ)) (file : File) → ReadsAs source file → is_shallow source file names ≡ false → IsFaultOf (form_of source names file) TooDeep

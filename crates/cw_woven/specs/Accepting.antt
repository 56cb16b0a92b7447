-- Working definitions: what is answered of a source.
use Rattle.std.specs.Prelude.{◌≡◌, ℕ, List}
use Rattle.cw_rights.specs.Policies.{PlainPolicy}
use Rattle.cw_syntax.specs.Trees.{File}
use Rattle.cw_syntax.specs.Marks.{SeamMark}
use Rattle.cw_scope.specs.declared.descriptors.DescriptorFault.{DescriptorFault}
use Rattle.cw_scope.specs.declared.descriptors.DescriptorFault.TheVariants as descriptor
use Rattle.cw_source.specs.declared.fault.SourceFault.{SourceFault}
use Rattle.cw_source.specs.declared.fault.SourceFault.TheVariants as read
use Rattle.cw_woven.specs.declared.fault.CutFault.TheVariants as cut
use Rattle.cw_woven.specs.declared.fault.WovenFault.{WovenFault}
use Rattle.cw_woven.specs.declared.fault.WovenFault.TheVariants as fault
use Rattle.cw_table_text.specs.Grammar.{IsFault as IsTableFault}
use Rattle.cw_woven.specs.Reading.{IsAccepted, IsCutFault, seam_marks}

-- the source is accepted, and these are the marks of its seams
abbrev pub HasMarks : PlainPolicy → List ℕ → List SeamMark → Type 0
HasMarks policy source marks = (file : File) × IsAccepted policy source file × (marks ≡ seam_marks policy source file)

abbrev pub IsRefused : PlainPolicy → List ℕ → WovenFault → Type 0
IsRefused policy source (fault.Source why) = IsCutFault policy source why
IsRefused policy source fault.NoMemory = Unit {0}
IsRefused policy source other = ⊥

-- the fault of a text by that of its source, and by the rule that the policy's descriptors break there: want of memory is that of the text
abbrev pub unread : SourceFault → WovenFault
unread read.NoMemory = fault.NoMemory
unread f = fault.Source (cut.Read f)

abbrev pub broken : DescriptorFault → WovenFault
broken descriptor.NoMemory = fault.NoMemory
broken f = fault.Source (cut.Descriptors f)

abbrev pub IsRefusedTable : PlainPolicy → List ℕ → WovenFault → Type 0
IsRefusedTable policy lines (fault.Table why) = IsTableFault policy lines why
IsRefusedTable policy lines fault.NoMemory = Unit {0}
IsRefusedTable policy lines other = ⊥

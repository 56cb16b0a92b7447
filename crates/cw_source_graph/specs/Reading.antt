-- Why a source isn't read as a program under a policy.
use Rattle.std.specs.Prelude.{ℕ, List}
use Rattle.cw_rights.specs.Policies.{PlainPolicy}
use Rattle.cw_syntax.specs.Trees.{File}
use Rattle.cw_scope.specs.Descriptors.{descriptor_fault, IsDueDescriptor}
use Rattle.cw_source.specs.Read.{IsFaultOf, ReadsAs}
use Rattle.cw_source_graph.specs.declared.fault.ProgramFault.{ProgramFault}
use Rattle.cw_source_graph.specs.declared.fault.ProgramFault.TheVariants.{Source, Descriptors}

-- the source's first fault; or it is read, and this is the first rule that the policy's descriptors break in it
abbrev pub IsProgramFault : PlainPolicy → List ℕ → ProgramFault → Type 0
IsProgramFault whole source (Source f) = IsFaultOf source f
IsProgramFault whole source (Descriptors f) = (file : File) × ReadsAs source file × IsDueDescriptor (descriptor_fault source file whole) f

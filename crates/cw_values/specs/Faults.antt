-- Why a source isn't run.
use Rattle.std.specs.Prelude.{◌≡◌, ℕ, List, Some}
use Rattle.cw_syntax.specs.Trees.{File}
use Rattle.cw_value.specs.Starts.{shape}
use Rattle.cw_value.specs.declared.fault.ValueFault.{ValueFault}
use Rattle.cw_value.specs.declared.fault.ValueFault.TheVariants.{Shape, NoMemory}

-- a program isn't run: a name in it has two meanings, or memory is wanting
abbrev pub IsShape : List ℕ → File → ValueFault → Type 0
IsShape source file (Shape at) = shape source file ≡ Some at
IsShape source file NoMemory = Unit {0}

-- Working definitions: what the reader of a line answers.
use Rattle.std.specs.Prelude.{◌≡◌, ℕ, List, ◌++◌, Bool, Contains}
use Rattle.cw_certs.specs.declared.moves.Move.{Move}
use Rattle.cw_text.specs.declared.fault.TextFault.{TextFault}
use Rattle.cw_text.specs.declared.fault.TextFault.TheVariants as fault
use Rattle.cw_text.specs.Tapes.{fields, AreNames, IsOther}

-- the moves that these fields name are added behind the old ones
pub record Adds (play : Bool) (names : List (List ℕ)) (old new : List Move) : Type 0 where
  pub added : List Move
  pub added_are : AreNames play names added
  pub behind : new ≡ old ++ added

-- the line has a field that names no move
pub record HasOther (play : Bool) (line : List ℕ) : Type 0 where
  pub field : List ℕ
  pub has : Contains (fields line) field
  pub other : IsOther play field

abbrev pub IsLineFault : (play : Bool) (line : List ℕ) (number : ℕ) → TextFault → Type 0
IsLineFault play line number (fault.Line told) = (told ≡ number) × HasOther play line
IsLineFault play line number (fault.Order told) = ⊥
IsLineFault play line number (fault.Limit told) = ⊥
IsLineFault play line number fault.NoMemory = Unit {0}

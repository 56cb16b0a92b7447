-- Working definitions: what is answered of two lists of marks.
use Rattle.std.specs.Prelude.{ℕ, List}
use Rattle.cw_woven.specs.declared.fault.WovenFault.{WovenFault}
use Rattle.cw_woven.specs.declared.fault.WovenFault.TheVariants as fault
use Rattle.cw_woven.specs.Reading.{IsFirstDifference}

abbrev pub IsDifference : List (ℕ × List ℕ) → List (ℕ × List ℕ) → WovenFault → Type 0
IsDifference these those (fault.Misplaced n) = IsFirstDifference these those n
IsDifference these those fault.NoMemory = Unit {0}
IsDifference these those other = ⊥

-- When each fault comes.
use Rattle.std.specs.Prelude.{◌≡◌, ℕ, ◌<◌, ◌≤◌, List, false, Some}
use Rattle.cw_regex.specs.declared.read.RegexFault.{RegexFault}
use Rattle.cw_regex.specs.declared.read.RegexFault.TheVariants.{At, UnknownDescriptor, UnknownRight, TooDeep, NoMemory}
use Rattle.cw_regex.specs.declared.unknown.Unknown.{Unknown}
use Rattle.cw_regex.specs.declared.unknown.Unknown.TheVariants.{Descriptor, Right}
use Rattle.cw_regex.specs.Parts.{placed}
use Rattle.cw_regex.specs.Grammar.{Expression, depth, Spells, IsExpression, IsTest, IsFaultAt}
use Rattle.cw_regex.specs.Faults.{first_unknown}

-- the first name from the left that isn't known; a right's name is one of the policy's format
abbrev pub IsUnknown : ℕ → List (List ℕ) → List ℕ → Unknown → Type 0
IsUnknown format names text u = first_unknown format names false (placed 0 text) ≡ Some u

abbrev pub fault_of : Unknown → RegexFault
fault_of (Descriptor n) = UnknownDescriptor n
fault_of (Right n) = UnknownRight n

-- of a test
abbrev pub IsTestFault : ℕ → List (List ℕ) → List ℕ → RegexFault → Type 0
IsTestFault format names text (At n) = IsFaultAt IsTest text n
IsTestFault format names text (UnknownDescriptor n) = IsTest text × IsUnknown format names text (Descriptor n)
IsTestFault format names text (UnknownRight n) = IsTest text × IsUnknown format names text (Right n)
IsTestFault format names text TooDeep = ⊥
IsTestFault format names text NoMemory = ⊥

-- parentheses nest at most 64 deep
abbrev pub IsShallow : List ℕ → Type 0
IsShallow text = (e : Expression) → Spells text e → depth e ≤ 64

abbrev pub IsDeep : List ℕ → Type 0
IsDeep text = (e : Expression) → Spells text e → 64 < depth e

-- of an expression
abbrev pub IsRegexFault : ℕ → List (List ℕ) → List ℕ → RegexFault → Type 0
IsRegexFault format names text (At n) = IsFaultAt IsExpression text n
IsRegexFault format names text TooDeep = IsExpression text × IsDeep text
IsRegexFault format names text (UnknownDescriptor n) = IsExpression text × IsShallow text × IsUnknown format names text (Descriptor n)
IsRegexFault format names text (UnknownRight n) = IsExpression text × IsShallow text × IsUnknown format names text (Right n)
IsRegexFault format names text NoMemory = Unit {0}

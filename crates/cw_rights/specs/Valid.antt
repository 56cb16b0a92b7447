-- Valid policies.
use Rattle.std.specs.Prelude.{◌≡◌, ◌≢◌, ◌⊎◌, ℕ, ◌+◌, ◌<◌, ◌≤◌, List, [], ◌∷◌, Bool, false, ◌&&◌, ◌||◌, nat_le, nat_eq, Option, Some, None, IsTrue, All, AllPairs, length, map, sum_by}
use Rattle.std.specs.List.{list_all}
use Rattle.cw_rights.specs.declared.capabilities.Limit.{Limit as ALimit}
use Rattle.cw_rights.specs.declared.words.Test.{Test}
use Rattle.cw_rights.specs.declared.words.Test.TheVariants.{Amb, Holds}
use Rattle.cw_rights.specs.Names.{all_rights}
use Rattle.cw_rights.specs.Trees.{Literal, Tree, count, nesting, AllLiterals}
use Rattle.cw_rights.specs.Policies.{PlainDescriptor, PlainPolicy}

-- ASCII letters and `_`; digits
abbrev pub is_name_start : ℕ → Bool
is_name_start b = (nat_le 65 b && nat_le b 90) || (nat_le 97 b && nat_le b 122) || nat_eq b 95

abbrev pub is_name_byte : ℕ → Bool
is_name_byte b = is_name_start b || (nat_le 48 b && nat_le b 57)

-- a C name: a letter or `_`, then letters, digits and `_`
abbrev pub is_name : List ℕ → Bool
is_name [] = false
is_name (b ∷ rest) = is_name_start b && list_all is_name_byte rest

-- the name is this digit, which is 0, 1 or 2
abbrev pub IsDigit : List ℕ → ℕ → Type 0
IsDigit name n = (n < 3) × (name ≡ (48 + n) ∷ [])

-- the number is the digit that is the name, or none where the name is no digit
abbrev pub IsNumberOf : List ℕ → Option ℕ → Type 0
IsNumberOf name None = (n : ℕ) → IsDigit name n → ⊥
IsNumberOf name (Some n) = IsDigit name n

abbrev pub IsDescriptorName : List ℕ → Type 0
IsDescriptorName name = IsTrue (is_name name) ⊎ ((n : ℕ) × IsDigit name n)

abbrev pub IsDistinct : List (List ℕ) → Type 0
IsDistinct names = AllPairs (λ a b. a ≢ b) names

-- the numbers of a test, a literal and a limit are those of descriptors and labels that there are, and the rights are some of the twelve
abbrev pub IsTestWithin : ℕ → Test → Type 0
IsTestWithin descriptors Amb = Unit {0}
IsTestWithin descriptors (Holds descriptor need) = (descriptor < descriptors) × (need.0 ≤ all_rights)

-- a label, where one is named, is among the first so many
abbrev pub IsLabelWithin : ℕ → Option ℕ → Type 0
IsLabelWithin labels None = Unit {0}
IsLabelWithin labels (Some label) = label < labels

-- a literal of a policy with so many descriptors and labels
pub record IsLiteralWithin (descriptors labels : ℕ) (literal : Literal) : Type 0 where
  pub label : IsLabelWithin labels literal.label
  pub tests : All (λ t. IsTestWithin descriptors t.1) literal.tests

-- each literal of an expression, likewise
abbrev pub IsTreeWithin : ℕ → ℕ → Tree → Type 0
IsTreeWithin descriptors labels r = AllLiterals (IsLiteralWithin descriptors labels) r

-- a limit of a policy with so many descriptors
abbrev pub IsLimitWithin : ℕ → ALimit → Type 0
IsLimitWithin descriptors limit = (limit.descriptor < descriptors) × (limit.keep.0 ≤ all_rights)

-- a descriptor whose name has its form, with its number, and with none but the twelve rights
pub record IsValidDescriptor (d : PlainDescriptor) : Type 0 where
  pub name : IsDescriptorName d.name
  pub number : IsNumberOf d.name d.number
  pub rights : d.rights.0 ≤ all_rights

-- what a policy that was read meets
pub record IsValid (p : PlainPolicy) : Type 0 where
  pub descriptors : All IsValidDescriptor p.descriptors
  pub labels : All (λ name. IsTrue (is_name name)) p.labels
  pub distinct_descriptors : IsDistinct (map (λ d. d.name) p.descriptors)
  pub distinct_labels : IsDistinct p.labels
  pub distinct_splits : IsDistinct p.split
  pub distinct_detached : IsDistinct p.detached
  pub few_descriptors : length p.descriptors ≤ 8
  pub few_limits : length p.limits ≤ 12
  pub few_rules : length p.rules ≤ 32
  -- the literals and the start
  pub few_positions : 1 + sum_by (λ r. count r.bad) p.rules ≤ 64
  pub shallow : All (λ r. nesting r.bad ≤ 64) p.rules
  pub few_splits : length p.split ≤ 65535
  pub few_labels : length p.labels ≤ 65535
  pub few_detached : length p.detached ≤ 65535
  pub format : (p.format ≡ 1) ⊎ (p.format ≡ 2)
  pub limits : All (IsLimitWithin (length p.descriptors)) p.limits
  pub rules : All (λ r. IsTreeWithin (length p.descriptors) (length p.labels) r.bad) p.rules

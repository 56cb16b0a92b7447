-- The policy states: the least set that has the start and is closed under letters that break no rule.
use Rattle.std.specs.Prelude.{ℕ, List, Option, Some, None, length, map, ◌<◌}
use Rattle.std.specs.Int.RustNames.{bit_and}
use Rattle.std.specs.List.{Contains, filter_map}
use Rattle.std.specs.List.Sorted.{IsStrictlySortedBy}
use Rattle.std.specs.Ordering.{nat_cmp}
use Rattle.cw_core.specs.Quantities.{limit_of}
use Rattle.cw_core.specs.declared.quantity.Quantity.TheVariants.{PolicyStates}
use Rattle.cw_rights.specs.Policies.{PlainRule}
use Rattle.cw_rights.specs.declared.words.Letter.{Letter}
use Rattle.cw_dfa.specs.Positions.{bad_of}
use Rattle.cw_dfa.specs.Sets.{has}
use Rattle.cw_dfa.specs.Tables.{goes, matching}
use Rattle.cw_dfa.specs.Verdicts.{verdict, next_of}

-- the least set that has the start and is closed under the steps
pub data Least {A : Type 0} (step : A → List A) (start : A) : A → Type 0 where
  first : Least step start start
  then : (a b : A) → Least step start a → Contains (step a) b → Least step start b

-- the numbers ascend, and are those of P
abbrev pub Exactly : (ℕ → Type 0) → List ℕ → Type 0
Exactly P xs = IsStrictlySortedBy nat_cmp xs × ((x : ℕ) → (Contains xs x → P x) × (P x → Contains xs x))

-- more than n numbers of P
abbrev pub HasMore : (ℕ → Type 0) → ℕ → Type 0
HasMore P n = (xs : List ℕ) × IsStrictlySortedBy nat_cmp xs × ((x : ℕ) → Contains xs x → P x) × (n < length xs)

abbrev pub unless_bad : Option ℕ → ℕ → Option ℕ
unless_bad None set = Some set
unless_bad (Some i) set = None

-- the set after a letter, where it breaks no rule
abbrev pub after : List PlainRule → ℕ → Letter → Option ℕ
after rules set c = unless_bad (verdict rules 0 1 (next_of rules set c)) (next_of rules set c)

abbrev pub steps : List PlainRule → List Letter → ℕ → List ℕ
steps rules letters set = filter_map (after rules set) letters

abbrev pub Reached : List PlainRule → List Letter → ℕ → Type 0
Reached rules letters = Least (steps rules letters) 1

-- the masks are those of the letters, in any order, each once or more
abbrev pub AreMasks : List PlainRule → List Letter → List ℕ → Type 0
AreMasks rules letters masks = (m : ℕ) → (Contains masks m → Contains (map (matching (bad_of rules) 1) letters) m)
    × (Contains (map (matching (bad_of rules) 1) letters) m → Contains masks m)

-- the policy states over any letters that have these masks
abbrev pub AreReached : List PlainRule → List ℕ → List ℕ → Type 0
AreReached rules masks sets = (letters : List Letter) → AreMasks rules letters masks → Exactly (Reached rules letters) sets

abbrev pub AreMany : List PlainRule → List ℕ → Type 0
AreMany rules masks = (letters : List Letter) → AreMasks rules letters masks → HasMore (Reached rules letters) (limit_of PolicyStates)

-- ---- Working definitions: what the program keeps of its search

-- the same by what may follow the set, and a mask of what matches the letter
abbrev pub after_mask : List PlainRule → ℕ → ℕ → Option ℕ
after_mask rules ahead mask = unless_bad (verdict rules 0 1 (bit_and ahead mask)) (bit_and ahead mask)

-- the sets after a set, by the masks of the letters
abbrev pub after_masks : List PlainRule → List ℕ → ℕ → List ℕ
after_masks rules masks set = filter_map (after_mask rules (goes (bad_of rules) 1 (has set 0) set)) masks

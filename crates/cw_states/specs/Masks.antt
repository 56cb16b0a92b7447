-- Working definitions: letters by the literals that name their labels and those whose tests hold of their capabilities.
use Rattle.std.specs.Prelude.{◌≡◌, ℕ, List, [], ◌∷◌, ◌++◌, map}
use Rattle.std.specs.Int.RustNames.{bit_and}
use Rattle.std.specs.List.{Contains}
use Rattle.cw_rights.specs.Policies.{PlainRule}
use Rattle.cw_dfa.specs.Positions.{bad_of}
use Rattle.cw_dfa.specs.Sets.{has}
use Rattle.cw_dfa.specs.Tables.{goes, tested}
use Rattle.cw_states.specs.declared.masks.Masks.{Masks}
use Rattle.cw_states.specs.States.{Lists}
use Rattle.cw_states.specs.Tables.{index_of}

abbrev pub HaveSame : List ℕ → List ℕ → Type 0
HaveSame xs ys = (x : ℕ) → (Contains xs x → Contains ys x) × (Contains ys x → Contains xs x)

-- each of some sets with each of others
abbrev pub met : List ℕ → List ℕ → List ℕ
met [] others = []
met (set ∷ sets) others = map (bit_and set) others ++ met sets others

abbrev pub ahead_of : List PlainRule → ℕ → ℕ
ahead_of rules set = goes (bad_of rules) 1 (has set 0) set

-- what may follow each policy state, and the literals whose tests hold of each rights state
pub record IsMasks (v : Lists) (masks : Masks) : Type 0 where
  pub aheads : masks.aheads.items ≡ map (ahead_of v.policy.rules) v.sets
  pub tested : masks.tested.items ≡ map (tested v.policy.rules) v.rights

-- the indices of the policy states after the letters of a label, by policy state and then by rights state
abbrev pub row : Lists → ℕ → List ℕ → List ℕ
row v ahead tests = map (λ t. index_of v (bit_and ahead t)) tests

abbrev pub rows : Lists → ℕ → List ℕ → List ℕ → List ℕ
rows v naming [] tests = []
rows v naming (ahead ∷ aheads) tests = row v (bit_and ahead naming) tests ++ rows v naming aheads tests

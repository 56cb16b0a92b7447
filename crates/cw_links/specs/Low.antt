-- Elements that wait under the least keys, a vector for each key, the last element of which is first.
use Rattle.std.specs.Prelude.{◌≡◌, ℕ, ◌<◌, ◌≤◌, List, [], ◌∷◌, map, reverse, length}
use Rattle.std.specs.Global.{Vec}
use Rattle.cw_links.specs.Lists.{list_at}

-- the stacks of vectors
abbrev pub stacks_in : List (Vec ℕ) → List (List ℕ)
stacks_in vectors = map (λ v. reverse v.items) vectors

-- nothing waits below the floor
pub record AreLow (stacks : List (List ℕ)) (floor : ℕ) : Type 0 where
  pub few : length stacks ≤ 4294967295
  pub above : 0 < floor
  pub lowest : (key : ℕ) → key < floor → list_at stacks key ≡ []

-- some stacks under the first keys, and others under the keys behind these
abbrev pub joined : List (List ℕ) → List (List ℕ) → List (List ℕ)
joined [] stacks = stacks
joined (low ∷ lows) [] = low ∷ joined lows []
joined (low ∷ lows) (stack ∷ stacks) = low ∷ joined lows stacks

-- nothing waits under the first keys
abbrev pub AreBehind : (keys : ℕ) → List (List ℕ) → Type 0
AreBehind keys stacks = (key : ℕ) → key < keys → list_at stacks key ≡ []

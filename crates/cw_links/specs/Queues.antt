-- Elements that wait under keys, seen as the list of the stacks, one for each key: the elements under that key, the last one that was put first.
use Rattle.std.specs.Prelude.{◌≡◌, ◌≢◌, ℕ, ◌<◌, List, [], ◌∷◌, length, map, slice_index}
use Rattle.std.specs.List.{concat}
use Rattle.cw_links.specs.Lists.{list_at}

-- how many wait
abbrev pub waiting : List (List ℕ) → ℕ
waiting stacks = length (concat stacks)

-- nothing waits
abbrev pub AreNone : List (List ℕ) → Type 0
AreNone stacks = (key : ℕ) → list_at stacks key ≡ []

-- the same waits under each key
abbrev pub AreAlike : (old new : List (List ℕ)) → Type 0
AreAlike old new = (key : ℕ) → list_at new key ≡ list_at old key

-- something waits under a lower key than this one
abbrev pub HasLower : List (List ℕ) → ℕ → Type 0
HasLower stacks key = (k : ℕ) × (k < key) × (list_at stacks k ≡ [] → ⊥)

-- an element more is first under a key
pub record Puts (old new : List (List ℕ)) (element key : ℕ) : Type 0 where
  pub here : list_at new key ≡ element ∷ list_at old key
  pub others : (k : ℕ) → k ≢ key → list_at new k ≡ list_at old k

-- the first element under the least key is taken: to put it there again would undo that
pub record Takes (old new : List (List ℕ)) (element key : ℕ) : Type 0 where
  pub some : 0 < key
  pub least : (k : ℕ) → k < key → list_at old k ≡ []
  pub undone : Puts new old element key

-- the stacks of the elements of entries. Those of the list 0 are spare, so nothing waits under the key 0
abbrev pub stacks_of : (elements : List ℕ) → (lists : List (List ℕ)) → List (List ℕ)
stacks_of elements [] = []
stacks_of elements (spare ∷ lists) = [] ∷ map (map (slice_index elements)) lists

-- each entry has an element and stands in a list, and nothing waits below the floor
pub record IsQueue (lists : List (List ℕ)) (entries : ℕ) (elements : List ℕ) (floor : ℕ) : Type 0 where
  pub known : entries ≡ length elements
  pub filled : length (concat lists) ≡ entries
  pub some : 0 < length lists
  pub above : 0 < floor
  pub lowest : (key : ℕ) → key < floor → list_at (stacks_of elements lists) key ≡ []

-- Working definitions: chains of links, and what is held in them.
use Rattle.std.specs.Prelude.{◌≡◌, ℕ, suc, ◌≤◌, ◌<◌, List, [], ◌∷◌, ◌++◌, cond, nat_lt, Option, Some, slice_get, length}
use Rattle.std.specs.declared.cmp.Ordering.{Ordering}
use Rattle.std.specs.Ordering.{eq_by_cmp}
use Rattle.cw_joins.specs.declared.held.Link.{Link}
use Rattle.cw_joins.specs.declared.held.Held.{Held}
use Rattle.cw_joins.specs.Working.{PutsIn}

-- the links of a chain from a number on: each names one that was put before it
pub data IsChain {K G : Type 0} (links : List (Link K G)) : ℕ → List (Link K G) → Type 0 where
  none : IsChain links 0 []
  linked : (at : ℕ) (l : Link K G) (rest : List (Link K G)) → slice_get links at ≡ Some l → l.next ≤ at → IsChain links l.next rest → IsChain links (suc at) (l ∷ rest)

-- the chain that begins at a head
abbrev pub Chain : {K G : Type 0} → Held K G → ℕ → List (Link K G) → Type 0
Chain h at list = (head : ℕ) × (slice_get h.heads.items at ≡ Some head) × IsChain h.links.items head list

-- a chain begins with a link more
abbrev pub IsLinked : {K G : Type 0} → Held K G → ℕ → G → K → Held K G → Type 0
IsLinked old at g k new = (head : ℕ) × (slice_get old.heads.items at ≡ Some head) × (new.links.items ≡ old.links.items ++ record { group = g; key = k; next = head } ∷ [])

-- the keys of a group among links
abbrev pub keys_in : {K G : Type 0} → (G → G → Ordering) → G → List (Link K G) → List K
keys_in cmp g [] = []
keys_in cmp g (l ∷ ls) = cond (eq_by_cmp cmp l.group g) (l.key ∷ keys_in cmp g ls) (keys_in cmp g ls)

-- the chain of an index: the first where there is none of its own
abbrev pub chain_of : (chains index : ℕ) → ℕ
chain_of chains index = cond (nat_lt index chains) index 0

-- what is held for each group
pub record Holds {K G : Type 0} (cmp : G → G → Ordering) (index : G → ℕ) (h : Held K G) (held : G → List K) : Type 0 where
  pub lists : ℕ → List (Link K G)
  pub some : 0 < length h.heads.items
  pub chains : (at : ℕ) → at < length h.heads.items → Chain h at (lists at)
  pub is : (g : G) → held g ≡ keys_in cmp g (lists (chain_of (length h.heads.items) (index g)))

-- and what is held with a key more
abbrev pub HoldsMore : {K G : Type 0} → (G → G → Ordering) → (G → ℕ) → Held K G → (G → List K) → Option G → K → Type 0
HoldsMore {K} {G} cmp index h old group k = (new : G → List K) × Holds cmp index h new × PutsIn old new group k

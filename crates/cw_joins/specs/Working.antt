-- Working definitions: what a search keeps of the keys that it saw.
use Rattle.std.specs.Prelude.{◌≡◌, ◌⊎◌, ℕ, ◌<◌, ◌≤◌, List, [], ◌++◌, Option, Some, None, map, length, slice_index_or}
use Rattle.std.specs.List.{Contains}
use Rattle.cw_joins.specs.Members.{Rules, IsMember, AreMet}

-- what is held for a group, if there is one
abbrev pub held_if : {K G : Type 0} → (G → List K) → Option G → List K
held_if h None = []
held_if h (Some g) = h g

-- k is held for its group, if it has one
pub record PutsIn {K G : Type 0} (old new : G → List K) (group : Option G) (k : K) : Type 0 where
  pub has_old : (a : K) (g : G) → Contains (old g) a → Contains (new g) a
  pub has_new : (g : G) → group ≡ Some g → Contains (new g) k
  pub from : (a : K) (g : G) → Contains (new g) a → Contains (old g) a ⊎ ((a ≡ k) × (group ≡ Some g))

-- the pairs of a key with what is held
abbrev pub met_by : {K G : Type 0} → (waiting ended : G → List K) → (waits ends : Option G) → K → List (K × K)
met_by waiting ended waits ends k = map (λ b. (k, b)) (held_if ended waits) ++ map (λ a. (a, k)) (held_if waiting ends)

abbrev pub join_of : {K G : Type 0} → Rules K G → K × K → K
join_of r ab = r.join ab.0 ab.1

-- x is one of the first i
abbrev pub Below : {K : Type 0} → List K → ℕ → K → Type 0
Below seen i x = (j : ℕ) × (j < i) × (j < length seen) × (slice_index_or seen j x ≡ x)

-- i keys were worked off, of those that were seen: what follows them and their joins were seen, their pairs were met, and each is held for its groups
pub record Reached {K G : Type 0} (r : Rules K G) (start : K) (seen : List K) (pairs : List (K × K)) (waiting ended : G → List K) (i : ℕ) : Type 0 where
  pub needed : (k : K) → Contains seen k → IsMember r start k
  pub begins : Contains seen start
  pub closed : (a b : K) → Below seen i a → Contains (r.after a) b → Contains seen b
  pub joined : (a b : K) (g : G) → Below seen i a → Below seen i b → r.waits a ≡ Some g → r.ends b ≡ Some g → Contains seen (r.join a b)
  pub paired : (a b : K) (g : G) → Below seen i a → Below seen i b → r.waits a ≡ Some g → r.ends b ≡ Some g → Contains pairs (a, b)
  pub are_met : (ab : K × K) → Contains pairs ab → Contains seen ab.0 × Contains seen ab.1 × AreMet r ab
  pub has_waiting : (a : K) (g : G) → Below seen i a → r.waits a ≡ Some g → Contains (waiting g) a
  pub has_ended : (b : K) (g : G) → Below seen i b → r.ends b ≡ Some g → Contains (ended g) b
  pub is_waiting : (a : K) (g : G) → Contains (waiting g) a → Contains seen a × (r.waits a ≡ Some g)
  pub is_ended : (b : K) (g : G) → Contains (ended g) b → Contains seen b × (r.ends b ≡ Some g)
  pub far : i ≤ length seen

-- The least set that has a key, is closed under steps, and has the join of each two members of one group.
use Rattle.std.specs.Prelude.{◌≡◌, ℕ, ◌+◌, ◌<◌, List, Option, Some, length}
use Rattle.std.specs.declared.cmp.Ordering.{Ordering}
use Rattle.std.specs.Ordering.{ordering_then}
use Rattle.std.specs.List.{Contains}
use Rattle.std.specs.List.Sorted.{IsStrictlySortedBy}

-- What follows a key, the group that it waits for, the group that it ends, and the join of one that waits and one that ends.
pub record Rules (K G : Type 0) : Type 0 where
  pub after : K → List K
  pub waits : K → Option G
  pub ends : K → Option G
  pub join : K → K → K

-- A key is a member where it is the start, follows a member, or is the join of two members of which one waits for a group that the other ends.
pub data IsMember {K G : Type 0} (r : Rules K G) (start : K) : K → Type 0 where
  first : IsMember r start start
  then : (a b : K) → IsMember r start a → Contains (r.after a) b → IsMember r start b
  joins : (a b : K) (g : G) → IsMember r start a → IsMember r start b → r.waits a ≡ Some g → r.ends b ≡ Some g → IsMember r start (r.join a b)

-- the first waits for a group that the second ends
abbrev pub AreMet : {K G : Type 0} → Rules K G → K × K → Type 0
AreMet {K} {G} r ab = (g : G) × (r.waits ab.0 ≡ Some g) × (r.ends ab.1 ≡ Some g)

-- two members of one group
pub record IsPair {K G : Type 0} (r : Rules K G) (start : K) (ab : K × K) : Type 0 where
  pub waiting : IsMember r start ab.0
  pub ending : IsMember r start ab.1
  pub met : AreMet r ab

-- pairs by their first, then by their second key
abbrev pub pair_cmp : {K : Type 0} → (K → K → Ordering) → K × K → K × K → Ordering
pair_cmp cmp x y = ordering_then (cmp x.0 y.0) (cmp x.1 y.1)

-- members and pairs together are more than n
pub record HaveMore {K G : Type 0} (cmp : K → K → Ordering) (r : Rules K G) (start : K) (n : ℕ) : Type 0 where
  pub members : List K
  pub pairs : List (K × K)
  pub ascend : IsStrictlySortedBy cmp members
  pub rise : IsStrictlySortedBy (pair_cmp cmp) pairs
  pub are : (k : K) → Contains members k → IsMember r start k
  pub meet : (ab : K × K) → Contains pairs ab → IsPair r start ab
  pub more : n < length members + length pairs

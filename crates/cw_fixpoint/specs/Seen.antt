-- Working definitions: what a search keeps of the keys that it saw.
use Rattle.std.specs.Prelude.{◌≡◌, ◌⊎◌, ℕ, ◌<◌, ◌≤◌, List, ◌++◌, length, slice_index_or}
use Rattle.std.specs.declared.cmp.Ordering.{Ordering}
use Rattle.std.specs.List.{Contains}
use Rattle.std.specs.List.Sorted.{IsStrictlySortedBy}
use Rattle.cw_fixpoint.specs.Closures.{Reached}

-- the set has the keys that were seen, each once
pub record SeenIs {K : Type 0} (cmp : K → K → Ordering) (seen set : List K) : Type 0 where
  pub same : (k : K) → (Contains seen k → Contains set k) × (Contains set k → Contains seen k)
  pub once : length set ≡ length seen
  pub order : IsStrictlySortedBy cmp set

-- what was seen grows by some of these keys, and has all of them then
pub record Adds {K : Type 0} (old new keys : List K) : Type 0 where
  pub more : List K
  pub is : new ≡ old ++ more
  pub from : (k : K) → Contains more k → Contains keys k
  pub has : (k : K) → Contains keys k → Contains new k

-- what was seen is reached, has the starts, and has what follows the first i of it
pub record Seen {K : Type 0} (cmp : K → K → Ordering) (step : K → List K) (starts seen set : List K) (i : ℕ) : Type 0 where
  pub same : SeenIs cmp seen set
  pub needed : (k : K) → Contains seen k → Reached step starts k
  pub begins : (k : K) → Contains starts k → Contains seen k
  pub closed : (j : ℕ) (d : K) → j < i → (b : K) → Contains (step (slice_index_or seen j d)) b → Contains seen b
  pub far : i ≤ length seen

-- all of it was passed, or as many keys as may be
pub record Searched {K : Type 0} (cmp : K → K → Ordering) (step : K → List K) (starts seen set : List K) (most : ℕ) : Type 0 where
  pub passed : ℕ
  pub so_far : Seen cmp step starts seen set passed
  pub done : (length seen ≤ passed) ⊎ (passed ≡ most)

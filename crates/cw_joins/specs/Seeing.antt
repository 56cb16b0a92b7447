-- Working definitions: what was seen, and the hints to it.
use Rattle.std.specs.Prelude.{◌≡◌, ◌⊎◌, ℕ, zero, suc, List, Option, Some, None, slice_get}
use Rattle.std.specs.declared.cmp.Ordering.{Ordering}
use Rattle.std.specs.Ordering.{eq_by_cmp}
use Rattle.std.specs.List.{Contains, IsDistinct}
use Rattle.cw_joins.specs.declared.seen.Seen.{Seen}
use Rattle.cw_joins.specs.declared.seen.Recalled.{Recalled}
use Rattle.cw_joins.specs.declared.seen.Recalled.TheVariants.{New, Old, Nothing}

-- the key that a hint names: it is the key's number, counted from 2
abbrev pub named : {K : Type 0} → List K → ℕ → Option K
named keys zero = None
named keys (suc zero) = None
named keys (suc (suc index)) = slice_get keys index

-- the hint at an index names a key
abbrev pub IsHinted : {K : Type 0} → (keys : List K) (hints : List ℕ) (at : ℕ) → K → Type 0
IsHinted {K} keys hints at k = (hint : ℕ) × (slice_get hints at ≡ Some hint) × (named keys hint ≡ Some k)

-- the hint at an index is that of no key
abbrev pub IsFree : (hints : List ℕ) (at : ℕ) → Type 0
IsFree hints at = slice_get hints at ≡ Some 1

-- what the hint at an index tells of a key
abbrev pub Tells : {K : Type 0} → (keys : List K) (hints : List ℕ) (at : ℕ) → K → Recalled → Type 0
Tells {K} keys hints at k New = IsFree hints at
Tells {K} keys hints at k Old = IsHinted keys hints at k
Tells {K} keys hints at k Nothing = (IsFree hints at → ⊥) × (IsHinted keys hints at k → ⊥)

-- each key was seen once; the hint at its index isn't that of no key; and that hint names it, or it is one of the others
pub record IsSeen {K : Type 0} (cmp : K → K → Ordering) (index : K → ℕ) (keys : List K) (hints : List ℕ) (others : List K) : Type 0 where
  pub once : IsDistinct (eq_by_cmp cmp) keys
  pub noted : (k : K) → Contains keys k → IsFree hints (index k) → ⊥
  pub found : (k : K) → Contains keys k → IsHinted keys hints (index k) k ⊎ Contains others k
  pub from : (k : K) → Contains others k → Contains keys k

abbrev pub Sees : {K : Type 0} → (K → K → Ordering) → (K → ℕ) → Seen K → Type 0
Sees cmp index s = IsSeen cmp index s.keys.items s.hints.items s.others.keys

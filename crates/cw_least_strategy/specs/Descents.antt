-- Working definitions, for proofs and contracts inside: keys that wait.
use Rattle.std.specs.Prelude.{◌⊎◌, List}
use Rattle.std.specs.List.{Contains}

-- The new keys are the old ones and some more.
abbrev pub Joins : {K : Type 0} → (old keys new : List K) → Type 0
Joins {K} old keys new = (k : K) → (Contains new k → Contains old k ⊎ Contains keys k) × (Contains old k ⊎ Contains keys k → Contains new k)

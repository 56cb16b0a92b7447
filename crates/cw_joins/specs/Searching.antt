-- Working definitions: what a search keeps of the keys and pairs that it saw.
use Rattle.std.specs.Prelude.{◌⊎◌, ℕ, ◌+◌, ◌<◌, ◌≤◌, List, length}
use Rattle.std.specs.declared.cmp.Ordering.{Ordering}
use Rattle.cw_joins.specs.Members.{Rules, pair_cmp}
use Rattle.cw_joins.specs.Chains.{Holds}
use Rattle.cw_joins.specs.Working.{Reached}
use Rattle.cw_joins.specs.declared.joined.Search.{Search}
use Rattle.cw_joins.specs.Seeing.{Sees}

-- of the keys that were seen i were worked off
pub record Keeps {K G : Type 0} (cmp : K → K → Ordering) (groups : G → G → Ordering) (r : Rules K G) (index : K → ℕ) (of_pairs : K × K → ℕ) (of_groups : G → ℕ) (start : K) (s : Search K G)
    (i : ℕ) : Type 0 where
  pub keys : Sees cmp index s.seen
  pub pairs : Sees (pair_cmp cmp) of_pairs s.pairs
  pub wait : G → List K
  pub end : G → List K
  pub waiting : Holds groups of_groups s.waiting wait
  pub ended : Holds groups of_groups s.ended end
  pub reached : Reached r start s.seen.keys.items s.pairs.keys.items wait end i

-- all of it was worked off, or it is more than so many
pub record Searched {K G : Type 0} (cmp : K → K → Ordering) (groups : G → G → Ordering) (r : Rules K G) (index : K → ℕ) (of_pairs : K × K → ℕ) (of_groups : G → ℕ) (start : K) (s : Search K G)
    (most : ℕ) : Type 0 where
  pub passed : ℕ
  pub so_far : Keeps cmp groups r index of_pairs of_groups start s passed
  pub done : (length s.seen.keys.items ≤ passed) ⊎ (most < length s.seen.keys.items + length s.pairs.keys.items)

-- Working definitions: whether no token stands on the line so far, given where the last token ends.
use Rattle.std.specs.Prelude.{ℕ, ◌-◌, ◌==◌, Bool, ◌||◌, List, drop, take}
use Rattle.std.specs.List.{list_any}

-- given the bytes behind the last token, all of them gaps, and whether there is no token
unfoldable pub fresh_in : Bool → List ℕ → Bool
fresh_in none_yet gap = none_yet || list_any (λ b. b == 10) gap

-- the same at a place, given where the last token ends: 0 stands for no token
abbrev pub fresh_from : ℕ → ℕ → List ℕ → Bool
fresh_from last at source = fresh_in (last == 0) (take (at - last) (drop last source))

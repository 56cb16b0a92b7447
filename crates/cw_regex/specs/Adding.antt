-- Working definitions: how far the labels of a text were added to others.
use Rattle.std.specs.Prelude.{◌≡◌, ℕ, List, ◌++◌}
use Rattle.cw_regex.specs.Meaning.{with_names}

-- of the labels that were left, some were added, and these are left after them
pub record Adds (old new left after : List (List ℕ)) : Type 0 where
  pub added : List (List ℕ)
  pub split : left ≡ added ++ after
  pub all : new ≡ with_names old added

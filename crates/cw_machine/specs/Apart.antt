-- Statements that begin at places of their own.
use Rattle.std.specs.Prelude.{◌≡◌, ℕ, List, Some, slice_get, find}
use Rattle.cw_syntax.specs.Trees.{Statement}
use Rattle.cw_value.specs.Deeds.{begins_at}
use Rattle.cw_apart.specs.Starts.{start_of}

-- each is the first that begins where it does
abbrev pub AreApart : List Statement → Type 0
AreApart l = (i : ℕ) (s : Statement) → slice_get l i ≡ Some s → find (begins_at (start_of s)) l ≡ Some s

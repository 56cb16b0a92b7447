-- The calls of an object in memory are numbered from 0, and it is told which are to fail.
use Rattle.std.specs.Prelude.{ℕ, Bool, ◌==◌, List}
use Rattle.std.specs.List.{list_any}

-- whether the call of this number is to fail
abbrev pub is_due : List ℕ → ℕ → Bool
is_due failing call = list_any (λ number. number == call) failing

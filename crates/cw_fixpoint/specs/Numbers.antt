-- The number of an item in a list.
use Rattle.std.specs.Prelude.{ℕ, ◌+◌, List, [], ◌∷◌, cond}
use Rattle.std.specs.declared.cmp.Ordering.{Ordering}
use Rattle.std.specs.Ordering.{eq_by_cmp}

-- The index of the first item that is equal by the order, and how many items there are where none is.
abbrev pub number_in : {A : Type 0} → (A → A → Ordering) → List A → A → ℕ
number_in cmp [] x = 0
number_in cmp (y ∷ ys) x = cond (eq_by_cmp cmp y x) 0 (number_in cmp ys x + 1)

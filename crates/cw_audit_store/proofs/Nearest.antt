-- What waits, by what a heap says of it.
use Rattle.std.proofs.Common.{◌≡◌, ℕ, List, [], ◌∷◌, false, map}
use Rattle.std.specs.BinaryHeap.{IsUpperBound}
use Rattle.std.specs.Ordering.{is_lt}
use Rattle.std.specs.declared.cmp.Reverse.{Reverse}
use Rattle.std.proofs.lemmas.List.Elements.{All-nil, All-cons}
use Rattle.cw_audit_store.specs.Nearest.{next_cmp, nearest_cmp, keyed, IsFirst}

-- what is less than nothing comes first
pub first_of : (x : Reverse (ℕ × ℕ)) (ys : List (Reverse (ℕ × ℕ))) → IsUpperBound nearest_cmp x ys → IsFirst (keyed x) (map keyed ys)
first_of x [] h = All-nil (λ (other : ℕ × ℕ). is_lt (next_cmp other (keyed x)) ≡ false)
first_of x (y ∷ ys) h = All-cons (λ (other : ℕ × ℕ). is_lt (next_cmp other (keyed x)) ≡ false) (keyed y) (map keyed ys) h.0 (first_of x ys h.1)

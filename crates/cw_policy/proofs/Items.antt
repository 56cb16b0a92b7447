-- Items beside the values of their array.
use Rattle.std.proofs.Common.{◌≡◌, ◌<◌, ℕ, ◌+◌, List, [], ◌∷◌, ◌++◌, length, suc, take, drop, get_or, false, refl, ap, add-one, drop-cons}
use Rattle.std.proofs.Math.Seq.{take-suc}
use Rattle.toml.specs.declared.value.Value.{Value}
use Rattle.toml.specs.View.{view, items_view}
use Rattle.cw_policy.specs.Names.{name_of, names_of, is_among, repeated, count}

pub count_view : (vs : List Value) → count (items_view vs) ≡ length vs
count_view [] = refl
count_view (v ∷ vs) = ap suc (count_view vs)

-- the names of items and one more
pub names_last : (vs : List Value) (v : Value) → names_of (items_view (vs ++ v ∷ [])) ≡ names_of (items_view vs) ++ name_of (view v) ∷ []
names_last [] v = refl
names_last (w ∷ vs) v = ap (λ ns. name_of (view w) ∷ ns) (names_last vs v)

abbrev names : List Value → List (List ℕ)
names vs = names_of (items_view vs)

-- a name that none before it has leaves the search for a name that stands twice as it was
pub repeated_on : (vs : List Value) (i : ℕ) (v : Value) → i < length vs → is_among (names (take i vs)) (name_of (view (get_or vs i v))) ≡ false
    → repeated (names (take (i + 1) vs)) (i + 1) (names (drop (i + 1) vs)) ≡ repeated (names (take i vs)) i (names (drop i vs))
repeated_on vs i v lt new =
    let head : drop i vs ≡ get_or vs i v ∷ drop (suc i) vs = drop-cons vs i v lt in
    let front : take (suc i) vs ≡ take i vs ++ (get_or vs i v ∷ []) = take-suc vs i v lt in
    rw (add-one i, head, front, names_last (take i vs) (get_or vs i v), new) refl

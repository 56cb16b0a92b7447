-- The rest of a list.
use Rattle.std.proofs.Common.{◌≡◌, ℕ, ◌+◌, ◌<◌, length, drop, drop-cons, add-one, get_or, ap₂, List, ◌∷◌, sym, ◌∙◌}

pub drop_item : {A : Type 0} (l : List A) (i : ℕ) (x : A) → i < length l → get_or l i x ≡ x → drop i l ≡ x ∷ drop (i + 1) l
drop_item l i x lt is = drop-cons l i x lt ∙ ap₂ (λ y z. y ∷ drop z l) is (sym (add-one i))

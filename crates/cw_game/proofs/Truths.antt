-- Truth values.
use Rattle.std.proofs.Common.{◌≡◌, Bool, true, false, not, ◌&&◌, ◌||◌, refl}
use Rattle.std.proofs.lemmas.Bool.{and_from as both, and_parts, not-true as is_false}

pub or_parts : (a b : Bool) → (not a || b) ≡ true → a ≡ true → b ≡ true
or_parts true b h e = h
or_parts false b h e = cc

pub not_true : (b : Bool) → not b ≡ true → b ≡ true → ⊥
not_true true h k = cc
not_true false h k = cc

-- none of them
pub neither : (a b : Bool) → not (a || b) ≡ true → (a ≡ false) × (not b ≡ true)
neither true b h = cc
neither false b h = (refl, h)

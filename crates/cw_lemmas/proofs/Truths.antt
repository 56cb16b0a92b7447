-- Truths: `and`, `or` and `not`, besides what std has of them.
use Rattle.std.proofs.Common.{◌≡◌, Bool, true, false, not, ◌&&◌, ◌||◌, cond, refl}
use Rattle.std.proofs.lemmas.Bool.{both_ways}

pub and_true : (b : Bool) → (b && true) ≡ b
and_true true = refl
and_true false = refl

pub and_false : (b : Bool) → (b && false) ≡ false
and_false true = refl
and_false false = refl

pub or_false : (b : Bool) → (b || false) ≡ b
or_false true = refl
or_false false = refl

pub and_first : (a b : Bool) → (a && b) ≡ true → a ≡ true
and_first true b h = refl
and_first false b h = h

pub and_second : (a b : Bool) → (a && b) ≡ true → b ≡ true
and_second true b h = h
and_second false b h = cc

pub or_first : (a b : Bool) → (a || b) ≡ false → a ≡ false
or_first true b h = cc
or_first false b h = refl

pub not_or : (a b : Bool) → a ≡ true → b ≡ false → (not a || b) ≡ false
not_or true b e f = f
not_or false b e f = cc

pub cond_true : (a b : Bool) → b ≡ true → cond a true b ≡ true
cond_true true b e = refl
cond_true false b e = e

pub not_both : (b : Bool) → b ≡ true → b ≡ false → ⊥
not_both true h k = cc
not_both false h k = cc

pub and_second_false : (a b : Bool) → (a && b) ≡ false → a ≡ true → b ≡ false
and_second_false true b h k = h
and_second_false false b h k = cc

pub or_middle : (a b c : Bool) → (a || (b || c)) ≡ false → b ≡ false
or_middle true b c h = cc
or_middle false true c h = cc
or_middle false false c h = refl

-- one that follows from another
pub implied : (a b : Bool) → (a ≡ true → b ≡ true) → (not a || b) ≡ true
implied true b h = h refl
implied false b h = refl

pub still_false : (a b : Bool) → (b ≡ true → a ≡ true) → a ≡ false → b ≡ false
still_false a true h e = absurd (both_ways a e (h refl))
still_false a false h e = refl

-- Looking for the end of a comment.
use Rattle.std.proofs.Common.{◌≡◌, ℕ, suc, zero, ◌+◌, ◌<◌, true, false, List, [], ◌∷◌, length, drop, get_or, Option, Some, None, refl, ap, arith, drop-cons, add-one}
use Rattle.std.specs.Prelude.{nat_eq, codes}
use Rattle.std.specs.List.{starts_with}
use Rattle.cw_lex.specs.Characters.{more_by}
use Rattle.cw_lex.specs.Fronts.{to_close}

some_is : (a b : ℕ) → a ≡ b → Some a ≡ Some b
some_is a b e = ap (λ (k : ℕ). Some k) e

pub more_twice : (i j : ℕ) (o : Option ℕ) → more_by i (more_by j o) ≡ more_by (j + i) o
more_twice i j None = refl
more_twice i j (Some n) = some_is (n + j + i) (n + (j + i)) (omega arith)

pub more_zero : (o : Option ℕ) → more_by 0 o ≡ o
more_zero None = refl
more_zero (Some n) = some_is (n + 0) n (omega arith)

pub drop_here : (bs : List ℕ) (i : ℕ) → i < length bs → drop i bs ≡ get_or bs i 0 ∷ drop (i + 1) bs
drop_here bs i lt = rw add-one (drop-cons bs i 0 lt)

-- the first `*/` is where a comment ends
pub close_here : (bs : List ℕ) (at : ℕ) → starts_with nat_eq (drop at bs) (codes "*/") ≡ true
    → ((k : ℕ) → k < at → starts_with nat_eq (drop k bs) (codes "*/") ≡ false) → to_close bs ≡ Some (at + 2)
close_here [] zero e least = absurd cc
close_here [] (suc at) e least = absurd cc
close_here (b ∷ bs) zero e least = rw e refl
close_here (b ∷ bs) (suc at) e least =
    let no : starts_with nat_eq (b ∷ bs) (codes "*/") ≡ false = least 0 (omega arith) in
    let later = close_here bs at e (λ k lt. least (suc k) (omega (arith, lt))) in
    let sum : at + 2 + 1 ≡ suc at + 2 = omega arith in
    rw (no, later) (some_is (at + 2 + 1) (suc at + 2) sum)

pub close_none : (bs : List ℕ) → ((k : ℕ) → starts_with nat_eq (drop k bs) (codes "*/") ≡ false) → to_close bs ≡ None
close_none [] none = refl
close_none (b ∷ bs) none =
    let later = close_none bs (λ k. none (suc k)) in
    rw (none 0, later) refl

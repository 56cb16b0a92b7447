-- What holds of an answer where it is given.
use Rattle.std.proofs.Common.{◌≡◌, Bool, true, false, refl, subst}
use Rattle.std.specs.Prelude.{Result, Ok, Err, IfOk, OnOk}

pub when_ok : {A E : Type 0} {P : A → Type 0} (r : Result A E) → ((a : A) → r ≡ Ok a → P a) → IfOk r P
when_ok (Ok a) f = f a refl
when_ok (Err e) f = tt

pub whenever_ok : {A E X : Type 0} (r : Result A E) → ((a : A) → r ≡ Ok a → X) → OnOk r X
whenever_ok (Ok a) f = f a refl
whenever_ok (Err e) f = tt

pub at_ok : {A E : Type 0} (P : A → Type 0) (r : Result A E) (a : A) → r ≡ Ok a → IfOk r P → P a
at_ok P r a e h = subst (λ r. IfOk r P) e h

-- by whether it is so
pub by_truth : {X : Type 0} (b : Bool) → (b ≡ false → X) → (b ≡ true → X) → X
by_truth true f g = g refl
by_truth false f g = f refl

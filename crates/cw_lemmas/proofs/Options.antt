-- Options, besides what std has of them.
use Rattle.std.proofs.Common.{◌≡◌, ℕ, ◌+◌, Bool, true, false, true≢false, not, is_some, cond, List, [], ◌∷◌, Option, None, Some, option_map, refl, ap, ◌∙◌, sym}
use Rattle.std.specs.Prelude.{find, Result, Ok, Err, IfNone, IfOk}
use Rattle.std.specs.List.{position_from}
use Rattle.std.proofs.lemmas.Option.{none-some, same_Some}

pub option_map_some : {A B : Type 0} (f : A → B) (o : Option A) (y : B) → option_map f o ≡ Some y → (x : A) × (o ≡ Some x) × (f x ≡ y)
option_map_some f None y e = absurd (none-some y e)
option_map_some f (Some x) y e = (x, refl, same_Some (f x) y e)

pub cond_none_some : {X : Type 0} (b : Bool) (o : Option X) (x : X) → cond b None o ≡ Some x → (b ≡ false) × (o ≡ Some x)
cond_none_some true o x e = absurd (none-some x e)
cond_none_some false o x e = (refl, e)

-- what has no place isn't found
pub position_none : {X : Type 0} (t : X → Bool) (i : ℕ) (xs : List X) → position_from t i xs ≡ None → find t xs ≡ None
position_none t i [] e = refl
position_none t i (x ∷ xs) e = by (t x) refl e (position_none t (i + 1) xs)
  where
    by : (b : Bool) → t x ≡ b → cond b (Some i) (position_from t (i + 1) xs) ≡ None → (position_from t (i + 1) xs ≡ None → find t xs ≡ None) → find t (x ∷ xs) ≡ None
    by true is e r = let z : Some i ≡ None = e in absurd (cc)
    by false is e r = ap (λ b. cond b (Some x) (find t xs)) is ∙ r e

pub cond_none : {X : Type 0} (b : Bool) (o : Option X) → o ≡ None → cond b None o ≡ None
cond_none true o e = refl
cond_none false o e = e

pub option_map_none : {A B : Type 0} (f : A → B) (o : Option A) → option_map f o ≡ None → o ≡ None
option_map_none f None e = refl
option_map_none f (Some x) e = absurd (none-some (f x) (sym e))

-- what follows where there is no answer, and of an answer
pub where_none : {A P Q : Type 0} (o : Option A) → IfNone o P → (P → Q) → IfNone o Q
where_none (Some x) p f = tt
where_none None p f = f p

pub if_ok : {A E : Type 0} (P Q : A → Type 0) (r : Result A E) → IfOk r P → ((a : A) → P a → Q a) → IfOk r Q
if_ok P Q (Ok a) p h = h a p
if_ok P Q (Err e) p h = p

-- what isn't there, by a test of whether it is
pub none_by_test : {A : Type 0} (o : Option A) (b : Bool) → is_some o ≡ not b → b ≡ true → o ≡ None
none_by_test None b e h = refl
none_by_test (Some x) b e h = absurd (true≢false (e ∙ ap not h))

pub some_from : {A : Type 0} (o : Option A) → is_some o ≡ true → (x : A) × (o ≡ Some x)
some_from None e = absurd (cc)
some_from (Some x) e = (x, refl)

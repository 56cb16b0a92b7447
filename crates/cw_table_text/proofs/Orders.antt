-- A list that ascends strictly, with one element more behind it.
use Rattle.std.proofs.Common.{◌≡◌, ℕ, suc, ◌-◌, true, List, [], ◌∷◌, ◌++◌, length, refl, sym, ap, ◌∙◌, arith}
use Rattle.std.specs.Prelude.{slice_get}
use Rattle.std.specs.Cmp.{IsTotalOrder}
use Rattle.std.specs.List.{AllByRecursion}
use Rattle.std.specs.List.Sorted.{IsStrictlySortedBy}
use Rattle.std.specs.Ordering.{is_lt}
use Rattle.std.specs.declared.cmp.Ordering.{Ordering}
use Rattle.std.specs.declared.cmp.Ordering.TheVariants.{Less}
use Rattle.cw_lemmas.proofs.Lists.{all_push}
use Rattle.cw_lemmas.proofs.Orders.{lt_less}
use Rattle.cw_table_text.specs.Working.{is_above, is_above_last}

above_step : {A : Type 0} (cmp : A → A → Ordering) (x y : A) (ys : List A) (r : A) → is_above cmp (x ∷ y ∷ ys) r ≡ is_above cmp (y ∷ ys) r
above_step cmp x y ys r =
    let long : length (x ∷ y ∷ ys) - 1 ≡ suc (length ys) = omega arith in
    let short : length (y ∷ ys) - 1 ≡ length ys = omega arith in
    ap (λ (k : ℕ). is_above_last cmp (slice_get (x ∷ y ∷ ys) k) r) long ∙ sym (ap (λ (k : ℕ). is_above_last cmp (slice_get (y ∷ ys) k) r) short)

last_of_all : {A : Type 0} (P : A → Type 0) (xs : List A) (r : A) → AllByRecursion P (xs ++ r ∷ []) → P r
last_of_all P [] r all = all.0
last_of_all P (x ∷ xs) r all = last_of_all P xs r all.1

pub sorted_push : {A : Type 0} {cmp : A → A → Ordering} → IsTotalOrder cmp → (xs : List A) (r : A) → IsStrictlySortedBy cmp xs → is_above cmp xs r ≡ true → IsStrictlySortedBy cmp (xs ++ r ∷ [])
unfolding IsStrictlySortedBy
sorted_push o [] r sorted above = (tt, tt)
sorted_push {cmp = cmp} o (x ∷ []) r sorted above = ((lt_less (cmp x r) above, tt), (tt, tt))
sorted_push {cmp = cmp} o (x ∷ y ∷ ys) r sorted above =
    let rest = sorted_push o (y ∷ ys) r sorted.1 (sym (above_step cmp x y ys r) ∙ above) in
    let far : cmp x r ≡ Less = o.trans x y r sorted.0.0 (last_of_all (λ z. cmp y z ≡ Less) ys r rest.0) in
    (all_push (λ z. cmp x z ≡ Less) (y ∷ ys) r sorted.0 far, rest)

pub above_from_sorted : {A : Type 0} (cmp : A → A → Ordering) (xs : List A) (r : A) (more : List A) → IsStrictlySortedBy cmp (xs ++ r ∷ more) → is_above cmp xs r ≡ true
unfolding IsStrictlySortedBy
above_from_sorted cmp [] r more sorted = refl
above_from_sorted cmp (x ∷ []) r more sorted = ap is_lt sorted.0.0
above_from_sorted cmp (x ∷ y ∷ ys) r more sorted = above_step cmp x y ys r ∙ above_from_sorted cmp (y ∷ ys) r more sorted.1

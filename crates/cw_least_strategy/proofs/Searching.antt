-- Keys that are taken from the greatest down, and what is done at each.
use Rattle.std.proofs.Common.{◌≡◌, inl, inr, ℕ, zero, suc, ◌<◌, List, [], ◌∷◌, ◌++◌, Option, Some, None, IfSome, sym, ap, ◌∙◌, subst, length, length-append, reverse, ⊎_elim, arith}
use Rattle.std.specs.Prelude.{get_or}
use Rattle.std.specs.List.{AllZip, Contains}
use Rattle.std.specs.Option.{option_to_list}
use Rattle.std.specs.declared.cmp.Ordering.{Ordering}
use Rattle.std.proofs.lemmas.List.{nil_from_length, reverse-append}
use Rattle.std.proofs.lemmas.List.Elements.{Contains-append_left, Contains-append_right, Contains-append_cases}
use Rattle.cw_least_strategy.specs.Descents.{Joins}
use Rattle.cw_least_strategy.proofs.Descending.{Descends}

pub joins_beside : {K : Type 0} (old keys : List K) → Joins old keys (old ++ keys)
joins_beside old keys k = (
  λ c. Contains-append_cases old keys k c,
  λ c. ⊎_elim (λ o. Contains-append_left old keys k o) (λ i. Contains-append_right old keys k i) c,
)

module _ {K : Type 0} (cmp : K → K → Ordering) (step : K → List K) (starts : List K) where
  -- the same keys wait in another list
  pub descends_joined : (taken old keys new : List K) → Joins old keys new → Descends cmp step starts taken (old ++ keys) → Descends cmp step starts taken new
  descends_joined taken old keys new j h = record {
    needed = λ k c. h.needed k (⊎_elim (λ t. inl t) (λ w. inr (from k w)) c);
    begins = λ k c. ⊎_elim (λ t. inl t) (λ w. inr (to k w)) (h.begins k c);
    closed = λ k q t c. ⊎_elim (λ d. inl d) (λ w. inr (to q w)) (h.closed k q t c);
    order = h.order;
    below = λ k q t w. h.below k q t (from q w);
  }
    where
      to : (k : K) → Contains (old ++ keys) k → Contains new k
      to k c = (j k).1 (Contains-append_cases old keys k c)

      from : (k : K) → Contains new k → Contains (old ++ keys) k
      from k c = ⊎_elim (λ o. Contains-append_left old keys k o) (λ i. Contains-append_right old keys k i) ((j k).0 c)

-- the one key of a list is taken from it
pub one_taken : {K : Type 0} (old keys rest : List K) (taken : Option K) → keys ≡ rest ++ option_to_list taken → length keys ≡ 1 → IfSome taken (λ k. Joins old keys (old ++ k ∷ []))
one_taken old keys rest None e one = tt
one_taken old keys rest (Some k) e one =
    let long = ap length e ∙ length-append rest (k ∷ []) in
    let none = nil_from_length rest (omega (arith, long, one)) in
    subst (λ l. Joins old l (old ++ k ∷ [])) (sym (e ∙ ap (λ l. l ++ k ∷ []) none)) (joins_beside old (k ∷ []))

-- what holds place by place, of two lists that are turned round, and of one more place
pub zip_more : {A B : Type 0} (R : A → B → Type 0) (xs : List A) (ys : List B) (x : A) (y : B) → AllZip R (reverse xs) (reverse ys) → R x y
    → AllZip R (reverse (xs ++ x ∷ [])) (reverse (ys ++ y ∷ []))
zip_more R xs ys x y all r = subst (λ l. AllZip R l (reverse (ys ++ y ∷ []))) (sym (reverse-append xs (x ∷ [])))
    (subst (λ l. AllZip R (x ∷ reverse xs) l) (sym (reverse-append ys (y ∷ []))) (r, all))

pub zip_at : {A B : Type 0} (R : A → B → Type 0) (xs : List A) (ys : List B) (i j : ℕ) (d : A) (e : B) → AllZip R xs ys → i < length xs → j ≡ i → R (get_or xs i d) (get_or ys j e)
zip_at {A} {B} R xs ys i j d e all within same = subst (λ (k : ℕ). R (get_or xs i d) (get_or ys k e)) (sym same) (at xs ys i all within)
  where
    at : (xs : List A) (ys : List B) (i : ℕ) → AllZip R xs ys → i < length xs → R (get_or xs i d) (get_or ys i e)
    at [] ys i all within = absurd (omega (arith, within))
    at (x ∷ xs) [] i all within = absurd all
    at (x ∷ xs) (y ∷ ys) zero all within = all.0
    at (x ∷ xs) (y ∷ ys) (suc i) all within = at xs ys i all.1 (omega (arith, within))

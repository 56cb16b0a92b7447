-- Members of lists, and what a find gives.
use Rattle.std.proofs.Common.{◌≡◌, ◌⊎◌, inl, inr, ℕ, zero, suc, ◌<◌, List, [], ◌∷◌, Bool, true, false, cond, Some, is_some, find, length, get_or, refl, sym, ap, ◌∙◌, subst, arith}
use Rattle.std.specs.Prelude.{slice_get}
use Rattle.std.specs.List.{Contains, AllByRecursion}
use Rattle.std.proofs.lemmas.Option.{none-some, same_Some, slice_get_read}
use Rattle.cw_lemmas.proofs.Options.{some_from}

module _ {A : Type 0} where
  abbrev pub In : List A → A → Type 0
  In [] x = ⊥
  In (y ∷ ys) x = (y ≡ x) ⊎ In ys x

  in_at : (xs : List A) (x : A) (k : ℕ) → k < length xs → get_or xs k x ≡ x → In xs x
  in_at [] x k l e = absurd (omega arith)
  in_at (y ∷ ys) x zero l e = inl e
  in_at (y ∷ ys) x (suc k) l e = inr (in_at ys x k (omega arith) e)

  pub in_of : (xs : List A) (x : A) → Contains xs x → In xs x
  in_of xs x (k, l, e) = in_at xs x k l e

  pub of_in : (xs : List A) (x : A) → In xs x → Contains xs x
  of_in [] x n = absurd n
  of_in (y ∷ ys) x (inl e) = (0, omega arith, e)
  of_in (y ∷ ys) x (inr n) = let c = of_in ys x n in (suc c.0, omega (arith, c.1), c.2)

  -- what all elements have each of them has
  pub all_in : (P : A → Type 0) (xs : List A) (x : A) → AllByRecursion P xs → In xs x → P x
  all_in P [] x h n = absurd n
  all_in P (y ∷ ys) x h (inl e) = subst P e h.0
  all_in P (y ∷ ys) x h (inr n) = all_in P ys x h.1 n

  pub find_in : (test : A → Bool) (xs : List A) (x : A) → find test xs ≡ Some x → In xs x × (test x ≡ true)
  find_in test [] x e = absurd (none-some x e)
  find_in test (y ∷ ys) x e = by (test y) refl (find_in test ys x)
    where
      by : (b : Bool) → test y ≡ b → (find test ys ≡ Some x → In ys x × (test x ≡ true)) → In (y ∷ ys) x × (test x ≡ true)
      by true t h =
          let s : y ≡ x = same_Some y x (sym (ap (λ b. cond b (Some y) (find test ys)) t) ∙ e) in
          (inl s, subst (λ z. test z ≡ true) s t)
      by false t h = let k = h (sym (ap (λ b. cond b (Some y) (find test ys)) t) ∙ e) in (inr k.0, k.1)

  find_some : (test : A → Bool) (xs : List A) (x : A) → In xs x → test x ≡ true → is_some (find test xs) ≡ true
  find_some test [] x n t = absurd n
  find_some test (y ∷ ys) x n t = by (test y) refl n (find_some test ys x)
    where
      by : (b : Bool) → test y ≡ b → In (y ∷ ys) x → (In ys x → test x ≡ true → is_some (find test ys) ≡ true) → is_some (find test (y ∷ ys)) ≡ true
      by true e n h = ap (λ b. is_some (cond b (Some y) (find test ys))) e
      by false e (inl i) h = let w : true ≡ false = sym t ∙ ap test (sym i) ∙ e in cc
      by false e (inr n) h = ap (λ b. is_some (cond b (Some y) (find test ys))) e ∙ h n t

  pub found : (test : A → Bool) (xs : List A) (x : A) → find test xs ≡ Some x → Contains xs x × (test x ≡ true)
  found test xs x e = let z = find_in test xs x e in (of_in xs x z.0, z.1)

  pub is_found : (test : A → Bool) (xs : List A) (x : A) → Contains xs x → test x ≡ true → (y : A) × (find test xs ≡ Some y)
  is_found test xs x c t = some_from (find test xs) (find_some test xs x (in_of xs x c) t)

  -- the number of an element
  pub numbered : (xs : List A) (x : A) → Contains xs x → (i : ℕ) × (i < length xs) × (slice_get xs i ≡ Some x)
  numbered xs x (k, l, e) = (k, l, slice_get_read xs (length xs) k x refl l (sym e))

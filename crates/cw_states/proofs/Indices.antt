-- The indices of elements in lists.
use Rattle.std.proofs.Common.{◌≡◌, ◌⊎◌, ℕ, suc, ◌+◌, ◌<◌, List, [], ◌∷◌, Bool, true, false, ◌&&◌, cond, Option, Some, length, get_or, nat_eq, refl, sym, ap, ◌∙◌, subst, arith, ⊎_elim, eqb-true}
use Rattle.std.specs.Prelude.{slice_get, unwrap_or}
use Rattle.std.proofs.lemmas.Option.{slice_get-get_or}
use Rattle.cw_rights.specs.declared.capabilities.Limit.{Limit as ALimit}
use Rattle.cw_states.specs.Kept.{is_limit}
use Rattle.std.specs.List.{Contains, position, position_from}
use Rattle.std.specs.Ordering.{is_eq, eq_by_cmp}
use Rattle.std.specs.declared.cmp.Ordering.{Ordering}
use Rattle.std.specs.declared.cmp.Ordering.TheVariants.{Less, Equal, Greater}
use Rattle.std.proofs.lemmas.Cmp.{tied_itself}
use Rattle.std.proofs.lemmas.Iterator.Adapters.{position_from-zero}
use Rattle.std.proofs.lemmas.List.Elements.{Contains-append_cases}
use Rattle.std.proofs.lemmas.Bool.Decides.{nat_tests}
use Rattle.cw_rights.specs.declared.capabilities.Caps.{Caps}
use Rattle.cw_states.specs.Rights.{caps_cmp}
use Rattle.cw_lemmas.proofs.Lists.{contains_none, contains_one}
use Rattle.cw_states.proofs.Ordered.{caps_exact, caps_total}
use Rattle.std.proofs.lemmas.Bool.{and_from as true_both, and_parts as both_true}
use Rattle.cw_lemmas.proofs.Numbers.{nat_eq_self as same_nat}
use Rattle.cw_lemmas.proofs.Orders.{is_eq_equal as at_equal}

module _ {A : Type 0} (test : A → Bool) where
  abbrev FoundFrom : ℕ → List A → Type 0
  FoundFrom i xs = (j : ℕ) × (position_from test i xs ≡ Some (i + j)) × (j < length xs) × ((d : A) → test (get_or xs j d) ≡ true)

  from_found : (i : ℕ) (xs : List A) (x : A) → Contains xs x → test x ≡ true → FoundFrom i xs
  from_found i [] x h t = absurd (contains_none x h)
  from_found i (y ∷ ys) x h t = by (test y) refl (Contains-append_cases (y ∷ []) ys x h) (λ h. from_found (i + 1) ys x h t)
    where
      first : i ≡ i + 0
      first = omega arith

      later : FoundFrom (i + 1) ys → test y ≡ false → FoundFrom i (y ∷ ys)
      later (j, e, l, at) f =
          let n : i + 1 + j ≡ i + suc j = omega arith in
          (suc j, ap (λ b. cond b (Some i) (position_from test (i + 1) ys)) f ∙ e ∙ ap Some n, omega (arith, l), at)

      by : (b : Bool) → test y ≡ b → Contains (y ∷ []) x ⊎ Contains ys x → (Contains ys x → FoundFrom (i + 1) ys) → FoundFrom i (y ∷ ys)
      by true e c rec = (0, ap (λ b. cond b (Some i) (position_from test (i + 1) ys)) e ∙ ap Some first, omega arith, λ d. e)
      by false e c rec = ⊎_elim (λ h. let z : true ≡ false = sym t ∙ ap test (sym (contains_one y x h)) ∙ e in absurd (cc)) (λ h. later (rec h) e) c

  pub found : (xs : List A) (x : A) → Contains xs x → test x ≡ true → (j : ℕ) × (unwrap_or (position test xs) 0 ≡ j) × (j < length xs)
      × ((d : A) → test (get_or xs j d) ≡ true)
  found xs x h t =
      let f = from_found 0 xs x h t in
      let e : 0 + f.0 ≡ f.0 = omega arith in
      (f.0, ap (λ o. unwrap_or o 0) (position_from-zero test xs ∙ f.1) ∙ e, f.2, f.3)

pub caps_found : (xs : List Caps) (c : Caps) → Contains xs c → (unwrap_or (position (λ x. eq_by_cmp caps_cmp x c) xs) 0 < length xs)
    × ((d : Caps) → get_or xs (unwrap_or (position (λ x. eq_by_cmp caps_cmp x c) xs) 0) d ≡ c)
caps_found xs c h =
    let f = found (λ x. eq_by_cmp caps_cmp x c) xs c h (ap is_eq (tied_itself caps_total c)) in (
      subst (λ j. j < length xs) (sym f.1) f.2,
      λ d. ap (λ j. get_or xs j d) f.1
          ∙ caps_exact (get_or xs f.0 d) c (at_equal (caps_cmp (get_or xs f.0 d) c) (f.3 d)),
    )

pub number_found : (xs : List ℕ) (q : ℕ) → Contains xs q → (unwrap_or (position (λ x. nat_eq x q) xs) 0 < length xs)
    × ((d : ℕ) → get_or xs (unwrap_or (position (λ x. nat_eq x q) xs) 0) d ≡ q)
number_found xs q h =
    let f = found (λ x. nat_eq x q) xs q h (same_nat q) in
    (subst (λ j. j < length xs) (sym f.1) f.2, λ d. ap (λ j. get_or xs j d) f.1 ∙ eqb-true (get_or xs f.0 d) q (f.3 d))

same_limit : (d n k l : ℕ) → d ≡ n → k ≡ l
    → (◌≡◌ {A = ALimit} (record { descriptor = d; keep = record { 0 = k } }) (record { descriptor = n; keep = record { 0 = l } }))
same_limit d n k l e f = cc

limit_is : (limit x : ALimit) → is_limit limit x ≡ true → x ≡ limit
limit_is limit x e =
    let both = both_true (nat_eq x.descriptor limit.descriptor) (nat_eq x.keep.0 limit.keep.0) e in
    same_limit x.descriptor limit.descriptor x.keep.0 limit.keep.0 (eqb-true x.descriptor limit.descriptor both.0)
    (eqb-true x.keep.0 limit.keep.0 both.1)

is_itself : (limit : ALimit) → is_limit limit limit ≡ true
is_itself limit =
    true_both (nat_eq limit.descriptor limit.descriptor) (nat_eq limit.keep.0 limit.keep.0) (same_nat limit.descriptor) (same_nat limit.keep.0)

-- a limit that is there has an index, and stands there
pub limit_found : (limits : List ALimit) (limit : ALimit) (o : Option ℕ) → o ≡ position (is_limit limit) limits → Contains limits limit → (i : ℕ)
    × (o ≡ Some i) × (slice_get limits i ≡ Some limit)
limit_found limits limit o e h =
    let f = from_found (is_limit limit) 0 limits limit h (is_itself limit) in
    let z : 0 + f.0 ≡ f.0 = omega arith in (
      f.0,
      e ∙ position_from-zero (is_limit limit) limits ∙ f.1 ∙ ap Some z,
      slice_get-get_or limits f.0 limit f.2
          ∙ ap Some (limit_is limit (get_or limits f.0 limit) (f.3 limit)),
    )

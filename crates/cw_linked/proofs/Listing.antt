-- The lists by functions have the contexts that are there.
use Rattle.std.proofs.Common.{◌≡◌, ℕ, zero, suc, ◌+◌, ◌++◌, ◌∷◌, [], ◌∙◌, ◌⊎◌, List, false, Some, length, refl, sym, ap, subst, inl, inr}
use Rattle.std.specs.Prelude.{nat_eq, slice_get}
use Rattle.std.proofs.lemmas.Bool.{cases_eq, ne_eqb}
use Rattle.std.proofs.lemmas.List.{length-append}
use Rattle.std.proofs.lemmas.Option.{none-some, same_Some}
use Rattle.cw_lemmas.proofs.Lists.{get_front, get_last}
use Rattle.cw_solve.specs.declared.contexts.Context.{Context}
use Rattle.cw_solve.specs.declared.indices.Indices.{Indices}
use Rattle.cw_solve.specs.Indexed.{numbers_of}
use Rattle.cw_linked.specs.Listed.{HasListed}

-- none are
pub listed_none : (s : Indices) → s.count ≡ 0 → HasListed s []
listed_none s none = record { count = none; listed = λ n c there. absurd (none-some c there) }

-- what stands in a list with one more is one of the others, or the last
one_or_last : (cs : List Context) (x : Context) (n : ℕ) (c : Context) → slice_get (cs ++ x ∷ []) n ≡ Some c → (slice_get cs n ≡ Some c) ⊎ ((n ≡ length cs) × (x ≡ c))
one_or_last [] x zero c there = inr (refl, same_Some x c there)
one_or_last [] x (suc n) c there = absurd (none-some c there)
one_or_last (y ∷ ys) x zero c there = inl there
one_or_last (y ∷ ys) x (suc n) c there = elim (one_or_last ys x n c there) [
  | inl here ↦ inl here
  | inr last ↦ inr (ap (λ (k : ℕ). suc k) last.0, last.1)
]

-- one more, at the end of the list of its function
pub listed_more : (s new : Indices) (cs : List Context) (x : Context) → HasListed s cs → new.count ≡ s.count + 1
    → numbers_of new x.function ≡ numbers_of s x.function ++ s.count ∷ []
    → ((f : ℕ) → nat_eq x.function f ≡ false → numbers_of new f ≡ numbers_of s f)
    → HasListed new (cs ++ x ∷ [])
listed_more s new cs x has count here others =
    record {
      count = count ∙ ap (λ (n : ℕ). n + 1) has.count ∙ sym (length-append cs (x ∷ []));
      listed = λ n c there. elim (one_or_last cs x n c there) [
        | inl old ↦ let i = has.listed n c old in
            elim (cases_eq x.function c.function) [
              | inl same ↦ (
                i.0,
                ap (λ (ns : List ℕ). slice_get ns i.0) (ap (λ (f : ℕ). numbers_of new f) (sym same) ∙ here)
                    ∙ get_front (numbers_of s x.function) (s.count ∷ []) i.0 n (subst (λ (f : ℕ). slice_get (numbers_of s f) i.0 ≡ Some n) (sym same) i.1),
              )
              | inr other ↦ (i.0, ap (λ (ns : List ℕ). slice_get ns i.0) (others c.function (ne_eqb x.function c.function other)) ∙ i.1)
            ]
        | inr last ↦ (
          length (numbers_of s x.function),
          ap (λ (d : Context). slice_get (numbers_of new d.function) (length (numbers_of s x.function))) (sym last.1)
              ∙ ap (λ (ns : List ℕ). slice_get ns (length (numbers_of s x.function))) here
              ∙ get_last (numbers_of s x.function) s.count ∙ ap (λ (k : ℕ). Some k) (has.count ∙ sym last.0),
        )
      ];
    }

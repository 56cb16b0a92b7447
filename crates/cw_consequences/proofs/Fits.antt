-- A policy has one fault of fitting in a program, and a policy that is varied has the same.
use Rattle.std.proofs.Common.{◌≡◌, ◌⊎◌, inl, inr, ℕ, ◌<◌, ◌≤◌, List, None, Some, refl, sym, ap, ap₂, ◌∙◌, subst, arith}
use Rattle.std.specs.Prelude.{Bool}
use Rattle.std.proofs.lemmas.Bool.{cases_order}
use Rattle.std.proofs.lemmas.Option.{none-some, same_Some}
use Rattle.cw_rights.specs.Policies.{PlainPolicy}
use Rattle.cw_syntax.specs.Names.{Names, number_in}
use Rattle.cw_syntax.specs.Plans.{function_names}
use Rattle.cw_syntax.specs.Trees.{File}
use Rattle.cw_resolve.specs.Scenes.{names_of}
use Rattle.cw_callgraph.specs.declared.fit.FitFault.{FitFault}
use Rattle.cw_callgraph.specs.declared.fit.FitFault.TheVariants.{NoLabel, NoFunction, NotSplittable}
use Rattle.cw_callgraph.specs.Fitting.{IsFitFault, IsFirstForbidden}
use Rattle.cw_callgraph.specs.Forbidding.{Forbids, IsLeast}
use Rattle.cw_consequences.specs.Unrefused.{varied}
use Rattle.cw_stages.specs.Fitting.{fit_line}

module _ (source : List ℕ) (file : File) (names : Names) (split : List (List ℕ)) where
  never_both : (f place : ℕ) → IsLeast (Forbids names source file f) None → IsLeast (Forbids names source file f) (Some place) → ⊥
  never_both f place none some = none place some.0

  -- none comes before the first
  not_before : (i place j to : ℕ) → IsFirstForbidden source file names split i place → IsFirstForbidden source file names split j to → i < j → ⊥
  not_before i place j to p q lt = never_both p.function place (q.earlier i p.name lt p.named p.function p.defined) p.least

  one_index : (i place j to : ℕ) → IsFirstForbidden source file names split i place → IsFirstForbidden source file names split j to → i ≡ j
  one_index i place j to p q = by (cases_order i j)
    where
      by : (i ≡ j) ⊎ ((i < j) ⊎ (j < i)) → i ≡ j
      by (inl e) = e
      by (inr (inl lt)) = absurd (not_before i place j to p q lt)
      by (inr (inr lt)) = absurd (not_before j to i place q p lt)

  one_least : (f place to : ℕ) → IsLeast (Forbids names source file f) (Some place) → IsLeast (Forbids names source file f) (Some to) → place ≡ to
  one_least f place to p q =
      let le : place ≤ to = p.1 to q.0 in
      let ge : to ≤ place = q.1 place p.0 in
      omega (arith, le, ge)

  -- of one number one place
  one_place : (i place to : ℕ) → IsFirstForbidden source file names split i place → IsFirstForbidden source file names split i to → place ≡ to
  one_place i place to p q =
      let named : q.name ≡ p.name = same_Some q.name p.name (sym q.named ∙ p.named) in
      let defined : number_in (function_names source file) p.name ≡ Some q.function = sym (ap (λ name. number_in (function_names source file) name) named) ∙ q.defined in
      let same : q.function ≡ p.function = same_Some q.function p.function (sym defined ∙ p.defined) in
      one_least p.function place to p.least (subst (λ f. IsLeast (Forbids names source file f) (Some to)) same q.least)

  one_first : (i place j to : ℕ) → IsFirstForbidden source file names split i place → IsFirstForbidden source file names split j to
      → (◌≡◌ {A = FitFault} (NotSplittable i place) (NotSplittable j to))
  one_first i place j to p q =
      let e : i ≡ j = one_index i place j to p q in
      ap₂ (λ n at. NotSplittable n at) e (one_place j place to (subst (λ n. IsFirstForbidden source file names split n place) e p) q)

pub one_fit : (source : List ℕ) (file : File) (whole : PlainPolicy) (f g : FitFault) → IsFitFault source file whole f → IsFitFault source file whole g → f ≡ g
one_fit source file whole (NoLabel i) (NoLabel j) a b = ap (λ n. NoLabel n) (same_Some i j (sym a ∙ b))
one_fit source file whole (NoLabel i) (NoFunction j) a b = absurd (none-some i (sym b.0 ∙ a))
one_fit source file whole (NoLabel i) (NotSplittable j to) a b = absurd (none-some i (sym b.0 ∙ a))
one_fit source file whole (NoFunction i) (NoLabel j) a b = absurd (none-some j (sym a.0 ∙ b))
one_fit source file whole (NoFunction i) (NoFunction j) a b = ap (λ n. NoFunction n) (same_Some i j (sym a.1 ∙ b.1))
one_fit source file whole (NoFunction i) (NotSplittable j to) a b = absurd (none-some i (sym b.1 ∙ a.1))
one_fit source file whole (NotSplittable i place) (NoLabel j) a b = absurd (none-some j (sym a.0 ∙ b))
one_fit source file whole (NotSplittable i place) (NoFunction j) a b = absurd (none-some j (sym a.1 ∙ b.1))
one_fit source file whole (NotSplittable i place) (NotSplittable j to) a b = one_first source file (names_of whole) whole.split i place j to a.2 b.2

module _ (source : List ℕ) (file : File) (p : PlainPolicy) (limit enter split stop : Bool) (format : ℕ) where
  pub fit_same : (f : FitFault) → IsFitFault source file (varied p limit enter split stop format) f → IsFitFault source file p f
  fit_same (NoLabel i) h = h
  fit_same (NoFunction i) h = h
  fit_same (NotSplittable i place) h = h

  pub line_same : (f : FitFault) → fit_line source (varied p limit enter split stop format) f ≡ fit_line source p f
  line_same (NoLabel i) = refl
  line_same (NoFunction i) = refl
  line_same (NotSplittable i place) = refl

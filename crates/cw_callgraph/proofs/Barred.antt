-- The first name whose function may not be split, by the effects of a source's functions.
use Rattle.std.proofs.Common.{◌≡◌, ◌≢◌, ◌<◌, ◌+◌, ℕ, zero, suc, List, [], ◌∷◌, map, length, get_or, Option, None, Some, refl, sym, ap, ◌∙◌, subst, arith}
use Rattle.std.specs.Prelude.{slice_get, IfNone}
use Rattle.std.specs.List.{All}
use Rattle.std.specs.Str.{bytes_eq}
use Rattle.std.proofs.lemmas.Option.{none-some, same_Some}
use Rattle.std.proofs.lemmas.List.{length-map}
use Rattle.cw_syntax.specs.declared.checked.Checked.{Checked}
use Rattle.cw_syntax.specs.Names.{text, number_in}
use Rattle.cw_syntax.specs.Trees.{definition_of, file_of}
use Rattle.cw_syntax.specs.Plans.{function_names}
use Rattle.cw_rights.specs.Policies.{PlainPolicy}
use Rattle.cw_resolve.specs.Scenes.{names_of}
use Rattle.cw_resolve.proofs.Bounds.{index_within}
use Rattle.cw_callgraph.specs.declared.table.Effect.{Effect}
use Rattle.cw_callgraph.specs.Lowest.{at}
use Rattle.cw_callgraph.specs.Forbidding.{IsLeast, Forbids}
use Rattle.cw_callgraph.specs.Barring.{place_at, barred, or_later, first_barred}
use Rattle.cw_callgraph.specs.Tabled.{AreEffectsOf}
use Rattle.cw_callgraph.specs.Fitting.{MayBeSplit, IsFirstForbidden}
use Rattle.std.proofs.lemmas.Option.{slice_get-get_or as got}

none_now : (o : Option ℕ) (i : ℕ) (later : Option (ℕ × ℕ)) → or_later o i later ≡ None → o ≡ None
none_now None i later e = refl
none_now (Some p) i later e = let z : Some (i, p) ≡ None = e in absurd (cc)

none_later : (o : Option ℕ) (i : ℕ) (later : Option (ℕ × ℕ)) → or_later o i later ≡ None → later ≡ None
none_later None i later e = e
none_later (Some p) i later e = let z : Some (i, p) ≡ None = e in absurd (cc)

-- what holds where there is none
pub at_none : {A : Type 0} (o : Option A) (P : Type 0) → ((n : A) → o ≢ Some n) → IfNone o P → P
at_none None P h p = p
at_none (Some n) P h p = absurd (h n refl)

-- the places of effects, where there are so many
at_entry : (effects : List Effect) (f : ℕ) → f < length effects → (e : Effect) × (slice_get effects f ≡ Some e) × (e.forbids ≡ at (map (λ e. e.forbids) effects) f)
at_entry [] f l = absurd (omega (arith, l))
at_entry (x ∷ xs) zero l = (x, refl, refl)
at_entry (x ∷ xs) (suc f) l = at_entry xs f (omega (arith, l))

-- a name's number is one of a function
pub named_within : (checked : Checked) (name : List ℕ) (f n : ℕ) → number_in (function_names checked.source.now (file_of checked.program)) name ≡ Some f
    → n ≡ length checked.program.functions.items → f < n
named_within checked name f n e count =
    let names = function_names checked.source.now (file_of checked.program) in
    let l : f < length names = index_within (bytes_eq name) names f e in
    let a : length names ≡ length (map definition_of checked.program.functions.items) = length-map (map definition_of checked.program.functions.items) (λ f. text checked.source.now f.name) in
    let b = length-map checked.program.functions.items definition_of in
    omega (arith, l, a, b, count)

module _ (effects : List Effect) (functions : List (List ℕ)) where
  pub passed : (i : ℕ) (names : List (List ℕ)) → first_barred effects functions i names ≡ None → (j : ℕ) (name : List ℕ) → slice_get names j ≡ Some name
      → barred effects functions name ≡ None
  passed i [] e j name at = absurd (none-some name at)
  passed i (x ∷ xs) e zero name at = subst (λ n. barred effects functions n ≡ None) (same_Some x name at) (none_now (barred effects functions x) i (first_barred effects functions (i + 1) xs) e)
  passed i (x ∷ xs) e (suc j) name at = passed (i + 1) xs (none_later (barred effects functions x) i (first_barred effects functions (i + 1) xs) e) j name at

  -- the first name that is barred, counted from i
  pub record IsFirst (i : ℕ) (names : List (List ℕ)) (number place : ℕ) : Type 0 where
    pub index : ℕ
    pub name : List ℕ
    pub counted : number ≡ i + index
    pub named : slice_get names index ≡ Some name
    pub bar : barred effects functions name ≡ Some place
    pub earlier : (j : ℕ) (before : List ℕ) → j < index → slice_get names j ≡ Some before → barred effects functions before ≡ None

  pub first : (i : ℕ) (names : List (List ℕ)) (number place : ℕ) → first_barred effects functions i names ≡ Some (number, place) → IsFirst i names number place
  first i [] number place e = let z : None ≡ Some (number, place) = e in absurd (cc)
  first i (x ∷ xs) number place e = by (barred effects functions x) refl (first (i + 1) xs number place) e
    where
      by : (o : Option ℕ) → barred effects functions x ≡ o → (first_barred effects functions (i + 1) xs ≡ Some (number, place) → IsFirst (i + 1) xs number place)
          → or_later o i (first_barred effects functions (i + 1) xs) ≡ Some (number, place) → IsFirst i (x ∷ xs) number place
      by (Some p) is r e =
          let same : (i, p) ≡ (number, place) = same_Some (i, p) (number, place) e in
          let left : i ≡ number = ap (λ q. q.0) same in
          record {
            index = 0;
            name = x;
            counted = omega (arith, left);
            named = refl;
            bar = is ∙ ap (λ q. Some q.1) same;
            earlier = λ j before l at. absurd (omega (arith, l));
          }
      by None is r e =
          let q = r e in
          let c : number ≡ (i + 1) + q.index = q.counted in
          record { index = suc q.index; name = q.name; counted = omega (arith, c); named = q.named; bar = q.bar; earlier = before_it q }
        where
          before_it : (q : IsFirst (i + 1) xs number place) (j : ℕ) (before : List ℕ) → j < suc q.index → slice_get (x ∷ xs) j ≡ Some before
              → barred effects functions before ≡ None
          before_it q zero before l at = subst (λ n. barred effects functions n ≡ None) (same_Some x before at) is
          before_it q (suc j) before l at = q.earlier j before (omega (arith, l)) at

module _ (checked : Checked) (policy : PlainPolicy) (effects : List Effect) (told : AreEffectsOf checked policy effects) where
  abbrev Bad : ℕ → ℕ → Type 0
  Bad f p = Forbids (names_of policy) checked.source.now (file_of checked.program) f p

  abbrev names : List (List ℕ)
  names = function_names checked.source.now (file_of checked.program)

  within : (name : List ℕ) (f : ℕ) → number_in names name ≡ Some f → f < length effects
  within name f e = named_within checked name f (length effects) e told.count

  least : (name : List ℕ) (f : ℕ) → number_in names name ≡ Some f → IsLeast (Bad f) (at (map (λ e. e.forbids) effects) f)
  least name f e = let q = at_entry effects f (within name f e) in subst (IsLeast (Bad f)) q.2 (told.forbids f q.0 q.1)

  pub may_be : (name : List ℕ) → barred effects names name ≡ None → MayBeSplit checked.source.now (file_of checked.program) (names_of policy) name
  may_be name none f e = subst (IsLeast (Bad f)) (sym (ap (place_at effects) e) ∙ none) (least name f e)

  pub all_may_be : (split : List (List ℕ)) → first_barred effects names 0 split ≡ None
      → All (MayBeSplit checked.source.now (file_of checked.program) (names_of policy)) split
  all_may_be split none = λ k d l. may_be (get_or split k d) (passed effects names 0 split none k (get_or split k d) (got split k d l))

  pub first_forbidden : (split : List (List ℕ)) (number place : ℕ) → first_barred effects names 0 split ≡ Some (number, place)
      → IsFirstForbidden checked.source.now (file_of checked.program) (names_of policy) split number place
  first_forbidden split number place e = by (number_in names q.name) refl
    where
      q : IsFirst effects names 0 split number place
      q = first effects names 0 split number place e

      same : number ≡ q.index
      same = let c : number ≡ 0 + q.index = q.counted in omega (arith, c)

      by : (o : Option ℕ) → number_in names q.name ≡ o → IsFirstForbidden checked.source.now (file_of checked.program) (names_of policy) split number place
      by None is = let z : None ≡ Some place = sym (ap (place_at effects) is) ∙ q.bar in absurd (cc)
      by (Some f) is = record {
        name = q.name;
        named = ap (slice_get split) same ∙ q.named;
        function = f;
        defined = is;
        least = subst (IsLeast (Bad f)) (sym (ap (place_at effects) is) ∙ q.bar) (least q.name f is);
        earlier = λ j before l at. may_be before (q.earlier j before (subst (λ n. j < n) same l) at);
      }

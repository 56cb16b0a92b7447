-- A span more of a form, and the first of what some statements give.
use Rattle.std.proofs.Common.{◌≡◌, ◌<◌, ◌≤◌, ℕ, ◌+◌, List, ◌∷◌, ◌++◌, map, drop, length, get_or, slice_get, Option, Some, refl, sym, ap, ◌∙◌}
use Rattle.std.specs.List.{filter_map}
use Rattle.std.proofs.lemmas.List.{append_assoc, drop_more}
use Rattle.std.proofs.Math.ListN.{drop_of_length-le}
use Rattle.cw_syntax.specs.Names.{slice}
use Rattle.cw_detach.specs.declared.spans.Span.{Span}
use Rattle.cw_detach.specs.Form.{before, behind, form_from}

one_span : (source : List ℕ) (at : ℕ) (s : Span) (ss : List Span) (old : List ℕ)
    → (old ++ (slice source at s.from ++ (before ++ (slice source s.from s.to ++ behind)))) ++ form_from source s.to ss ≡ old ++ form_from source at (s ∷ ss)
unfolding form_from
one_span source at s ss old =
    let rest = form_from source s.to ss in
    let own = slice source s.from s.to in
    append_assoc old (slice source at s.from ++ (before ++ (own ++ behind))) rest
    ∙ ap (λ l. old ++ l) (append_assoc (slice source at s.from) (before ++ (own ++ behind)) rest
    ∙ ap (λ l. slice source at s.from ++ l) (append_assoc before (own ++ behind) rest ∙ ap (λ l. before ++ l) (append_assoc own behind rest)))

pub span_more : (source : List ℕ) (at : ℕ) (spans : List Span) (i : ℕ) (d s : Span) (old new whole : List ℕ) → i < length spans → s ≡ get_or spans i d
    → new ≡ old ++ (slice source at s.from ++ (before ++ (slice source s.from s.to ++ behind)))
    → old ++ form_from source at (drop i spans) ≡ whole → new ++ form_from source s.to (drop (i + 1) spans) ≡ whole
span_more source at spans i d s old new whole lt is new_is before_it =
    let left = drop (i + 1) spans in
    ap (λ l. l ++ form_from source s.to left) new_is ∙ one_span source at s left old
    ∙ ap (λ l. old ++ form_from source at l) (ap (λ x. x ∷ left) is ∙ sym (drop_more spans i d lt)) ∙ before_it

pub all_placed : (source : List ℕ) (at : ℕ) (spans : List Span) (i : ℕ) (old new whole : List ℕ) → length spans ≤ i → new ≡ old ++ drop at source
    → old ++ form_from source at (drop i spans) ≡ whole → new ≡ whole
unfolding form_from
all_placed source at spans i old new whole le new_is before_it =
    new_is ∙ ap (λ l. old ++ form_from source at l) (sym (drop_of_length-le spans le)) ∙ before_it

-- the first that is given
pub first_given : {X Y Z : Type 0} (f : X → Z) (g : Z → Option Y) (xs : List X) (i : ℕ) (x : X) (y : Y) → i < length xs → x ≡ get_or xs i x → g (f x) ≡ Some y
    → Some y ≡ slice_get (filter_map g (map f (drop i xs))) 0
first_given f g xs i x y lt is given =
    sym (ap (λ l. slice_get (filter_map g (map f l)) 0) (drop_more xs i x lt ∙ ap (λ z. z ∷ drop (i + 1) xs) (sym is))
    ∙ rw given refl)

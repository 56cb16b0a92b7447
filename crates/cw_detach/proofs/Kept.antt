-- What the form adds is all that it changes.
use Rattle.std.proofs.Common.{◌≡◌, ◌≤◌, ℕ, ◌+◌, ◌-◌, ◌*◌, List, [], ◌∷◌, ◌++◌, drop, length, refl, sym, ap, ◌∙◌, arith, length-append}
use Rattle.std.proofs.lemmas.List.{drop-drop, take-append-drop}
use Rattle.cw_syntax.specs.Names.{slice}
use Rattle.cw_detach.specs.declared.spans.Span.{Span}
use Rattle.cw_syntax.specs.Trees.{File}
use Rattle.cw_source.specs.Read.{ReadsAs}
use Rattle.cw_detach.specs.Form.{before, behind, form_from, form_of, kept_from, spans, AreApart}
use Rattle.cw_detach.proofs.Apart.{spans_apart}

drop_further : (source : List ℕ) (a b : ℕ) → a ≤ b → drop b source ≡ drop (b - a) (drop a source)
drop_further source a b le = let same : a + (b - a) ≡ b = omega arith in sym (drop-drop (b - a) a source ∙ ap (λ n. drop n source) same)

-- a stretch, and what stands behind it
pub slice_behind : (source : List ℕ) (a b : ℕ) → a ≤ b → slice source a b ++ drop b source ≡ drop a source
slice_behind source a b le = ap (λ l. slice source a b ++ l) (drop_further source a b le) ∙ take-append-drop (b - a) (drop a source)

pub kept_is : (source : List ℕ) (at to : ℕ) (spans : List Span) → AreApart at to spans → kept_from source at spans ≡ drop at source
unfolding kept_from
kept_is source at to [] apart = refl
kept_is source at to (s ∷ ss) apart =
    ap (λ l. slice source at s.from ++ (slice source s.from s.to ++ l)) (kept_is source s.to to ss apart.2)
    ∙ ap (λ l. slice source at s.from ++ l) (slice_behind source s.from s.to apart.1)
    ∙ slice_behind source at s.from apart.0

-- each span adds the two texts
pub longer : (source : List ℕ) (at : ℕ) (spans : List Span) → length (form_from source at spans) ≡ length (kept_from source at spans) + 32 * length spans
unfolding form_from kept_from before behind
longer source at [] = omega arith
longer source at (s ∷ ss) =
    let rest = form_from source s.to ss in
    let kept = kept_from source s.to ss in
    let first = slice source at s.from in
    let own = slice source s.from s.to in
    let up : length rest ≡ length kept + 32 * length ss = longer source s.to ss in
    let thirteen : length before ≡ 13 = refl in
    let nineteen : length behind ≡ 19 = refl in
    omega (
      arith,
      up,
      thirteen,
      nineteen,
      length-append first (before ++ (own ++ (behind ++ rest))),
      length-append before (own ++ (behind ++ rest)),
      length-append own (behind ++ rest),
      length-append behind rest,
      length-append first (own ++ kept),
      length-append own kept,
    )

pub source_kept : (source : List ℕ) (names : List (List ℕ)) (file : File) → ReadsAs source file → kept_from source 0 (spans source names file) ≡ source
source_kept source names file reads = kept_is source 0 (length source) (spans source names file) (spans_apart source names file reads)

pub form_longer : (source : List ℕ) (names : List (List ℕ)) (file : File) → ReadsAs source file → length (form_of source names file) ≡ length source + 32 * length (spans source names file)
unfolding form_of
form_longer source names file reads =
    longer source 0 (spans source names file) ∙ ap (λ l. length l + 32 * length (spans source names file)) (source_kept source names file reads)

-- One part more.
use Rattle.std.proofs.Common.{◌≡◌, ◌≢◌, ℕ, ◌+◌, ◌<◌, List, [], ◌∷◌, ◌++◌, Option, None, Some, length, map, refl, sym, ap, subst, ◌∙◌, arith, inl, inr, Bor, length-append}
use Rattle.std.specs.Prelude.{IfSome, IfNone, option_map}
use Rattle.std.proofs.lemmas.List.{append_cancel_left}
use Rattle.std.specs.List.{AllByRecursion}
use Rattle.cw_emit.specs.Cut.{opening, closing}
use Rattle.cw_syntax.specs.PlainMarks.{HasNone}
use Rattle.cw_woven.specs.declared.parts.Insertion.{Insertion as Held}
use Rattle.cw_woven.specs.Held.{insertion_of, IsPrologue}
use Rattle.cw_woven.specs.Parts.{Insertion, IsCutAt, AreParts}
use Rattle.cw_woven.specs.Woven.{IsSpelling}
use Rattle.cw_woven.specs.Reading.{the_prologue, BeginsParted, IsMark}
use Rattle.cw_woven.proofs.Finding.{closes_behind_lf, none_behind_lf}

parts_on : (text : List ℕ) (ps : List Insertion) (left : List ℕ) (p : Insertion) (remainder after : List ℕ) → AreParts text ps left → IsCutAt opening left p.gap remainder → IsCutAt closing remainder p.inner after → AreParts text (ps ++ p ∷ []) after
parts_on text [] left p remainder after e o c = (remainder, after, subst (λ (z : List ℕ). IsCutAt opening z p.gap remainder) (sym e) o, c, refl)
parts_on text (q ∷ qs) left p remainder after a o c = (a.0, a.1, a.2, a.3, parts_on a.1 qs left p remainder after a.4 o c)

spelled_on : (ps : List Insertion) (p : Insertion) → AllByRecursion (λ (q : Insertion). IsSpelling q.inner) ps → IsSpelling p.inner → AllByRecursion (λ (q : Insertion). IsSpelling q.inner) (ps ++ p ∷ [])
spelled_on [] p all s = (s, tt)
spelled_on (q ∷ qs) p all s = (all.0, spelled_on qs p all.1 s)

map_on : (ps : List Held) (p : Held) → map insertion_of (ps ++ p ∷ []) ≡ map insertion_of ps ++ insertion_of p ∷ []
map_on [] p = refl
map_on (q ∷ qs) p = ap (λ (z : List Insertion). insertion_of q ∷ z) (map_on qs p)

pub begins_on : (text lines : List ℕ) (ps qs : List Held) (left : List ℕ) (p : Held) (remainder after : List ℕ) → BeginsParted text lines (map insertion_of ps) left → qs ≡ ps ++ p ∷ []
    → IsCutAt opening left p.gap.now remainder → IsCutAt closing remainder p.inner.now after → IsSpelling p.inner.now → BeginsParted text lines (map insertion_of qs) after
begins_on text lines ps qs left p remainder after b e o c s =
    let is : map insertion_of ps ++ insertion_of p ∷ [] ≡ map insertion_of qs = sym (map_on ps p) ∙ ap (map insertion_of) (sym e) in
    subst (λ (z : List Insertion). BeginsParted text lines z after) is (record {
      parts = parts_on text (the_prologue lines ∷ map insertion_of ps) left (insertion_of p) remainder after b.parts o c;
      spelled = spelled_on (map insertion_of ps) (insertion_of p) b.spelled s;
    })

cut_length : (needle text front rest : List ℕ) → IsCutAt needle text front rest → length text ≡ length front + (length needle + length rest)
cut_length needle text front rest c = ap length c.cut ∙ length-append front (needle ++ rest) ∙ ap (λ (z : ℕ). length front + z) (length-append needle rest)

pub after_within : (text gap remainder inner after : List ℕ) → IsCutAt opening text gap remainder → IsCutAt closing remainder inner after → length after < length text
after_within text gap remainder inner after o c = let e = cut_length opening text gap remainder o in let f = cut_length closing remainder inner after c in omega (arith, e, f)

-- ---- the prologue

pub prologue_parts : (text remainder lines after : List ℕ) → text ≡ opening ++ (10 ∷ remainder) → IsCutAt closing remainder lines after → AreParts text (the_prologue lines ∷ []) after
prologue_parts text remainder lines after e c = (10 ∷ remainder, after, record { cut = e; first = λ at lt. absurd (omega (arith, lt)) }, closes_behind_lf remainder lines after c, refl)

pub no_closing : (text remainder : List ℕ) → text ≡ opening ++ (10 ∷ remainder) → HasNone closing remainder → IsMark text 0
no_closing text remainder e none = inr (inl (refl, remainder, e, none_behind_lf remainder none))

pub prologue_answer : (text remainder : List ℕ) (r : Option (Bor (List ℕ) × Bor (List ℕ))) → text ≡ opening ++ (10 ∷ remainder) → IfSome r (λ p. IsCutAt closing remainder p.0.now p.1.now) → IfNone r (HasNone closing remainder) → IsPrologue text (option_map (λ p. (p.0.now, p.1.now)) r)
prologue_answer text remainder None e some none = no_closing text remainder e none
prologue_answer text remainder (Some p) e some none = prologue_parts text remainder p.0.now p.1.now e some

-- ---- a front and a back

pub not_between : {A : Type 0} (front back bytes rest : List ℕ) (r : Option A) → bytes ≡ front ++ rest → IfNone r ((head : List ℕ) → rest ≢ head ++ back) → IfNone r ((middle : List ℕ) → bytes ≢ front ++ (middle ++ back))
not_between front back bytes rest None e h = λ middle f. h middle (append_cancel_left front rest (middle ++ back) (sym e ∙ f))
not_between front back bytes rest (Some x) e h = tt

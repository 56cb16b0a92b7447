-- One mark after the other.
use Rattle.std.proofs.Common.{◌≡◌, ℕ, ◌+◌, ◌-◌, ◌<◌, ◌≤◌, List, ◌∷◌, ◌++◌, length, take, drop, map, get_or, refl, sym, ap, ◌∙◌, append_assoc, add-one, drop-cons}
use Rattle.std.proofs.Math.ListN.{drop_of_length-le}
use Rattle.cw_rights.specs.Policies.{PlainPolicy}
use Rattle.cw_syntax.specs.declared.marks.SeamMark.{SeamMark as Held}
use Rattle.cw_syntax.specs.Marks.{mark_of, AreInOrder}
use Rattle.cw_emit.specs.Cut.{part}
use Rattle.cw_emit.specs.Woven.{spelled, woven_from}

marks_step : (ms : List Held) (i : ℕ) (m : Held) → i < length ms → m ≡ get_or ms i m → map mark_of (drop i ms) ≡ mark_of m ∷ map mark_of (drop (i + 1) ms)
marks_step ms i m lt is =
    let e : drop i ms ≡ get_or ms i m ∷ drop (i + 1) ms = rw add-one (drop-cons ms i m lt) in
    ap (map mark_of) e ∙ ap (λ (z : Held). mark_of z ∷ map mark_of (drop (i + 1) ms)) (sym is)

pub woven_step : (policy : PlainPolicy) (source : List ℕ) (at : ℕ) (ms : List Held) (i : ℕ) (m : Held) → i < length ms → m ≡ get_or ms i m
    → woven_from policy source at (map mark_of (drop i ms)) ≡ take (m.place - at) (drop at source) ++ (part (spelled policy source (mark_of m)) ++ woven_from policy source m.place (map mark_of (drop (i + 1) ms)))
unfolding woven_from
woven_step policy source at ms i m lt is = rw (marks_step ms i m lt is) refl

pub woven_end : (policy : PlainPolicy) (source : List ℕ) (at : ℕ) (ms : List Held) (i : ℕ) → length ms ≤ i → woven_from policy source at (map mark_of (drop i ms)) ≡ drop at source
unfolding woven_from
woven_end policy source at ms i le = rw (drop_of_length-le ms le) refl

pub order_now : (at len : ℕ) (ms : List Held) (i : ℕ) (m : Held) → i < length ms → m ≡ get_or ms i m → AreInOrder at len (map mark_of (drop i ms)) → (at ≤ m.place) × (m.place ≤ len) × AreInOrder m.place len (map mark_of (drop (i + 1) ms))
order_now at len ms i m lt is order = rw (marks_step ms i m lt is) at order

-- what was put so far, the source up to the mark, and the mark
pub regroup : (now a b rest whole mid new left : List ℕ) → mid ≡ now ++ a → new ≡ mid ++ b → left ≡ a ++ (b ++ rest) → now ++ left ≡ whole → new ++ rest ≡ whole
regroup now a b rest whole mid new left front mark both all =
    rw (mark, front) (append_assoc (now ++ a) b rest ∙ append_assoc now a (b ++ rest) ∙ ap (λ (z : List ℕ). now ++ z) (sym both) ∙ all)

pub last_piece : (now left rest new whole : List ℕ) → new ≡ now ++ rest → left ≡ rest → now ++ left ≡ whole → new ≡ whole
last_piece now left rest new whole put end all = put ∙ ap (λ (z : List ℕ). now ++ z) (sym end) ∙ all

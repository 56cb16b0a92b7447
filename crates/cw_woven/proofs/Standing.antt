-- What is read stands for its source and table.
use Rattle.std.proofs.Common.{◌≡◌, ℕ, ◌+◌, ◌-◌, List, [], ◌∷◌, ◌++◌, length, take, drop, map, refl, sym, ap, subst, ◌∙◌, append_assoc, arith, length-append}
use Rattle.std.specs.Prelude.{codes}
use Rattle.std.proofs.Math.Seq.{take-append_seam, drop-append_seam}
use Rattle.cw_rights.specs.Policies.{PlainPolicy}
use Rattle.cw_syntax.specs.Trees.{File}
use Rattle.cw_syntax.specs.Marks.{SeamMark}
use Rattle.cw_certs.specs.Tables.{Table}
use Rattle.cw_emit.specs.Cut.{opening, closing, part}
use Rattle.cw_emit.specs.Woven.{placed, prologue, spelled, woven_from, Stands}
use Rattle.cw_woven.specs.Parts.{Insertion, IsCutAt, AreParts, without, places_from}
use Rattle.cw_woven.specs.Reading.{ReadsWoven, seam_marks}

part_is : (text gap remainder inner after : List ℕ) → IsCutAt opening text gap remainder → IsCutAt closing remainder inner after → text ≡ gap ++ (part inner ++ after)
part_is text gap remainder inner after o c =
    o.cut ∙ ap (λ (z : List ℕ). gap ++ (opening ++ z)) (c.cut ∙ sym (append_assoc inner closing after)) ∙ ap (λ (z : List ℕ). gap ++ z) (sym (append_assoc opening (inner ++ closing) after))

-- the place behind a front
drop_behind : (at : ℕ) (before gap rest source : List ℕ) → source ≡ before ++ (gap ++ rest) → length before ≡ at → take (at + length gap - at) (drop at source) ≡ gap
drop_behind at before gap rest source e f =
    let d : drop at source ≡ gap ++ rest = ap (drop at) e ∙ ap (λ (n : ℕ). drop n (before ++ (gap ++ rest))) (sym f) ∙ drop-append_seam before (gap ++ rest) in
    let k : at + length gap - at ≡ length gap = omega arith in
    ap (λ (z : List ℕ). take (at + length gap - at) z) d ∙ ap (λ (n : ℕ). take n (gap ++ rest)) k ∙ take-append_seam gap rest

pub woven_is : (policy : PlainPolicy) (source : List ℕ) (ps : List Insertion) (ms : List SeamMark) (text before left : List ℕ) (at : ℕ)
    → AreParts text ps left → source ≡ before ++ without ps left → length before ≡ at → places_from at ps ≡ map (placed policy source) ms
    → text ≡ woven_from policy source at ms
unfolding woven_from
woven_is policy source [] [] text before left at a e f g = a ∙ sym (ap (drop at) e ∙ ap (λ (n : ℕ). drop n (before ++ left)) (sym f) ∙ drop-append_seam before left)
woven_is policy source [] (m ∷ ms) text before left at a e f g = absurd cc
woven_is policy source (p ∷ ps) [] text before left at a e f g = absurd cc
woven_is policy source (p ∷ ps) (m ∷ ms) text before left at a e f g =
    let first : (at + length p.gap, p.inner) ≡ (m.place, spelled policy source m) = cc in
    let others : places_from (at + length p.gap) ps ≡ map (placed policy source) ms = cc in
    let place : at + length p.gap ≡ m.place = ap (λ (z : ℕ × List ℕ). z.0) first in
    let inner : p.inner ≡ spelled policy source m = ap (λ (z : ℕ × List ℕ). z.1) first in
    let front : take (m.place - at) (drop at source) ≡ p.gap = ap (λ (n : ℕ). take (n - at) (drop at source)) (sym place) ∙ drop_behind at before p.gap (without ps left) source e f in
    let behind : a.1 ≡ woven_from policy source m.place ms =
    subst (λ (n : ℕ). a.1 ≡ woven_from policy source n ms) place
    (woven_is policy source ps ms a.1 (before ++ p.gap) left (at + length p.gap) a.4 (e ∙ sym (append_assoc before p.gap (without ps left))) (length-append before p.gap ∙ ap (λ (n : ℕ). n + length p.gap) f) others) in
    part_is text p.gap a.0 p.inner a.1 a.2 a.3
    ∙ ap (λ (z : List ℕ). z ++ (part p.inner ++ a.1)) (sym front)
    ∙ ap (λ (z : List ℕ). take (m.place - at) (drop at source) ++ (part z ++ a.1)) inner
    ∙ ap (λ (z : List ℕ). take (m.place - at) (drop at source) ++ (part (spelled policy source m) ++ z)) behind

pub stands : (policy : PlainPolicy) (text source : List ℕ) (file : File) (table : Table) → ReadsWoven policy text source file table → Stands text source (seam_marks policy source file) table policy
stands policy text source file table r =
    let parts = r.has.parted.begins.parts in
    part_is text [] parts.0 (codes "\n" ++ r.has.lines) parts.1 parts.2 parts.3
    ∙ ap (λ (z : List ℕ). part (codes "\n" ++ z) ++ parts.1) r.has.spells.spelled
    ∙ ap (λ (z : List ℕ). prologue policy table ++ z) (woven_is policy source r.marks (seam_marks policy source file) parts.1 [] r.left 0 parts.4 r.is refl r.placed)

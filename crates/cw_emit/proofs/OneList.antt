-- What is woven tells the places of its marks and how they are spelled.
use Rattle.std.proofs.Common.{◌≡◌, ℕ, ◌-◌, ◌≤◌, min, true, List, [], ◌∷◌, ◌++◌, length, take, drop, map, refl, sym, ap, subst, ◌∙◌, arith, length-take, length-drop}
use Rattle.std.specs.Prelude.{not, nat_eq, codes}
use Rattle.std.specs.List.{starts_with}
use Rattle.std.proofs.Math.Seq.{drop-append_seam}
use Rattle.std.proofs.lemmas.Bool.{and_parts, true≢false}
use Rattle.std.proofs.lemmas.List.{append_cancel_left}
use Rattle.cw_rights.specs.Policies.{PlainPolicy}
use Rattle.cw_syntax.specs.Marks.{SeamMark, AreInOrder}
use Rattle.cw_certs.specs.Tables.{Table}
use Rattle.cw_table_text.specs.TablesText.{tables_text}
use Rattle.cw_emit.specs.Cut.{opening, part}
use Rattle.cw_emit.specs.Woven.{spelled, placed, woven_from, woven, prologue, ArePlainNames, StandsPlainly}
use Rattle.cw_syntax.specs.PlainMarks.{ArePlainMarks}
use Rattle.cw_emit.proofs.Slashes.{plain_spelled, plain_lines}
use Rattle.cw_emit.proofs.Openings.{is_free, free_from_none, free_drop, free_take, no_opening}
use Rattle.cw_lemmas.proofs.Texts.{starts_front as starts_again}
use Rattle.cw_emit.proofs.Cutting.{others_plain, same_part, source_is_one}

free_tail : (b : ℕ) (bs : List ℕ) → is_free (b ∷ bs) ≡ true → is_free bs ≡ true
free_tail b bs free = (and_parts (not (starts_with nat_eq (b ∷ bs) (codes "cw{*"))) (is_free bs) free).1

begins_not : (c : ℕ) (b x y : List ℕ) → is_free (c ∷ b) ≡ true → opening ++ x ≡ c ∷ (b ++ (opening ++ y)) → ⊥
begins_not c b x y free e = no_opening c b (opening ++ y) free refl (ap (λ (z : List ℕ). starts_with nat_eq z opening) (sym e) ∙ starts_again opening x)

-- what stands before the first opening
before_opening : (a b x y : List ℕ) → is_free a ≡ true → is_free b ≡ true → a ++ (opening ++ x) ≡ b ++ (opening ++ y) → a ≡ b
before_opening [] [] x y p q e = refl
before_opening [] (c ∷ b) x y p q e = absurd (begins_not c b x y q e)
before_opening (c ∷ a) [] x y p q e = absurd (begins_not c a y x p (sym e))
before_opening (c ∷ a) (d ∷ b) x y p q e =
    let f : c ≡ d = cc in
    let g : a ++ (opening ++ x) ≡ b ++ (opening ++ y) = cc in
    let h : a ≡ b = before_opening a b x y (free_tail c a p) (free_tail d b q) g in
    cc

has_no_part : (a b x : List ℕ) → is_free a ≡ true → a ≡ b ++ (opening ++ x) → ⊥
has_no_part a b x free e =
    let rest : drop (length b) a ≡ opening ++ x = ap (drop (length b)) e ∙ drop-append_seam b (opening ++ x) in
    true≢false (sym (free_drop (length b) a free) ∙ ap is_free rest)

same_length : (at k l : ℕ) (s : List ℕ) → at ≤ k → k ≤ length s → at ≤ l → l ≤ length s → take (k - at) (drop at s) ≡ take (l - at) (drop at s) → k ≡ l
same_length at k l s p q r t e =
    let one : length (take (k - at) (drop at s)) ≡ min (k - at) (length (drop at s)) = length-take (k - at) (drop at s) in
    let two : length (take (l - at) (drop at s)) ≡ min (l - at) (length (drop at s)) = length-take (l - at) (drop at s) in
    let both : length (take (k - at) (drop at s)) ≡ length (take (l - at) (drop at s)) = ap length e in
    omega (arith, one, two, both, length-drop at s, p, q, r, t)

same_marks : (policy : PlainPolicy) (s : List ℕ) (ms ns : List SeamMark) (at : ℕ) → is_free s ≡ true → ArePlainNames policy → ArePlainMarks s ms → ArePlainMarks s ns → AreInOrder at (length s) ms → AreInOrder at (length s) ns
    → woven_from policy s at ms ≡ woven_from policy s at ns → map (placed policy s) ms ≡ map (placed policy s) ns
unfolding woven_from
same_marks policy s [] [] at free names p q o w e = refl
same_marks policy s [] (n ∷ ns) at free names p q o w e = absurd (has_no_part (drop at s) (take (n.place - at) (drop at s)) _ (free_drop at s free) e)
same_marks policy s (m ∷ ms) [] at free names p q o w e = absurd (has_no_part (drop at s) (take (m.place - at) (drop at s)) _ (free_drop at s free) (sym e))
same_marks policy s (m ∷ ms) (n ∷ ns) at free names p q o w e =
    let front = before_opening (take (m.place - at) (drop at s)) (take (n.place - at) (drop at s)) _ _ (free_take (m.place - at) (drop at s) (free_drop at s free)) (free_take (n.place - at) (drop at s) (free_drop at s free)) e in
    let place : m.place ≡ n.place = same_length at m.place n.place s o.0 o.1 w.0 w.1 front in
    let parts : part (spelled policy s m) ++ woven_from policy s m.place ms ≡ part (spelled policy s n) ++ woven_from policy s n.place ns =
    append_cancel_left (take (n.place - at) (drop at s)) _ _ (rw front at e) in
    let spelling : spelled policy s m ≡ spelled policy s n = same_part (spelled policy s m) (spelled policy s n) _ _ (plain_spelled policy s m names (p 0 m (omega arith))) (plain_spelled policy s n names (q 0 n (omega arith))) parts in
    let rest : woven_from policy s m.place ms ≡ woven_from policy s n.place ns = append_cancel_left (part (spelled policy s n)) _ _ (rw spelling at parts) in
    let others : map (placed policy s) ms ≡ map (placed policy s) ns = same_marks policy s ms ns n.place free names (others_plain s m ms p) (others_plain s n ns q) (rw place at o.2) w.2 (rw place at rest) in
    let first : placed policy s m ≡ placed policy s n = λ i. (place i, spelling i) in
    λ i. first i ∷ others i

pub marks_are_one : (text source other : List ℕ) (marks others : List SeamMark) (table table2 : Table) (policy : PlainPolicy) → StandsPlainly text source marks table policy → StandsPlainly text other others table2 policy → map (placed policy source) marks ≡ map (placed policy other) others
marks_are_one text source other marks others table table2 policy s t =
    let same : source ≡ other = source_is_one text source other marks others table table2 policy policy s t in
    let u : StandsPlainly text source others table2 policy = subst (λ (z : List ℕ). StandsPlainly text z others table2 policy) (sym same) t in
    let both : prologue policy table ++ woven policy source marks ≡ prologue policy table2 ++ woven policy source others = sym s.stands ∙ u.stands in
    let front : List ℕ = codes "\n" ++ tables_text policy table in
    let back : List ℕ = codes "\n" ++ tables_text policy table2 in
    let lines : front ≡ back = same_part front back _ _ (plain_lines policy table s.names) (plain_lines policy table2 t.names) both in
    let rests : woven policy source marks ≡ woven policy source others = append_cancel_left (prologue policy table2) _ _ (ap (λ (z : List ℕ). part z ++ woven policy source marks) (sym lines) ∙ both) in
    same_marks policy source marks others 0 (free_from_none source s.free) s.names s.marked u.marked s.order u.order rests ∙ ap (λ (z : List ℕ). map (placed policy z) others) same

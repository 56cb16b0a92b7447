-- What is woven is cut back to the source.
use Rattle.std.proofs.Common.{◌≡◌, ℕ, suc, ◌+◌, ◌-◌, true, false, List, [], ◌∷◌, ◌++◌, length, take, drop, refl, sym, ap, ◌∙◌, append_assoc, arith, drop-drop}
use Rattle.std.specs.Prelude.{not, ◌==◌, codes}
use Rattle.std.proofs.lemmas.Bool.{and_parts, true≢false, eq-eqb}
use Rattle.std.proofs.lemmas.List.{append-nil, append_cancel_left, take-append-drop}
use Rattle.cw_rights.specs.Policies.{PlainPolicy}
use Rattle.cw_syntax.specs.Marks.{SeamMark, AreInOrder}
use Rattle.cw_certs.specs.Tables.{Table}
use Rattle.cw_table_text.specs.TablesText.{tables_text}
use Rattle.cw_emit.specs.Cut.{closing, cut_from, cut, part}
use Rattle.cw_syntax.specs.PlainMarks.{HasNone}
use Rattle.cw_emit.specs.Woven.{spelled, woven_from, woven, prologue, ArePlainNames, StandsPlainly}
use Rattle.cw_syntax.specs.PlainMarks.{ArePlainMarks}
use Rattle.cw_emit.proofs.Slashes.{is_plain, plain_spelled, plain_lines}
use Rattle.cw_emit.proofs.Openings.{is_free, free_from_none, free_cut, free_drop, free_take, part_cut}

ends : (a : List ℕ) → a ++ cut_from 0 false [] ≡ a
unfolding cut_from
ends a = append-nil a

pub others_plain : (source : List ℕ) (m : SeamMark) (ms : List SeamMark) → ArePlainMarks source (m ∷ ms) → ArePlainMarks source ms
others_plain source m ms plain k d lt = plain (suc k) d (omega (arith, lt))

woven_cut : (policy : PlainPolicy) (source : List ℕ) (ms : List SeamMark) (at : ℕ) → is_free source ≡ true → ArePlainNames policy → ArePlainMarks source ms → AreInOrder at (length source) ms → cut (woven_from policy source at ms) ≡ drop at source
unfolding woven_from
woven_cut policy source [] at free names plain order =
    ap (cut_from 0 false) (sym (append-nil (drop at source))) ∙ free_cut (drop at source) [] (free_drop at source free) tt ∙ ends (drop at source)
woven_cut policy source (m ∷ ms) at free names plain order =
    let k : ℕ = m.place - at in
    let front : List ℕ = take k (drop at source) in
    let rest : List ℕ = woven_from policy source m.place ms in
    let e : at + k ≡ m.place = let p = order.0 in omega (arith, p) in
    let others : cut rest ≡ drop m.place source = woven_cut policy source ms m.place free names (others_plain source m ms plain) order.2 in
    let tail : drop k (drop at source) ≡ drop m.place source = drop-drop k at source ∙ ap (λ (z : ℕ). drop z source) e in
    free_cut front (part (spelled policy source m) ++ rest) (free_take k (drop at source) (free_drop at source free)) refl
    ∙ ap (λ (z : List ℕ). front ++ z) (part_cut (spelled policy source m) rest (plain_spelled policy source m names (plain 0 m (omega arith))) ∙ others ∙ sym tail)
    ∙ take-append-drop k (drop at source)

pub cut_of_woven : (policy : PlainPolicy) (table : Table) (source : List ℕ) (ms : List SeamMark) → HasNone (codes "cw{*") source → ArePlainNames policy → ArePlainMarks source ms → AreInOrder 0 (length source) ms → cut (prologue policy table ++ woven policy source ms) ≡ source
cut_of_woven policy table source ms none names plain order =
    part_cut (codes "\n" ++ tables_text policy table) (woven policy source ms) (plain_lines policy table names)
    ∙ woven_cut policy source ms 0 (free_from_none source none) names plain order

cut_is : (text source : List ℕ) (ms : List SeamMark) (table : Table) (policy : PlainPolicy) → StandsPlainly text source ms table policy → cut text ≡ source
cut_is text source ms table policy s = ap cut s.stands ∙ cut_of_woven policy table source ms s.free s.names s.marked s.order

pub source_is_one : (text source other : List ℕ) (marks others : List SeamMark) (table table2 : Table) (policy policy2 : PlainPolicy) → StandsPlainly text source marks table policy → StandsPlainly text other others table2 policy2 → source ≡ other
source_is_one text source other marks others table table2 policy policy2 s t = sym (cut_is text source marks table policy s) ∙ cut_is text other others table2 policy2 t

-- what stands before the first slash
before_slash : (a b x y : List ℕ) → is_plain a ≡ true → is_plain b ≡ true → a ++ 47 ∷ x ≡ b ++ 47 ∷ y → a ≡ b
before_slash [] [] x y p q e = refl
before_slash [] (c ∷ b) x y p q e = let f : c ≡ 47 = cc in absurd (true≢false (sym (and_parts (not (c == 47)) (is_plain b) q).0 ∙ ap not (eq-eqb c 47 f)))
before_slash (c ∷ a) [] x y p q e = let f : c ≡ 47 = cc in absurd (true≢false (sym (and_parts (not (c == 47)) (is_plain a) p).0 ∙ ap not (eq-eqb c 47 f)))
before_slash (c ∷ a) (d ∷ b) x y p q e =
    let f : c ≡ d = cc in
    let g : a ++ 47 ∷ x ≡ b ++ 47 ∷ y = cc in
    let h : a ≡ b = before_slash a b x y (and_parts (not (c == 47)) (is_plain a) p).1 (and_parts (not (d == 47)) (is_plain b) q).1 g in
    cc

part_shape : (a x : List ℕ) → drop 7 (part a ++ x) ≡ a ++ 47 ∷ (drop 1 closing ++ x)
part_shape a x = append_assoc a closing x

pub same_part : (a b x y : List ℕ) → is_plain a ≡ true → is_plain b ≡ true → part a ++ x ≡ part b ++ y → a ≡ b
same_part a b x y p q e = before_slash a b (drop 1 closing ++ x) (drop 1 closing ++ y) p q (sym (part_shape a x) ∙ ap (drop 7) e ∙ part_shape b y)

pub table_text_is_one : (text source other : List ℕ) (marks others : List SeamMark) (table table2 : Table) (policy : PlainPolicy) → StandsPlainly text source marks table policy → StandsPlainly text other others table2 policy → tables_text policy table ≡ tables_text policy table2
table_text_is_one text source other marks others table table2 policy s t =
    let lines = same_part (codes "\n" ++ tables_text policy table) (codes "\n" ++ tables_text policy table2) (woven policy source marks) (woven policy other others) (plain_lines policy table s.names) (plain_lines policy table2 t.names) (sym s.stands ∙ t.stands) in
    append_cancel_left (codes "\n") (tables_text policy table) (tables_text policy table2) lines

-- A text has one list of parts, and so one source, one table's text and one list of marks.
use Rattle.std.proofs.Common.{◌≡◌, ℕ, ◌<◌, true, List, [], ◌∷◌, ◌++◌, ◌⊎◌, inl, inr, length, take, drop, map, refl, sym, ap, subst, ◌∙◌, nat_eq}
use Rattle.std.specs.List.{starts_with}
use Rattle.std.proofs.Math.Seq.{take-append_seam, drop-append_seam}
use Rattle.std.proofs.lemmas.Bool.{true≢false, cases_order}
use Rattle.std.proofs.lemmas.List.{append_cancel_left}
use Rattle.cw_rights.specs.Policies.{PlainPolicy}
use Rattle.cw_syntax.specs.Trees.{File}
use Rattle.cw_certs.specs.Tables.{Table}
use Rattle.cw_emit.specs.Cut.{opening, closing}
use Rattle.cw_syntax.specs.PlainMarks.{HasNone}
use Rattle.cw_lemmas.proofs.Texts.{starts_front as starts_again}
use Rattle.cw_emit.specs.Woven.{placed}
use Rattle.cw_table_text.specs.TablesText.{tables_text}
use Rattle.cw_woven.specs.Parts.{Insertion, IsCutAt, AreParts, without, places}
use Rattle.cw_woven.specs.Reading.{the_prologue, ReadsWoven, seam_marks}

stands_there : (needle text front rest : List ℕ) → text ≡ front ++ (needle ++ rest) → starts_with nat_eq (drop (length front) text) needle ≡ true
stands_there needle text front rest e = ap (λ (z : List ℕ). starts_with nat_eq z needle) (ap (drop (length front)) e ∙ drop-append_seam front (needle ++ rest)) ∙ starts_again needle rest

not_earlier : (needle text f g r s : List ℕ) → IsCutAt needle text f r → IsCutAt needle text g s → length f < length g → ⊥
not_earlier needle text f g r s c d lt = true≢false (sym (stands_there needle text f r c.cut) ∙ d.first (length f) lt)

same_length : (needle text f g r s : List ℕ) → IsCutAt needle text f r → IsCutAt needle text g s → length f ≡ length g
same_length needle text f g r s c d = by_order (cases_order (length f) (length g))
  where
    by_order : (length f ≡ length g) ⊎ ((length f < length g) ⊎ (length g < length f)) → length f ≡ length g
    by_order (inl e) = e
    by_order (inr (inl lt)) = absurd (not_earlier needle text f g r s c d lt)
    by_order (inr (inr gt)) = absurd (not_earlier needle text g f s r d c gt)

front_is : (text front rest : List ℕ) → text ≡ front ++ rest → take (length front) text ≡ front
front_is text front rest e = ap (take (length front)) e ∙ take-append_seam front rest

pub one_front : (needle text f g r s : List ℕ) → IsCutAt needle text f r → IsCutAt needle text g s → f ≡ g
one_front needle text f g r s c d = sym (front_is text f (needle ++ r) c.cut) ∙ ap (λ (n : ℕ). take n text) (same_length needle text f g r s c d) ∙ front_is text g (needle ++ s) d.cut

pub one_rest : (needle text f g r s : List ℕ) → IsCutAt needle text f r → IsCutAt needle text g s → r ≡ s
one_rest needle text f g r s c d =
    let same : f ++ (needle ++ r) ≡ f ++ (needle ++ s) = sym c.cut ∙ d.cut ∙ ap (λ (z : List ℕ). z ++ (needle ++ s)) (sym (one_front needle text f g r s c d)) in
    append_cancel_left needle r s (append_cancel_left f (needle ++ r) (needle ++ s) same)

none_opens : (text gap remainder : List ℕ) → IsCutAt opening text gap remainder → HasNone opening text → ⊥
none_opens text gap remainder c none = true≢false (sym (stands_there opening text gap remainder c.cut) ∙ none (length gap))

pub one_source : (text : List ℕ) (ps qs : List Insertion) (left other : List ℕ) → AreParts text ps left → HasNone opening left → AreParts text qs other → HasNone opening other → (ps ≡ qs) × (left ≡ other)
one_source text [] [] left other a n b m = (refl, sym a ∙ b)
one_source text [] (q ∷ qs) left other a n b m = absurd (none_opens text q.gap b.0 b.2 (subst (HasNone opening) (sym a) n))
one_source text (p ∷ ps) [] left other a n b m = absurd (none_opens text p.gap a.0 a.2 (subst (HasNone opening) (sym b) m))
one_source text (p ∷ ps) (q ∷ qs) left other a n b m =
    let gap : p.gap ≡ q.gap = one_front opening text p.gap q.gap a.0 b.0 a.2 b.2 in
    let remainder : a.0 ≡ b.0 = one_rest opening text p.gap q.gap a.0 b.0 a.2 b.2 in
    let c : IsCutAt closing b.0 p.inner a.1 = subst (λ (z : List ℕ). IsCutAt closing z p.inner a.1) remainder a.3 in
    let inner : p.inner ≡ q.inner = one_front closing b.0 p.inner q.inner a.1 b.1 c b.3 in
    let after : a.1 ≡ b.1 = one_rest closing b.0 p.inner q.inner a.1 b.1 c b.3 in
    let others = one_source b.1 ps qs left other (subst (λ (z : List ℕ). AreParts z ps left) after a.4) n b.4 m in
    let first : p ≡ q = λ i. record { gap = gap i; inner = inner i } in
    let rest : ps ≡ qs = others.0 in
    (λ i. first i ∷ rest i, others.1)

pub read_as_one : (policy other : PlainPolicy) (text source source2 : List ℕ) (file file2 : File) (table table2 : Table) → ReadsWoven policy text source file table → ReadsWoven other text source2 file2 table2 → source ≡ source2
read_as_one policy other text source source2 file file2 table table2 r s =
    let same = one_source text (the_prologue r.has.lines ∷ r.marks) (the_prologue s.has.lines ∷ s.marks) r.left s.left r.has.parted.begins.parts r.has.parted.whole s.has.parted.begins.parts s.has.parted.whole in
    let marks : r.marks ≡ s.marks = ap (drop 1) same.0 in
    let left : r.left ≡ s.left = same.1 in
    r.is ∙ ap (λ (z : List Insertion). without z r.left) marks ∙ ap (without s.marks) left ∙ sym s.is

unfoldable pub head_inner : List Insertion → List ℕ
head_inner [] = []
head_inner (p ∷ ps) = p.inner

pub one_table_text : (policy : PlainPolicy) (text source source2 : List ℕ) (file file2 : File) (table table2 : Table) → ReadsWoven policy text source file table → ReadsWoven policy text source2 file2 table2 → tables_text policy table ≡ tables_text policy table2
unfolding head_inner
one_table_text policy text source source2 file file2 table table2 r s =
    let same = one_source text (the_prologue r.has.lines ∷ r.marks) (the_prologue s.has.lines ∷ s.marks) r.left s.left r.has.parted.begins.parts r.has.parted.whole s.has.parted.begins.parts s.has.parted.whole in
    let lines : r.has.lines ≡ s.has.lines = ap (λ (z : List Insertion). drop 1 (head_inner z)) same.0 in
    sym r.has.spells.spelled ∙ lines ∙ s.has.spells.spelled

pub one_list_of_marks : (policy other : PlainPolicy) (text source source2 : List ℕ) (file file2 : File) (table table2 : Table) → ReadsWoven policy text source file table → ReadsWoven other text source2 file2 table2
    → map (placed policy source) (seam_marks policy source file) ≡ map (placed other source2) (seam_marks other source2 file2)
one_list_of_marks policy other text source source2 file file2 table table2 r s =
    let same = one_source text (the_prologue r.has.lines ∷ r.marks) (the_prologue s.has.lines ∷ s.marks) r.left s.left r.has.parted.begins.parts r.has.parted.whole s.has.parted.begins.parts s.has.parted.whole in
    let marks : r.marks ≡ s.marks = ap (drop 1) same.0 in
    sym r.placed ∙ ap places marks ∙ s.placed

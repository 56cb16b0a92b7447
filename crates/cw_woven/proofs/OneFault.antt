-- A text has one fault at most, want of memory left aside.
use Rattle.std.proofs.Common.{◌≡◌, ◌≢◌, ◌⊎◌, ℕ, ◌+◌, ◌<◌, ◌≤◌, List, [], ◌∷◌, ◌++◌, length, drop, map, None, Some, refl, sym, ap, subst, ◌∙◌, inl, inr, arith}
use Rattle.std.specs.Prelude.{codes, slice_get}
use Rattle.std.specs.List.{AllByRecursion}
use Rattle.std.proofs.lemmas.Bool.{cases_order}
use Rattle.std.proofs.lemmas.List.{append_cancel_left}
use Rattle.std.proofs.lemmas.Option.{none-some, same_Some}
use Rattle.cw_rights.specs.Policies.{PlainPolicy}
use Rattle.cw_rights.specs.Valid.{IsValid}
use Rattle.cw_syntax.specs.Trees.{File}
use Rattle.cw_certs.specs.Tables.{Table}
use Rattle.cw_scope.specs.Descriptors.{descriptor_fault}
use Rattle.cw_source.specs.declared.fault.SourceFault.{SourceFault}
use Rattle.cw_source.specs.declared.fault.SourceFault.TheVariants as read
use Rattle.cw_source.specs.Read.{IsFaultOf}
use Rattle.cw_source.proofs.OneAnswer.{one_program, one_fault as one_source_fault}
use Rattle.cw_text.specs.declared.fault.TextFault.{TextFault}
use Rattle.cw_table_text.specs.Grammar.{Spells, IsFault as IsTableFault}
use Rattle.cw_table_text.proofs.OneAnswer.{one_fault as one_table_fault, not_both}
use Rattle.cw_table_text.proofs.PlainLimits.{limits_free, small_format}
use Rattle.cw_emit.specs.Cut.{opening, closing}
use Rattle.cw_syntax.specs.PlainMarks.{HasNone}
use Rattle.cw_emit.specs.Woven.{placed}
use Rattle.cw_woven.specs.declared.fault.CutFault.{CutFault}
use Rattle.cw_woven.specs.declared.fault.CutFault.TheVariants as cut
use Rattle.cw_woven.specs.declared.fault.WovenFault.{WovenFault}
use Rattle.cw_woven.specs.declared.fault.WovenFault.TheVariants as fault
use Rattle.cw_woven.specs.Parts.{Insertion, IsCutAt, AreParts, without, places}
use Rattle.cw_woven.specs.Woven.{IsSpelling}
use Rattle.cw_woven.specs.Reading.{the_prologue, Begins, BeginsParted, HasTable, IsAccepted, IsCutFault, IsFault, IsFirstDifference, IsMark, IsNoMark, IsParted, IsRead, seam_marks}
use Rattle.cw_woven.proofs.Apart.{none_stands, no_mark, no_mark_fault, no_read_fault, no_cut_fault}
use Rattle.cw_woven.proofs.OneReading.{head_inner, one_rest, one_source}

-- ---- the first opening at fault

-- behind parts that are marks the first one that is none is one
bad_one : (text : List ℕ) (ps qs : List Insertion) (left other gap gap2 remainder remainder2 : List ℕ) → AreParts text ps left → AreParts text qs other
    → AllByRecursion (λ (p : Insertion). IsSpelling p.inner) ps → AllByRecursion (λ (p : Insertion). IsSpelling p.inner) qs
    → IsCutAt opening left gap remainder → IsCutAt opening other gap2 remainder2 → IsNoMark remainder → IsNoMark remainder2 → remainder ≡ remainder2
bad_one text [] [] left other gap gap2 remainder remainder2 a b s t c d m n =
    one_rest opening text gap gap2 remainder remainder2 (subst (λ (z : List ℕ). IsCutAt opening z gap remainder) (sym a) c) (subst (λ (z : List ℕ). IsCutAt opening z gap2 remainder2) (sym b) d)
bad_one text [] (q ∷ qs) left other gap gap2 remainder remainder2 a b s t c d m n =
    let same = one_rest opening text gap q.gap remainder b.0 (subst (λ (z : List ℕ). IsCutAt opening z gap remainder) (sym a) c) b.2 in
    absurd (no_mark remainder (record { inner = q.inner; after = b.1; closes = subst (λ (z : List ℕ). IsCutAt closing z q.inner b.1) (sym same) b.3; spelled = t.0 }) m)
bad_one text (p ∷ ps) [] left other gap gap2 remainder remainder2 a b s t c d m n =
    let same = one_rest opening text gap2 p.gap remainder2 a.0 (subst (λ (z : List ℕ). IsCutAt opening z gap2 remainder2) (sym b) d) a.2 in
    absurd (no_mark remainder2 (record { inner = p.inner; after = a.1; closes = subst (λ (z : List ℕ). IsCutAt closing z p.inner a.1) (sym same) a.3; spelled = s.0 }) n)
bad_one text (p ∷ ps) (q ∷ qs) left other gap gap2 remainder remainder2 a b s t c d m n =
    let same : a.0 ≡ b.0 = one_rest opening text p.gap q.gap a.0 b.0 a.2 b.2 in
    let e : IsCutAt closing b.0 p.inner a.1 = subst (λ (z : List ℕ). IsCutAt closing z p.inner a.1) same a.3 in
    let after : a.1 ≡ b.1 = one_rest closing b.0 p.inner q.inner a.1 b.1 e b.3 in
    bad_one b.1 ps qs left other gap gap2 remainder remainder2 (subst (λ (z : List ℕ). AreParts z ps left) after a.4) b.4 s.1 t.1 c d m n

begins_of : (text lines : List ℕ) (marks : List Insertion) (left : List ℕ) → BeginsParted text lines marks left → Begins text
begins_of text lines marks left b = let parts = b.parts in (lines ++ (closing ++ parts.1), parts.2.cut ∙ ap (λ (z : List ℕ). opening ++ z) (parts.3.cut))

closes_of : (text lines : List ℕ) (marks : List Insertion) (left rest : List ℕ) → BeginsParted text lines marks left → text ≡ opening ++ (codes "\n" ++ rest) → HasNone closing (codes "\n" ++ rest) → ⊥
closes_of text lines marks left rest b is none =
    let parts = b.parts in
    let remainder : parts.0 ≡ codes "\n" ++ rest = append_cancel_left opening parts.0 (codes "\n" ++ rest) (sym (parts.2.cut) ∙ is) in
    none_stands closing (codes "\n" ++ rest) (codes "\n" ++ lines) parts.1 (subst (λ (z : List ℕ). IsCutAt closing z (codes "\n" ++ lines) parts.1) remainder parts.3) none

one_mark : (text : List ℕ) (m n : ℕ) → IsMark text m → IsMark text n → m ≡ n
one_mark text m n (inl (e, none)) (inl (f, none2)) = e ∙ sym f
one_mark text m n (inl (e, none)) (inr (inl (f, rest, is, none2))) = e ∙ sym f
one_mark text m n (inr (inl (e, rest, is, none))) (inl (f, none2)) = e ∙ sym f
one_mark text m n (inr (inl (e, rest, is, none))) (inr (inl (f, rest2, is2, none2))) = e ∙ sym f
one_mark text m n (inl (e, none)) (inr (inr (lines, marks, left, gap, remainder, b, c, bad, sum))) = absurd (none (begins_of text lines marks left b))
one_mark text m n (inr (inr (lines, marks, left, gap, remainder, b, c, bad, sum))) (inl (e, none)) = absurd (none (begins_of text lines marks left b))
one_mark text m n (inr (inl (e, rest, is, none))) (inr (inr (lines, marks, left, gap, remainder, b, c, bad, sum))) = absurd (closes_of text lines marks left rest b is none)
one_mark text m n (inr (inr (lines, marks, left, gap, remainder, b, c, bad, sum))) (inr (inl (e, rest, is, none))) = absurd (closes_of text lines marks left rest b is none)
one_mark text m n (inr (inr (lines, marks, left, gap, remainder, b, c, bad, sum))) (inr (inr (lines2, marks2, left2, gap2, remainder2, b2, c2, bad2, sum2))) =
    let first = b.parts in
    let other = b2.parts in
    let same : first.0 ≡ other.0 = one_rest opening text [] [] first.0 other.0 first.2 other.2 in
    let d : IsCutAt closing other.0 (codes "\n" ++ lines) first.1 = subst (λ (z : List ℕ). IsCutAt closing z (codes "\n" ++ lines) first.1) same first.3 in
    let after : first.1 ≡ other.1 = one_rest closing other.0 (codes "\n" ++ lines) (codes "\n" ++ lines2) first.1 other.1 d other.3 in
    let one = bad_one other.1 marks marks2 left left2 gap gap2 remainder remainder2 (subst (λ (z : List ℕ). AreParts z marks left) after first.4) other.4 b.spelled b2.spelled c c2 bad bad2 in
    let long : length (opening ++ remainder) ≡ length (opening ++ remainder2) = ap (λ (z : List ℕ). length (opening ++ z)) one in
    omega (arith, sum, sum2, long)

-- ---- a source

one_read : (source : List ℕ) (f g : SourceFault) → IsRead source f → IsRead source g → f ≡ g
one_read source f g h k = let r = real f h in let s = real g k in one_source_fault source f g r.0 s.0 r.1 s.1
  where
    real : (f : SourceFault) → IsRead source f → (f ≢ read.NoMemory) × IsFaultOf source f
    real (read.Lex l) h = ((λ e. cc), h)
    real (read.Syntax at) h = ((λ e. cc), h)
    real read.TooDeep h = ((λ e. cc), h)
    real (read.Scope s) h = ((λ e. cc), h)
    real read.NoMemory h = absurd h

one_cut : (policy : PlainPolicy) (source : List ℕ) (f g : CutFault) → IsCutFault policy source f → IsCutFault policy source g → f ≡ g
one_cut policy source cut.TooLong cut.TooLong h k = refl
one_cut policy source cut.TooLong (cut.Read g) h k = let le = k.0 in absurd (omega (arith, h, le))
one_cut policy source cut.TooLong (cut.Descriptors g) h k = let le = k.1 in absurd (omega (arith, h, le))
one_cut policy source cut.TooLong cut.TooManyPoints h k = let le = k.1 in absurd (omega (arith, h, le))
one_cut policy source (cut.Read f) cut.TooLong h k = let le = h.0 in absurd (omega (arith, k, le))
one_cut policy source (cut.Descriptors f) cut.TooLong h k = let le = h.1 in absurd (omega (arith, k, le))
one_cut policy source cut.TooManyPoints cut.TooLong h k = let le = h.1 in absurd (omega (arith, k, le))
one_cut policy source (cut.Read f) (cut.Read g) h k = ap cut.Read (one_read source f g h.1 k.1)
one_cut policy source (cut.Read f) (cut.Descriptors g) h k = absurd (no_read_fault source k.0 f k.2 h.1)
one_cut policy source (cut.Read f) cut.TooManyPoints h k = absurd (no_read_fault source k.0 f k.2 h.1)
one_cut policy source (cut.Descriptors f) (cut.Read g) h k = absurd (no_read_fault source h.0 g h.2 k.1)
one_cut policy source cut.TooManyPoints (cut.Read g) h k = absurd (no_read_fault source h.0 g h.2 k.1)
one_cut policy source (cut.Descriptors f) (cut.Descriptors g) h k =
    let same = one_program source h.0 k.0 h.2 k.2 in
    ap cut.Descriptors (same_Some f g (sym h.3 ∙ ap (λ (z : File). descriptor_fault source z policy) same ∙ k.3))
one_cut policy source (cut.Descriptors f) cut.TooManyPoints h k =
    let same = one_program source h.0 k.0 h.2 k.2 in
    absurd (none-some f (sym k.3 ∙ sym (ap (λ (z : File). descriptor_fault source z policy) same) ∙ h.3))
one_cut policy source cut.TooManyPoints (cut.Descriptors g) h k =
    let same = one_program source h.0 k.0 h.2 k.2 in
    absurd (none-some g (sym h.3 ∙ ap (λ (z : File). descriptor_fault source z policy) same ∙ k.3))
one_cut policy source cut.TooManyPoints cut.TooManyPoints h k = refl

one_difference : (these those : List (ℕ × List ℕ)) (m n : ℕ) → IsFirstDifference these those m → IsFirstDifference these those n → m ≡ n
one_difference these those m n h k = elim (cases_order m n) [
  | inl e ↦ e
  | inr l ↦ elim l [ inl lt ↦ absurd (h.0 (k.1 m lt)) | inr gt ↦ absurd (k.0 (h.1 n gt)) ]
]

-- ---- the text

module _ (policy : PlainPolicy) (valid : IsValid policy) (text : List ℕ) where
  same_parts : (lines lines2 : List ℕ) (marks marks2 : List Insertion) (left left2 : List ℕ) → IsParted text lines marks left → IsParted text lines2 marks2 left2
      → (lines ≡ lines2) × (marks ≡ marks2) × (left ≡ left2)
  unfolding head_inner
  same_parts lines lines2 marks marks2 left left2 a b =
      let same = one_source text (the_prologue lines ∷ marks) (the_prologue lines2 ∷ marks2) left left2 a.begins.parts a.whole b.begins.parts b.whole in
      (ap (λ (z : List Insertion). drop 1 (head_inner z)) same.0, ap (drop 1) same.0, same.1)

  same_source : (lines lines2 : List ℕ) (marks marks2 : List Insertion) (left left2 : List ℕ) → IsParted text lines marks left → IsParted text lines2 marks2 left2 → without marks left ≡ without marks2 left2
  same_source lines lines2 marks marks2 left left2 a b =
      let s = same_parts lines lines2 marks marks2 left left2 a b in ap (λ (z : List Insertion). without z left) s.1 ∙ ap (without marks2) s.2

  -- the table's lines are at fault, or they are those of a table
  no_table : (lines : List ℕ) (marks marks2 : List Insertion) (left left2 : List ℕ) (table : Table) (f : TextFault) → IsParted text lines marks left → IsTableFault policy lines f
      → HasTable policy text marks2 left2 table → ⊥
  no_table lines marks marks2 left left2 table f parted wrong has =
      let s = same_parts has.lines lines marks2 marks left2 left has.parted parted in
      not_both policy lines table f (small_format policy valid) (limits_free policy valid) (subst (λ (z : List ℕ). Spells policy z table) s.0 has.spells) wrong

  pub one_fault : (f g : WovenFault) → f ≢ fault.NoMemory → g ≢ fault.NoMemory → IsFault policy text f → IsFault policy text g → f ≡ g
  one_fault (fault.Mark m) (fault.Mark n) ne nf h k = ap fault.Mark (one_mark text m n h k)
  one_fault (fault.Mark m) (fault.Table g) ne nf h (lines, marks, left, parted, wrong) = absurd (no_mark_fault text lines marks left parted m h)
  one_fault (fault.Mark m) (fault.Source g) ne nf h (marks, left, table, has, wrong) = absurd (no_mark_fault text has.lines marks left has.parted m h)
  one_fault (fault.Mark m) (fault.Misplaced n) ne nf h (marks, left, table, file, has, accepted, differs) = absurd (no_mark_fault text has.lines marks left has.parted m h)
  one_fault (fault.Table f) (fault.Mark n) ne nf (lines, marks, left, parted, wrong) k = absurd (no_mark_fault text lines marks left parted n k)
  one_fault (fault.Source f) (fault.Mark n) ne nf (marks, left, table, has, wrong) k = absurd (no_mark_fault text has.lines marks left has.parted n k)
  one_fault (fault.Misplaced m) (fault.Mark n) ne nf (marks, left, table, file, has, accepted, differs) k = absurd (no_mark_fault text has.lines marks left has.parted n k)
  one_fault (fault.Table f) (fault.Table g) ne nf (lines, marks, left, parted, wrong) (lines2, marks2, left2, parted2, wrong2) =
      let s = same_parts lines lines2 marks marks2 left left2 parted parted2 in
      ap fault.Table (one_table_fault policy lines2 f g (small_format policy valid) (limits_free policy valid) (subst (λ (z : List ℕ). IsTableFault policy z f) s.0 wrong) wrong2)
  one_fault (fault.Table f) (fault.Source g) ne nf (lines, marks, left, parted, wrong) (marks2, left2, table, has, wrong2) = absurd (no_table lines marks marks2 left left2 table f parted wrong has)
  one_fault (fault.Table f) (fault.Misplaced n) ne nf (lines, marks, left, parted, wrong) (marks2, left2, table, file, has, accepted, differs) =
      absurd (no_table lines marks marks2 left left2 table f parted wrong has)
  one_fault (fault.Source f) (fault.Table g) ne nf (marks2, left2, table, has, wrong2) (lines, marks, left, parted, wrong) = absurd (no_table lines marks marks2 left left2 table g parted wrong has)
  one_fault (fault.Misplaced m) (fault.Table g) ne nf (marks2, left2, table, file, has, accepted, differs) (lines, marks, left, parted, wrong) =
      absurd (no_table lines marks marks2 left left2 table g parted wrong has)
  one_fault (fault.Source f) (fault.Source g) ne nf (marks, left, table, has, wrong) (marks2, left2, table2, has2, wrong2) =
      let e = same_source has.lines has2.lines marks marks2 left left2 has.parted has2.parted in
      ap fault.Source (one_cut policy (without marks2 left2) f g (subst (λ (z : List ℕ). IsCutFault policy z f) e wrong) wrong2)
  one_fault (fault.Source f) (fault.Misplaced n) ne nf (marks, left, table, has, wrong) (marks2, left2, table2, file, has2, accepted, differs) =
      let e = same_source has.lines has2.lines marks marks2 left left2 has.parted has2.parted in
      absurd (no_cut_fault policy (without marks2 left2) file f accepted (subst (λ (z : List ℕ). IsCutFault policy z f) e wrong))
  one_fault (fault.Misplaced m) (fault.Source g) ne nf (marks2, left2, table2, file, has2, accepted, differs) (marks, left, table, has, wrong) =
      let e = same_source has.lines has2.lines marks marks2 left left2 has.parted has2.parted in
      absurd (no_cut_fault policy (without marks2 left2) file g accepted (subst (λ (z : List ℕ). IsCutFault policy z g) e wrong))
  one_fault (fault.Misplaced m) (fault.Misplaced n) ne nf (marks, left, table, file, has, accepted, differs) (marks2, left2, table2, file2, has2, accepted2, differs2) =
      let s = same_parts has.lines has2.lines marks marks2 left left2 has.parted has2.parted in
      let e = same_source has.lines has2.lines marks marks2 left left2 has.parted has2.parted in
      let read : IsAccepted policy (without marks2 left2) file = subst (λ (z : List ℕ). IsAccepted policy z file) e accepted in
      let files = one_program (without marks2 left2) file file2 read.reads accepted2.reads in
      let there : map (placed policy (without marks left)) (seam_marks policy (without marks left) file) ≡ map (placed policy (without marks2 left2)) (seam_marks policy (without marks2 left2) file2) =
      ap (λ (z : List ℕ). map (placed policy z) (seam_marks policy z file)) e ∙ ap (λ (z : File). map (placed policy (without marks2 left2)) (seam_marks policy (without marks2 left2) z)) files in
      let moved = subst (λ (z : List (ℕ × List ℕ)). IsFirstDifference z (map (placed policy (without marks2 left2)) (seam_marks policy (without marks2 left2) file2)) m) (ap places s.1)
      (subst (λ (z : List (ℕ × List ℕ)). IsFirstDifference (places marks) z m) there differs) in
      ap fault.Misplaced (one_difference (places marks2) (map (placed policy (without marks2 left2)) (seam_marks policy (without marks2 left2) file2)) m n moved differs2)
  one_fault fault.NoMemory g ne nf h k = absurd (ne refl)
  one_fault f fault.NoMemory ne nf h k = absurd (nf refl)

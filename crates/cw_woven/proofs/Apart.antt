-- What is read is read as one source and one table, and has no fault.
use Rattle.std.proofs.Common.{◌≡◌, ◌≢◌, ℕ, List, [], ◌∷◌, ◌++◌, length, drop, map, refl, sym, ap, subst, ◌∙◌, arith, inl, inr, nat_eq}
use Rattle.std.specs.Prelude.{codes, slice_get}
use Rattle.std.specs.List.{AllByRecursion, starts_with}
use Rattle.std.proofs.Math.Seq.{drop-append_seam}
use Rattle.std.proofs.lemmas.Bool.{true≢false}
use Rattle.std.proofs.lemmas.List.{append_cancel_left}
use Rattle.std.proofs.lemmas.Option.{none-some}
use Rattle.cw_rights.specs.Policies.{PlainPolicy}
use Rattle.cw_rights.specs.Valid.{IsValid}
use Rattle.cw_syntax.specs.Trees.{File}
use Rattle.cw_certs.specs.Tables.{Table}
use Rattle.cw_scope.specs.Descriptors.{descriptor_fault}
use Rattle.cw_source.specs.declared.fault.SourceFault.{SourceFault}
use Rattle.cw_source.specs.declared.fault.SourceFault.TheVariants as read
use Rattle.cw_source.specs.Read.{ReadsAs}
use Rattle.cw_source.proofs.OneAnswer.{one_program, never_both}
use Rattle.cw_table_text.specs.Grammar.{Spells}
use Rattle.cw_table_text.proofs.OneAnswer.{one_table, not_both}
use Rattle.cw_table_text.proofs.PlainLimits.{limits_free, small_format}
use Rattle.cw_emit.specs.Cut.{opening, closing}
use Rattle.cw_syntax.specs.PlainMarks.{HasNone}
use Rattle.cw_emit.specs.Woven.{placed}
use Rattle.cw_lemmas.proofs.Texts.{starts_front as starts_again}
use Rattle.cw_woven.specs.declared.fault.CutFault.{CutFault}
use Rattle.cw_woven.specs.declared.fault.CutFault.TheVariants as cut
use Rattle.cw_woven.specs.declared.fault.WovenFault.{WovenFault}
use Rattle.cw_woven.specs.declared.fault.WovenFault.TheVariants as fault
use Rattle.cw_woven.specs.Parts.{Insertion, IsCutAt, AreParts, without, places}
use Rattle.cw_woven.specs.Woven.{IsSpelling}
use Rattle.cw_woven.specs.Reading.{the_prologue, Begins, IsAccepted, IsCutFault, IsFault, IsMark, IsNoMark, IsParted, IsRead, ReadsWoven, seam_marks}
use Rattle.cw_woven.proofs.OneReading.{head_inner, one_front, one_rest, one_source, read_as_one}

pub none_stands : (needle text front rest : List ℕ) → IsCutAt needle text front rest → HasNone needle text → ⊥
none_stands needle text front rest c none =
    true≢false (sym (ap (λ (z : List ℕ). starts_with nat_eq z needle) (ap (drop (length front)) c.cut ∙ drop-append_seam front (needle ++ rest)) ∙ starts_again needle rest) ∙ none (length front))

-- behind some of the parts the next one opens, closes and is spelled as a mark
pub record HasNext (remainder : List ℕ) : Type 0 where
  pub inner : List ℕ
  pub after : List ℕ
  pub closes : IsCutAt closing remainder inner after
  pub spelled : IsSpelling inner

next_there : (text : List ℕ) (ps qs : List Insertion) (left other gap remainder : List ℕ) → AreParts text ps left → AreParts text qs other → HasNone opening other
    → AllByRecursion (λ (q : Insertion). IsSpelling q.inner) qs → IsCutAt opening left gap remainder → HasNext remainder
next_there text [] [] left other gap remainder a b none spelled c = absurd (none_stands opening left gap remainder c (subst (HasNone opening) (sym b ∙ a) none))
next_there text [] (q ∷ qs) left other gap remainder a b none spelled c =
    let d : IsCutAt opening text gap remainder = subst (λ (z : List ℕ). IsCutAt opening z gap remainder) (sym a) c in
    let same : remainder ≡ b.0 = one_rest opening text gap q.gap remainder b.0 d b.2 in
    record { inner = q.inner; after = b.1; closes = subst (λ (z : List ℕ). IsCutAt closing z q.inner b.1) (sym same) b.3; spelled = spelled.0 }
next_there text (p ∷ ps) [] left other gap remainder a b none spelled c = absurd (none_stands opening text p.gap a.0 a.2 (subst (HasNone opening) (sym b) none))
next_there text (p ∷ ps) (q ∷ qs) left other gap remainder a b none spelled c =
    let same : a.0 ≡ b.0 = one_rest opening text p.gap q.gap a.0 b.0 a.2 b.2 in
    let d : IsCutAt closing b.0 p.inner a.1 = subst (λ (z : List ℕ). IsCutAt closing z p.inner a.1) same a.3 in
    let after : a.1 ≡ b.1 = one_rest closing b.0 p.inner q.inner a.1 b.1 d b.3 in
    next_there b.1 ps qs left other gap remainder (subst (λ (z : List ℕ). AreParts z ps left) after a.4) b.4 none spelled.1 c

pub no_mark : (remainder : List ℕ) → HasNext remainder → IsNoMark remainder → ⊥
no_mark remainder n (inl none) = none_stands closing remainder n.inner n.after n.closes none
no_mark remainder n (inr (inner, after, c, not)) = not (subst IsSpelling (one_front closing remainder n.inner inner n.after after n.closes c) n.spelled)

pub no_read_fault : (source : List ℕ) (file : File) (f : SourceFault) → ReadsAs source file → IsRead source f → ⊥
no_read_fault source file (read.Lex l) reads h = never_both source file (read.Lex l) (λ e. cc) reads h
no_read_fault source file (read.Syntax at) reads h = never_both source file (read.Syntax at) (λ e. cc) reads h
no_read_fault source file read.TooDeep reads h = never_both source file read.TooDeep (λ e. cc) reads h
no_read_fault source file (read.Scope s) reads h = never_both source file (read.Scope s) (λ e. cc) reads h
no_read_fault source file read.NoMemory reads h = h

pub no_cut_fault : (policy : PlainPolicy) (source : List ℕ) (file : File) (f : CutFault) → IsAccepted policy source file → IsCutFault policy source f → ⊥
no_cut_fault policy source file cut.TooLong a lt = let le = a.short in omega (arith, le, lt)
no_cut_fault policy source file (cut.Read f) a h = no_read_fault source file f a.reads h.1
no_cut_fault policy source file (cut.Descriptors f) a (other, short, reads, e) =
    let same = one_program source other file reads a.reads in
    none-some f (sym (a.descriptors) ∙ sym (ap (λ (z : File). descriptor_fault source z policy) same) ∙ e)
no_cut_fault policy source file cut.TooManyPoints a (other, short, reads, e, many) =
    let same = one_program source other file reads a.reads in
    let few = subst (λ (z : File). IsAccepted policy source z) (sym same) a in
    let le = few.few in
    omega (arith, many, le)

-- a text that is of parts begins as a prologue does, and no opening in it is at fault
module _ (text lines : List ℕ) (own : List Insertion) (end : List ℕ) (parted : IsParted text lines own end) where
  begins : Begins text
  begins =
      let parts = parted.begins.parts in
      (lines ++ (closing ++ parts.1), parts.2.cut ∙ ap (λ (z : List ℕ). opening ++ z) (parts.3.cut))

  pub no_mark_fault : (at : ℕ) → IsMark text at → ⊥
  no_mark_fault at (inl (e, none)) = none begins
  no_mark_fault at (inr (inl (e, rest, is, none))) =
      let parts = parted.begins.parts in
      let remainder : parts.0 ≡ codes "\n" ++ rest = append_cancel_left opening parts.0 (codes "\n" ++ rest) (sym (parts.2.cut) ∙ is) in
      none_stands closing (codes "\n" ++ rest) (codes "\n" ++ lines) parts.1 (subst (λ (z : List ℕ). IsCutAt closing z (codes "\n" ++ lines) parts.1) remainder parts.3) none
  no_mark_fault at (inr (inr (lines2, marks, left, gap, remainder, b, c, none, sum))) =
      let first = parted.begins.parts in
      let other = b.parts in
      let same : first.0 ≡ other.0 = one_rest opening text [] [] first.0 other.0 first.2 other.2 in
      let d : IsCutAt closing other.0 (codes "\n" ++ lines) first.1 = subst (λ (z : List ℕ). IsCutAt closing z (codes "\n" ++ lines) first.1) same first.3 in
      let after : first.1 ≡ other.1 = one_rest closing other.0 (codes "\n" ++ lines) (codes "\n" ++ lines2) first.1 other.1 d other.3 in
      no_mark remainder
      (next_there first.1 marks own left end gap remainder (subst (λ (z : List ℕ). AreParts z marks left) (sym after) other.4) first.4 parted.whole parted.begins.spelled c) none

module _ (policy : PlainPolicy) (valid : IsValid policy) (text source : List ℕ) (file : File) (t : Table) (r : ReadsWoven policy text source file t) where
  front_marks : (lines : List ℕ) (marks : List Insertion) (left : List ℕ) → AreParts text (the_prologue lines ∷ marks) left → HasNone opening left → (r.has.lines ≡ lines) × (source ≡ without marks left) × (r.marks ≡ marks)
  unfolding head_inner
  front_marks lines marks left parts none =
      let same = one_source text (the_prologue r.has.lines ∷ r.marks) (the_prologue lines ∷ marks) r.left left r.has.parted.begins.parts r.has.parted.whole parts none in
      let ms : r.marks ≡ marks = ap (drop 1) same.0 in
      (ap (λ (z : List Insertion). drop 1 (head_inner z)) same.0, r.is ∙ ap (λ (z : List Insertion). without z r.left) ms ∙ ap (without marks) same.1, ms)

  pub no_fault : (f : WovenFault) → f ≢ fault.NoMemory → IsFault policy text f → ⊥
  no_fault (fault.Mark at) ne h = no_mark_fault text r.has.lines r.marks r.left r.has.parted at h
  no_fault (fault.Table f) ne (lines, marks, left, parted, wrong) =
      let same = front_marks lines marks left parted.begins.parts parted.whole in
      not_both policy lines t f (small_format policy valid) (limits_free policy valid) (subst (λ (z : List ℕ). Spells policy z t) same.0 r.has.spells) wrong
  no_fault (fault.Source f) ne (marks, left, table, has, wrong) =
      let same = front_marks has.lines marks left has.parted.begins.parts has.parted.whole in
      no_cut_fault policy source file f r.accepted (subst (λ (z : List ℕ). IsCutFault policy z f) (sym same.1) wrong)
  no_fault (fault.Misplaced n) ne (marks, left, table, other, has, accepted, differs) =
      let same = front_marks has.lines marks left has.parted.begins.parts has.parted.whole in
      let read : IsAccepted policy source other = subst (λ (z : List ℕ). IsAccepted policy z other) (sym same.1) accepted in
      let files = one_program source file other r.accepted.reads read.reads in
      let here : places marks ≡ map (placed policy source) (seam_marks policy source file) = ap places (sym same.2) ∙ r.placed in
      let there : map (placed policy source) (seam_marks policy source file) ≡ map (placed policy (without marks left)) (seam_marks policy (without marks left) other) =
      ap (λ (z : File). map (placed policy source) (seam_marks policy source z)) files ∙ ap (λ (z : List ℕ). map (placed policy z) (seam_marks policy z other)) same.1 in
      differs.0 (ap (λ (z : List (ℕ × List ℕ)). slice_get z n) (here ∙ there))
  no_fault fault.NoMemory ne h = ne refl

  pub one_reading : (source2 : List ℕ) (file2 : File) (u : Table) → ReadsWoven policy text source2 file2 u → (source ≡ source2) × (file ≡ file2) × (t ≡ u)
  one_reading source2 file2 u s =
      let sources = read_as_one policy policy text source source2 file file2 t u r s in
      let other : ReadsAs source file2 = subst (λ (z : List ℕ). ReadsAs z file2) (sym sources) s.accepted.reads in
      let same = front_marks s.has.lines s.marks s.left s.has.parted.begins.parts s.has.parted.whole in (
        sources,
        one_program source file file2 r.accepted.reads other,
        one_table policy s.has.lines t u (small_format policy valid) (limits_free policy valid) (subst (λ (z : List ℕ). Spells policy z t) same.0 r.has.spells) s.has.spells,
      )

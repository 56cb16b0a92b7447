-- What stands for an accepted source and a table is read as these.
use Rattle.std.proofs.Common.{◌≡◌, ℕ, zero, suc, ◌+◌, ◌-◌, ◌<◌, ◌^◌, true, false, min, List, [], ◌∷◌, ◌++◌, Option, Some, None, length, take, drop, map, refl, sym, ap, subst, ◌∙◌, append_assoc, arith, drop-drop, length-take, length-drop, inl, inr, eqb, not}
use Rattle.std.specs.Prelude.{codes, slice_get, nat_eq, option_map, IsTrue}
use Rattle.std.specs.Fmt.{decimal}
use Rattle.std.specs.List.{All, AllByRecursion, starts_with, range_with_len}
use Rattle.std.proofs.lemmas.Bool.{and_parts, and_left, false_from_ne_true, not-true, ne_eqb, eq-eqb, true≢false}
use Rattle.std.proofs.lemmas.List.{append-nil, take-append-drop}
use Rattle.std.proofs.lemmas.List.Elements.{All-head, All-tail}
use Rattle.std.proofs.lemmas.Option.{none-some, same_Some, slice_get-map}
use Rattle.cw_rights.specs.Policies.{PlainDescriptor, PlainPolicy}
use Rattle.cw_rights.specs.Valid.{is_name, IsValid}
use Rattle.cw_syntax.specs.Names.{text}
use Rattle.cw_syntax.specs.Trees.{File}
use Rattle.cw_syntax.specs.Plans.{plan_of}
use Rattle.cw_syntax.specs.Marks.{MarkKind, EntryMark, LabelMark, OpenMark, CloseMark, CallMark, SeamMark, AreInOrder}
use Rattle.cw_syntax.proofs.Counting.{in_order}
use Rattle.cw_resolve.specs.Scenes.{names_of}
use Rattle.cw_certs.specs.Tables.{Table}
use Rattle.cw_text.specs.LimitsText.{descriptor_name, name_if}
use Rattle.cw_table_text.specs.Grammar.{IsTable}
use Rattle.cw_table_text.specs.TablesText.{tables_text}
use Rattle.cw_emit.specs.Cut.{opening, closing, part}
use Rattle.cw_syntax.specs.PlainMarks.{HasNone}
use Rattle.cw_emit.specs.Woven.{placed, spelled, spelling, woven_from, Stands, ArePlainNames}
use Rattle.cw_syntax.specs.PlainMarks.{ArePlainMarks}
use Rattle.cw_emit.proofs.Names.{valid_names}
use Rattle.cw_emit.proofs.Openings.{is_free, free_from_none, free_drop, free_take, no_opening, Slash}
use Rattle.cw_emit.proofs.Slashes.{is_plain, plain_spelled, plain_lines}
use Rattle.cw_emit.proofs.Cutting.{others_plain}
use Rattle.cw_source.proofs.Marking.{marks_in_order}
use Rattle.cw_source.proofs.Unmarked.{no_marker}
use Rattle.cw_source_laws.specs.Marked.{IsNamedKind}
use Rattle.cw_source_laws.proofs.Marked.{marks_named, plain_marks}
use Rattle.cw_woven.specs.Parts.{Insertion, IsCutAt, NoneBefore, AreParts, without, places_from}
use Rattle.cw_woven.specs.Woven.{IsSpelling}
use Rattle.cw_woven.specs.Reading.{the_prologue, IsAccepted, ReadsWoven, seam_marks}
use Rattle.cw_woven.proofs.Few.{few_marks}

-- ---- where an opening and a closing first stand

-- before a slash that follows free bytes no opening begins
opens_late : (bs rest : List ℕ) → is_free bs ≡ true → Slash rest → NoneBefore opening (bs ++ rest) (length bs)
opens_late [] rest free slash at lt = absurd (omega (arith, lt))
opens_late (b ∷ bs) rest free slash zero lt = false_from_ne_true _ (no_opening b bs rest free slash)
opens_late (b ∷ bs) rest free slash (suc at) lt =
    opens_late bs rest (and_parts (not (starts_with nat_eq (b ∷ bs) (codes "cw{*"))) (is_free bs) free).1 slash at (omega (arith, lt))

-- and none in free bytes
never_opens : (bs : List ℕ) → is_free bs ≡ true → HasNone opening bs
never_opens [] free zero = refl
never_opens [] free (suc at) = refl
never_opens (b ∷ bs) free zero =
    false_from_ne_true _ (λ h. no_opening b bs [] free tt (ap (λ (z : List ℕ). starts_with nat_eq (b ∷ z) opening) (append-nil bs) ∙ h))
never_opens (b ∷ bs) free (suc at) = never_opens bs (and_parts (not (starts_with nat_eq (b ∷ bs) (codes "cw{*"))) (is_free bs) free).1 at

-- no closing begins in bytes without a slash
closes_late : (bs rest : List ℕ) → is_plain bs ≡ true → NoneBefore closing (bs ++ rest) (length bs)
closes_late [] rest plain at lt = absurd (omega (arith, lt))
closes_late (b ∷ bs) rest plain zero lt =
    let p = and_parts (not (eqb b 47)) (is_plain bs) plain in
    let ne : eqb b 47 ≡ false = not-true (eqb b 47) p.0 in
    and_left (eqb 47 b) _ (ne_eqb 47 b (λ h. true≢false (sym (eq-eqb b 47 (sym h)) ∙ ne)))
closes_late (b ∷ bs) rest plain (suc at) lt = closes_late bs rest (and_parts (not (eqb b 47)) (is_plain bs) plain).1 at (omega (arith, lt))

part_ends : (inner rest : List ℕ) → part inner ++ rest ≡ opening ++ (inner ++ (closing ++ rest))
part_ends inner rest = append_assoc opening (inner ++ closing) rest ∙ ap (λ (z : List ℕ). opening ++ z) (append_assoc inner closing rest)

opens_at : (gap inner rest : List ℕ) → is_free gap ≡ true → IsCutAt opening (gap ++ (part inner ++ rest)) gap (inner ++ (closing ++ rest))
opens_at gap inner rest free = record {
  cut = ap (λ (z : List ℕ). gap ++ z) (part_ends inner rest);
  first = opens_late gap (part inner ++ rest) free refl;
}

closes_at : (inner rest : List ℕ) → is_plain inner ≡ true → IsCutAt closing (inner ++ (closing ++ rest)) inner rest
closes_at inner rest plain = record { cut = refl; first = closes_late inner (closing ++ rest) plain }

-- ---- the parts of what is woven

module _ (policy : PlainPolicy) (source : List ℕ) where
  abbrev insertions_from : ℕ → List SeamMark → List Insertion
  insertions_from at [] = []
  insertions_from at (m ∷ ms) = record { gap = take (m.place - at) (drop at source); inner = spelled policy source m } ∷ insertions_from m.place ms

  abbrev left_from : ℕ → List SeamMark → List ℕ
  left_from at [] = drop at source
  left_from at (m ∷ ms) = left_from m.place ms

  module _ (free : is_free source ≡ true) (names : ArePlainNames policy) where
    parts : (ms : List SeamMark) (at : ℕ) → ArePlainMarks source ms → AreParts (woven_from policy source at ms) (insertions_from at ms) (left_from at ms)
    unfolding woven_from
    parts [] at plain = refl
    parts (m ∷ ms) at plain =
        let gap : List ℕ = take (m.place - at) (drop at source) in
        let inner : List ℕ = spelled policy source m in
        let rest : List ℕ = woven_from policy source m.place ms in (
          inner ++ (closing ++ rest),
          rest,
          opens_at gap inner rest (free_take (m.place - at) (drop at source) (free_drop at source free)),
          closes_at inner rest (plain_spelled policy source m names (plain 0 m (omega arith))),
          parts ms m.place (others_plain source m ms plain),
        )

    ends : (ms : List SeamMark) (at : ℕ) → HasNone opening (left_from at ms)
    ends [] at = never_opens (drop at source) (free_drop at source free)
    ends (m ∷ ms) at = ends ms m.place

  is_source : (ms : List SeamMark) (at : ℕ) → AreInOrder at (length source) ms → without (insertions_from at ms) (left_from at ms) ≡ drop at source
  is_source [] at order = refl
  is_source (m ∷ ms) at order =
      let k : ℕ = m.place - at in
      let e : at + k ≡ m.place = let p = order.0 in omega (arith, p) in
      let tail : drop k (drop at source) ≡ drop m.place source = drop-drop k at source ∙ ap (λ (z : ℕ). drop z source) e in
      ap (λ (z : List ℕ). take k (drop at source) ++ z) (is_source ms m.place order.2 ∙ sym tail) ∙ take-append-drop k (drop at source)

  are_placed : (ms : List SeamMark) (at : ℕ) → AreInOrder at (length source) ms → places_from at (insertions_from at ms) ≡ map (placed policy source) ms
  are_placed [] at order = refl
  are_placed (m ∷ ms) at order =
      let k : ℕ = m.place - at in
      let gap : List ℕ = take k (drop at source) in
      let long : length gap ≡ min k (length (drop at source)) = length-take k (drop at source) in
      let p = order.0 in
      let q = order.1 in
      let here : at + length gap ≡ m.place = omega (arith, long, length-drop at source, p, q) in
      ap (λ (n : ℕ). (n, spelled policy source m) ∷ places_from n (insertions_from m.place ms)) here
      ∙ ap (λ (z : List (ℕ × List ℕ)). placed policy source m ∷ z) (are_placed ms m.place order.2)

-- ---- the marks are spelled as marks are

one_field : (front d back : List ℕ) → front ++ ((d ++ []) ++ back) ≡ front ++ (d ++ back)
one_field front d back = ap (λ (z : List ℕ). front ++ (z ++ back)) (append-nil d)

two_fields : (front d name : List ℕ) → front ++ ((d ++ ((44 ∷ name) ++ [])) ++ codes ")") ≡ front ++ (d ++ (codes "," ++ (name ++ codes ")")))
two_fields front d name =
    ap (λ (z : List ℕ). front ++ z) (append_assoc d ((44 ∷ name) ++ []) (codes ")") ∙ ap (λ (z : List ℕ). d ++ (z ++ codes ")")) (append-nil (44 ∷ name)))

name_found : (policy : PlainPolicy) (d : ℕ) (name : List ℕ) → slice_get (names_of policy).descriptors d ≡ Some name → descriptor_name policy d ≡ name
name_found policy d name e = of (slice_get policy.descriptors d) (sym (slice_get-map (λ (k : PlainDescriptor). k.name) policy.descriptors d) ∙ e)
  where
    of : (o : Option PlainDescriptor) → option_map (λ (k : PlainDescriptor). k.name) o ≡ Some name → name_if o ≡ name
    of None h = absurd (none-some name h)
    of (Some k) h = same_Some k.name name h

is_spelling : (policy : PlainPolicy) (source : List ℕ) (seam : ℕ) (kind : MarkKind) → seam < 2 ^ 32 → IsNamedKind (names_of policy) source kind → IsSpelling (spelling policy source seam kind)
is_spelling policy source seam EntryMark lt h = inl (inl (seam, lt, ap (λ (z : List ℕ). codes "CW_ENTRY(" ++ z) (append_assoc (decimal seam ++ []) (codes ")") (codes ";")) ∙ one_field (codes "CW_ENTRY(") (decimal seam) (codes ");")))
is_spelling policy source seam LabelMark lt h = inl (inr (inl (seam, lt, one_field (codes "CW_LABEL(") (decimal seam) (codes ")"))))
is_spelling policy source seam CloseMark lt h = inl (inr (inr (inl (seam, lt, one_field (codes "CW_CLOSE(") (decimal seam) (codes ")")))))
is_spelling policy source seam (CallMark None) lt h = inl (inr (inr (inr (seam, lt, one_field (codes "CW_CALL(") (decimal seam) (codes ")")))))
is_spelling policy source seam (CallMark (Some x)) lt h = inr (inr (seam, text source x, lt, h, two_fields (codes "CW_CALLV(") (decimal seam) (text source x)))
is_spelling policy source seam (OpenMark d) lt h =
    let same = name_found policy d h.0 h.1 in
    inr (inl (seam, descriptor_name policy d, lt, subst (λ (z : List ℕ). IsTrue (is_name z)) (sym same) h.2, two_fields (codes "CW_OPEN(") (decimal seam) (descriptor_name policy d)))

numbers_small : (ms : List SeamMark) (from count : ℕ) → map (λ (m : SeamMark). m.seam) ms ≡ range_with_len from count → AllByRecursion (λ (m : SeamMark). m.seam < from + count) ms
numbers_small [] from count e = tt
numbers_small (m ∷ ms) from zero e = absurd cc
numbers_small (m ∷ ms) from (suc count) e =
    let first : m.seam ≡ from = cc in
    let others : map (λ (k : SeamMark). k.seam) ms ≡ range_with_len (from + 1) count = cc in
    let sum : from + 1 + count ≡ from + suc count = omega arith in
    (omega (arith, first), subst (λ (n : ℕ). AllByRecursion (λ (k : SeamMark). k.seam < n) ms) sum (numbers_small ms (from + 1) count others))

are_spelled : (policy : PlainPolicy) (source : List ℕ) (ms : List SeamMark) (at count : ℕ) → count < 2 ^ 32 → AllByRecursion (λ (m : SeamMark). m.seam < count) ms
    → All (λ (m : SeamMark). IsNamedKind (names_of policy) source m.kind) ms → AllByRecursion (λ (p : Insertion). IsSpelling p.inner) (insertions_from policy source at ms)
are_spelled policy source [] at count few small named = tt
are_spelled policy source (m ∷ ms) at count few small named =
    let lt : m.seam < count = small.0 in (
      is_spelling policy source m.seam m.kind (omega (arith, few, lt)) (All-head (λ (k : SeamMark). IsNamedKind (names_of policy) source k.kind) m ms named),
      are_spelled policy source ms m.place count few small.1 (All-tail (λ (k : SeamMark). IsNamedKind (names_of policy) source k.kind) m ms named),
    )

-- ---- the whole text

pub reads : (policy : PlainPolicy) (text source : List ℕ) (file : File) (t : Table) → IsValid policy → IsAccepted policy source file → IsTable policy.format t
    → Stands text source (seam_marks policy source file) t policy → ReadsWoven policy text source file t
reads policy text source file t valid accepted table stands =
    let named = names_of policy in
    let ms = seam_marks policy source file in
    let free = free_from_none source (no_marker source file accepted.reads) in
    let names = valid_names policy valid in
    let plain = plain_marks named source file accepted.reads in
    let order = marks_in_order named source file accepted.reads in
    let rest : List ℕ = woven_from policy source 0 ms in
    let lines : List ℕ = codes "\n" ++ tables_text policy t in
    let count = few_marks (plan_of named source file) in
    let few = accepted.few in
    let sum : 0 + length ms ≡ length ms = omega arith in
    let small = subst (λ (n : ℕ). AllByRecursion (λ (m : SeamMark). m.seam < n) ms) sum (numbers_small ms 0 (length ms) (in_order named source file)) in
    let whole : AreParts (part lines ++ rest) (the_prologue (tables_text policy t) ∷ insertions_from policy source 0 ms) (left_from policy source 0 ms) =
    (lines ++ (closing ++ rest), rest, opens_at [] lines rest refl, closes_at lines rest (plain_lines policy t names), parts policy source free names ms 0 plain) in
    record {
      marks = insertions_from policy source 0 ms;
      left = left_from policy source 0 ms;
      has = record {
        lines = tables_text policy t;
        parted = record {
          begins = record {
            parts = subst (λ (z : List ℕ). AreParts z (the_prologue (tables_text policy t) ∷ insertions_from policy source 0 ms) (left_from policy source 0 ms)) (sym stands) whole;
            spelled = are_spelled policy source ms 0 (length ms) (omega (arith, count, few)) small (marks_named named source file accepted.reads);
          };
          whole = ends policy source free names ms 0;
        };
        spells = record { table = table; spelled = refl };
      };
      is = sym (is_source policy source ms 0 order);
      accepted = accepted;
      placed = are_placed policy source ms 0 order;
    }

-- Each text has one answer at most: one table, or one fault.
use Rattle.std.proofs.Common.{◌≡◌, ℕ, ◌^◌, ◌<◌, ◌⊎◌, inl, inr, ltb, eqb, false, List, [], ◌∷◌, ◌++◌, map, length, drop, refl, sym, ap, ◌∙◌, subst, arith, append-nil, append_assoc, length-append}
use Rattle.std.specs.Prelude.{codes, Result, Ok, Err}
use Rattle.std.specs.List.{All, AllByRecursion}
use Rattle.std.proofs.lemmas.List.Elements.{All-append, All-cons, All-nil}
use Rattle.std.proofs.lemmas.Fmt.{decimal_injective}
use Rattle.cw_core.specs.declared.ids.MemId.{MemId}
use Rattle.cw_rights.specs.Policies.{PlainPolicy}
use Rattle.cw_certs.specs.Tables.{Table, table_with}
use Rattle.cw_text.specs.Lines.{line, joined, IsFree}
use Rattle.cw_text.specs.declared.fault.TextFault.{TextFault}
use Rattle.cw_text.specs.declared.fault.TextFault.TheVariants.{Line, Order, Limit, NoMemory}
use Rattle.cw_text.proofs.Free.{one_line, free_from_test, joined_free}
use Rattle.cw_text_lines.proofs.Starts.{line_end}
use Rattle.cw_table_text.specs.declared.row.Row.{Row}
use Rattle.cw_table_text.specs.Rows.{rows_of, row_text, name_of, fields_of}
use Rattle.cw_table_text.specs.TablesText.{header, limits_text, table_text, head_lines, tables_lines, tables_text, text_of, done}
use Rattle.cw_table_text.specs.Grammar.{Fits, IsTable, Spells, BeginsAny, Begins, IsRow, IsDone, IsDue, GoesOn, IsWhole, IsWrong, IsFault, Answers}
use Rattle.cw_table_text.specs.Working.{FitsHead, head_fields}
use Rattle.cw_table_text.proofs.Adding.{mems_are, live_are, tries_are, ats_are, opened_are, closed_are, into_are, back_are, picked, mems_in, live_in, tries_in, ats_in, opened_in}
use Rattle.cw_table_text.proofs.Adding.{closed_in, into_in, back_in}
use Rattle.cw_table_text.proofs.Faults.{the_line, first_of, second_of, third_of}
use Rattle.cw_table_text.proofs.HeadLines.{head_parts, head_line, head_name_free, head_fields_free, fields_stay, text_at}
use Rattle.cw_table_text.proofs.RowLines.{line_feed, name_free, fields_free, row_line}
use Rattle.cw_table_text.proofs.Same.{rows_same}

-- ---- a table by its lines

same_table : {s z : ℕ} {m k : MemId} {a p : _} {b q : _} {c r : _} {d v : _} {e w : _} {f x : _} {g y : _} {h n : _} → s ≡ z → m ≡ k → a ≡ p → b ≡ q → c ≡ r → d ≡ v → e ≡ w → f ≡ x → g ≡ y → h ≡ n
    → table_with s m a b c d e f g h ≡ table_with z k p q r v w x y n
same_table e0 e1 e2 e3 e4 e5 e6 e7 e8 e9 = rw (e0, e1, e2, e3, e4, e5, e6, e7, e8, e9) refl

one_table_of_rows : (t u : Table) → t.states ≡ u.states → t.start ≡ u.start → rows_of t ≡ rows_of u → t ≡ u
one_table_of_rows t u s m e = same_table s m (sym (mems_are t) ∙ ap (picked mems_in) e ∙ mems_are u) (sym (live_are t) ∙ ap (picked live_in) e ∙ live_are u)
    (sym (tries_are t) ∙ ap (picked tries_in) e ∙ tries_are u) (sym (ats_are t) ∙ ap (picked ats_in) e ∙ ats_are u) (sym (opened_are t) ∙ ap (picked opened_in) e ∙ opened_are u)
    (sym (closed_are t) ∙ ap (picked closed_in) e ∙ closed_are u) (sym (into_are t) ∙ ap (picked into_in) e ∙ into_are u) (sym (back_are t) ∙ ap (picked back_in) e ∙ back_are u)

abbrev mem_of : ℕ → MemId
mem_of n = record { 0 = n }

one_head : (format : ℕ) (p q : ℕ × MemId) → format < 2 ^ 8 → FitsHead p → FitsHead q → text_at format p ≡ text_at format q → (p.0 ≡ q.0) × (p.1 ≡ q.1)
one_head format p q small fits also e =
    let h = head_parts format q (text_at format p) (codes "CW_TABLE") (joined 44 (head_fields format p)) small also head_name_free (head_line format p) (sym e) in
    let same : head_fields format p ≡ head_fields format q = sym (fields_stay format p small fits) ∙ h.1 in
    let start : p.1.0 ≡ q.1.0 = decimal_injective p.1.0 q.1.0 (omega (arith, fits.1)) (omega (arith, also.1)) (ap third_of same) in
    (decimal_injective p.0 q.0 (omega (arith, fits.0)) (omega (arith, also.0)) (ap second_of same), ap mem_of start)

same_lines : (policy : PlainPolicy) (t u : Table) → policy.format < 2 ^ 8 → IsTable policy.format t → IsTable policy.format u → tables_lines policy t ≡ tables_lines policy u → t ≡ u
same_lines policy t u small p q e =
    let head = one_head policy.format (t.states, t.start) (u.states, u.start) small (p.ordered.states, p.ordered.start) (q.ordered.states, q.ordered.start) (ap third_of e) in
    one_table_of_rows t u head.0 head.1 (rows_same policy.format (rows_of u) (rows_of t) q.ordered.rows p.ordered.rows (ap (drop 3) e))

-- ---- lines have no LF

abbrev Free : List (List ℕ) → Type 0
Free lines = AllByRecursion (IsFree 10) lines

call_free : (name : List ℕ) (fields : List (List ℕ)) → IsFree 10 name → All (IsFree 10) fields → IsFree 10 (name ++ (40 ∷ (joined 44 fields ++ 41 ∷ [])))
call_free name fields free all =
    let P : ℕ → Type 0 = λ b. eqb b 10 ≡ false in
    All-append P name (40 ∷ (joined 44 fields ++ 41 ∷ [])) free
    (All-cons P 40 (joined 44 fields ++ 41 ∷ []) refl (All-append P (joined 44 fields) (41 ∷ []) (joined_free 44 10 refl fields all) (All-cons P 41 [] refl (All-nil P))))

row_free : (format : ℕ) (row : Row) → Fits format row → IsFree 10 (row_text format row)
row_free format row fits = subst (IsFree 10) (sym (row_line format row)) (call_free (name_of row) (fields_of format row) (name_free 10 (omega arith) row) (fields_free 10 line_feed format row fits))

head_free : (format : ℕ) (p : ℕ × MemId) → format < 2 ^ 8 → FitsHead p → IsFree 10 (text_at format p)
head_free format p small fits = subst (IsFree 10) (sym (head_line format p))
    (call_free (codes "CW_TABLE") (head_fields format p) (free_from_test (λ b. ltb 44 b) 10 (codes "CW_TABLE") refl refl) (head_fields_free 10 line_feed format p small fits))

rows_free : (format : ℕ) (rows : List Row) → AllByRecursion (Fits format) rows → Free (map (row_text format) rows ++ done ∷ [])
rows_free format [] all = (free_from_test (λ b. ltb 44 b) 10 done refl refl, tt)
rows_free format (r ∷ rows) all = (row_free format r all.0, rows_free format rows all.1)

all_free : (policy : PlainPolicy) (t : Table) → policy.format < 2 ^ 8 → IsFree 10 (limits_text policy) → IsTable policy.format t → Free (tables_lines policy t)
all_free policy t small limits p = (
  free_from_test (λ b. ltb 31 b) 10 header refl refl,
  (limits, (head_free policy.format (t.states, t.start) small (p.ordered.states, p.ordered.start), rows_free policy.format (rows_of t) p.ordered.rows)),
)

front_free : (a b : List (List ℕ)) → Free (a ++ b) → Free a
front_free [] b all = tt
front_free (x ∷ a) b all = (all.0, front_free a b all.1)

begins_free : (policy : PlainPolicy) (before : List (List ℕ)) → policy.format < 2 ^ 8 → IsFree 10 (limits_text policy) → Begins policy before → Free before
begins_free policy before small limits b = front_free before b.1 (subst Free b.3 (all_free policy b.0 small limits b.2))

-- ---- a text cut into lines in two ways

-- the second way has a line more
record Longer (a b : List (List ℕ)) (r s : List ℕ) : Type 0 where
  next : List ℕ
  more : List (List ℕ)
  is : b ≡ a ++ next ∷ more
  rest : r ≡ line next ++ (text_of more ++ s)

record Same (a b : List (List ℕ)) (r s : List ℕ) : Type 0 where
  lines : a ≡ b
  rest : r ≡ s

abbrev Split : List (List ℕ) → List (List ℕ) → List ℕ → List ℕ → Type 0
Split a b r s = Same a b r s ⊎ (Longer a b r s ⊎ Longer b a s r)

with_line : (x y : List ℕ) (a b : List (List ℕ)) (r s : List ℕ) → x ≡ y → Split a b r s → Split (x ∷ a) (y ∷ b) r s
with_line x y a b r s e (inl h) = inl (record { lines = ap (λ z. z ∷ a) e ∙ ap (λ zs. y ∷ zs) h.lines; rest = h.rest })
with_line x y a b r s e (inr (inl h)) = inr (inl (record { next = h.next; more = h.more; is = ap (λ z. z ∷ b) (sym e) ∙ ap (λ zs. x ∷ zs) h.is; rest = h.rest }))
with_line x y a b r s e (inr (inr h)) = inr (inr (record { next = h.next; more = h.more; is = ap (λ z. z ∷ a) e ∙ ap (λ zs. y ∷ zs) h.is; rest = h.rest }))

lines_split : (a b : List (List ℕ)) (r s : List ℕ) → Free a → Free b → text_of a ++ r ≡ text_of b ++ s → Split a b r s
lines_split [] [] r s p q e = inl (record { lines = refl; rest = e })
lines_split [] (y ∷ b) r s p q e = inr (inl (record { next = y; more = b; is = refl; rest = e ∙ append_assoc (line y) (text_of b) s }))
lines_split (x ∷ a) [] r s p q e = inr (inr (record { next = x; more = a; is = refl; rest = sym e ∙ append_assoc (line x) (text_of a) r }))
lines_split (x ∷ a) (y ∷ b) r s p q e =
    let both = one_line 10 x y (text_of a ++ r) (text_of b ++ s) p.0 q.0 (sym (first x (text_of a) r) ∙ e ∙ first y (text_of b) s) in
    with_line x y a b r s both.0 (lines_split a b r s p.1 q.1 both.1)
  where
    first : (l t u : List ℕ) → (line l ++ t) ++ u ≡ l ++ (10 ∷ (t ++ u))
    first l t u = append_assoc (line l) t u ∙ line_end l (t ++ u)

-- ---- what begins a table's text goes on as is due

record RowAmong (format : ℕ) (ds : List (List ℕ)) (l : List ℕ) : Type 0 where
  rows : List Row
  row : Row
  before : ds ≡ map (row_text format) rows
  is : l ≡ row_text format row
  fits : Fits format row

place : (format : ℕ) (rows : List Row) (ds more : List (List ℕ)) (l : List ℕ) → AllByRecursion (Fits format) rows → map (row_text format) rows ++ done ∷ [] ≡ ds ++ l ∷ more
    → ((ds ≡ map (row_text format) rows) × (l ≡ done)) ⊎ RowAmong format ds l
place format [] [] more l all e = inl (refl, sym (ap first_of e))
place format [] (d ∷ ds) more l all e = absurd (omega (arith, ap length e, length-append ds (l ∷ more)))
place format (x ∷ rows) [] more l all e = inr (record { rows = []; row = x; before = refl; is = sym (ap first_of e); fits = all.0 })
place format (x ∷ rows) (d ∷ ds) more l all e = further (place format rows ds more l all.1 (ap (drop 1) e))
  where
    further : ((ds ≡ map (row_text format) rows) × (l ≡ done)) ⊎ RowAmong format ds l → ((d ∷ ds ≡ map (row_text format) (x ∷ rows)) × (l ≡ done)) ⊎ RowAmong format (d ∷ ds) l
    further (inl h) = inl (ap (λ z. z ∷ ds) (sym (ap first_of e)) ∙ ap (λ zs. row_text format x ∷ zs) h.0, h.1)
    further (inr h) = inr (record { rows = x ∷ h.rows; row = h.row; before = ap (λ z. z ∷ ds) (sym (ap first_of e)) ∙ ap (λ zs. row_text format x ∷ zs) h.before; is = h.is; fits = h.fits })

due : (policy : PlainPolicy) (before : List (List ℕ)) (l : List ℕ) → BeginsAny policy (before ++ l ∷ []) → IsDue policy before l
due policy [] l b = inl (b.0.states, b.0.start, _, b.2.states, b.2.start, ap (λ x. x ∷ limits_text policy ∷ table_text policy.format b.0.states b.0.start ∷ []) (ap first_of b.3))
due policy (x ∷ []) l b =
    inl (
      b.0.states,
      b.0.start,
      _,
      b.2.states,
      b.2.start,
      ap (λ z. z ∷ limits_text policy ∷ table_text policy.format b.0.states b.0.start ∷ []) (ap first_of b.3)
          ∙ ap (λ z. x ∷ z ∷ table_text policy.format b.0.states b.0.start ∷ []) (ap second_of b.3),
    )
due policy (x ∷ y ∷ []) l b =
    inl (
      b.0.states,
      b.0.start,
      _,
      b.2.states,
      b.2.start,
      ap (λ z. z ∷ limits_text policy ∷ table_text policy.format b.0.states b.0.start ∷ []) (ap first_of b.3)
          ∙ ap (λ z. x ∷ z ∷ table_text policy.format b.0.states b.0.start ∷ []) (ap second_of b.3)
          ∙ ap (λ z. x ∷ y ∷ z ∷ []) (ap third_of b.3),
    )
due policy (x ∷ y ∷ z ∷ ds) l b =
    inr (by_place (place policy.format (rows_of b.0) ds b.1 l b.2.rows (ap (drop 3) b.3 ∙ append_assoc ds (l ∷ []) b.1)))
  where
    start : (rest : List (List ℕ)) → ds ≡ rest → x ∷ y ∷ z ∷ ds ≡ head_lines policy b.0.states b.0.start ++ rest
    start rest e =
        ap (λ u. u ∷ y ∷ z ∷ ds) (sym (ap first_of b.3)) ∙ ap (λ u. header ∷ u ∷ z ∷ ds) (sym (ap second_of b.3)) ∙ ap (λ u. header ∷ limits_text policy ∷ u ∷ ds) (sym (ap third_of b.3))
        ∙ ap (λ us. header ∷ limits_text policy ∷ table_text policy.format b.0.states b.0.start ∷ us) e

    by_place : ((ds ≡ map (row_text policy.format) (rows_of b.0)) × (l ≡ done)) ⊎ RowAmong policy.format ds l → IsDone policy (x ∷ y ∷ z ∷ ds) l ⊎ ((row : Row) × IsRow policy (x ∷ y ∷ z ∷ ds) l row)
    by_place (inl h) = inl (rows_of b.0, (b.0.states, b.0.start, start _ h.0), h.1)
    by_place (inr h) = inr (h.row, (h.rows, (b.0.states, b.0.start, start _ h.before), h.fits, h.is))

any : (policy : PlainPolicy) (lines : List (List ℕ)) → Begins policy lines → BeginsAny policy lines
any policy lines b = (b.0, b.1, b.2.ordered, b.3)

fewer : (policy : PlainPolicy) (a more : List (List ℕ)) (l : List ℕ) → Begins policy (a ++ l ∷ more) → Begins policy (a ++ l ∷ [])
fewer policy a more l b = (b.0, more ++ b.1, b.2, b.3 ∙ append_assoc a (l ∷ more) b.1 ∙ sym (append_assoc a (l ∷ []) (more ++ b.1)))

same_next : (text l k : List ℕ) → GoesOn text l → GoesOn text k → k ≡ l
same_next text l k g h = the_line text l g.0 k g.1 (g.2 ∙ line_end l g.0) h

-- where something is wrong no table's text goes on
no_longer : (policy : PlainPolicy) (before : List (List ℕ)) (rest l : List ℕ) (fault : TextFault) → IsWrong policy before rest fault → GoesOn rest l → Begins policy (before ++ l ∷ []) → ⊥
no_longer policy before rest l (Line n) h g b = h.1 l g (due policy before l (any policy (before ++ l ∷ []) b))
no_longer policy before rest l (Order n) h g b = h.5 (subst (λ k. BeginsAny policy (before ++ k ∷ [])) (sym (same_next rest l h.1 g h.3)) (any policy (before ++ l ∷ []) b))
no_longer policy before rest l (Limit n) h g b = h.4 (subst (λ k. Begins policy (before ++ k ∷ [])) (sym (same_next rest l h.1 g h.2)) b)
no_longer policy before rest l NoMemory h g b = h

longer_is_wrong : (policy : PlainPolicy) (a b : List (List ℕ)) (r s : List ℕ) (fault : TextFault) → policy.format < 2 ^ 8 → IsFree 10 (limits_text policy) → Begins policy b
    → IsWrong policy a r fault → Longer a b r s → ⊥
longer_is_wrong policy a b r s fault small limits begins wrong h =
    let longer : Begins policy (a ++ h.next ∷ h.more) = subst (Begins policy) h.is begins in
    let free = begins_free policy (a ++ h.next ∷ []) small limits (fewer policy a h.more h.next longer) in
    no_longer policy a r h.next fault wrong (text_of h.more ++ s, last_free a free, h.rest) (fewer policy a h.more h.next longer)
  where
    last_free : (xs : List (List ℕ)) → Free (xs ++ h.next ∷ []) → IsFree 10 h.next
    last_free [] all = all.0
    last_free (x ∷ xs) all = last_free xs all.1

-- ---- one fault

one_wrong : (policy : PlainPolicy) (before : List (List ℕ)) (rest : List ℕ) (f g : TextFault) → IsWrong policy before rest f → IsWrong policy before rest g → f ≡ g
one_wrong policy before rest (Line m) (Line n) p q = ap Line (p.0 ∙ sym q.0)
one_wrong policy before rest (Order m) (Order n) p q = ap Order (p.0 ∙ sym q.0)
one_wrong policy before rest (Limit m) (Limit n) p q = ap Limit (p.0 ∙ sym q.0)
one_wrong policy before rest (Line m) (Order n) p q = absurd (p.1 q.1 q.3 (inr (inr (q.2, q.4))))
one_wrong policy before rest (Order m) (Line n) p q = absurd (q.1 p.1 p.3 (inr (inr (p.2, p.4))))
one_wrong policy before rest (Line m) (Limit n) p q = absurd (p.1 q.1 q.2 (due policy before q.1 q.3))
one_wrong policy before rest (Limit m) (Line n) p q = absurd (q.1 p.1 p.2 (due policy before p.1 p.3))
one_wrong policy before rest (Order m) (Limit n) p q = absurd (p.5 (subst (λ k. BeginsAny policy (before ++ k ∷ [])) (sym (same_next rest q.1 p.1 q.2 p.3)) q.3))
one_wrong policy before rest (Limit m) (Order n) p q = absurd (q.5 (subst (λ k. BeginsAny policy (before ++ k ∷ [])) (sym (same_next rest p.1 q.1 p.2 q.3)) p.3))
one_wrong policy before rest NoMemory g p q = absurd p
one_wrong policy before rest (Line m) NoMemory p q = absurd q
one_wrong policy before rest (Order m) NoMemory p q = absurd q
one_wrong policy before rest (Limit m) NoMemory p q = absurd q

pub one_fault : (policy : PlainPolicy) (text : List ℕ) (f g : TextFault) → policy.format < 2 ^ 8 → IsFree 10 (limits_text policy) → IsFault policy text f → IsFault policy text g → f ≡ g
one_fault policy text f g small limits p q = by_split (lines_split p.before q.before p.rest q.rest (begins_free policy p.before small limits p.begins)
    (begins_free policy q.before small limits q.begins) (sym p.cut ∙ q.cut))
  where
    by_split : Split p.before q.before p.rest q.rest → f ≡ g
    by_split (inl h) = one_wrong policy p.before p.rest f g p.wrong (subst (λ r. IsWrong policy p.before r g) (sym h.rest) (subst (λ b. IsWrong policy b q.rest g) (sym h.lines) q.wrong))
    by_split (inr (inl h)) = absurd (longer_is_wrong policy p.before q.before p.rest q.rest f small limits q.begins p.wrong h)
    by_split (inr (inr h)) = absurd (longer_is_wrong policy q.before p.before q.rest p.rest g small limits p.begins q.wrong h)

-- ---- one table

whole_text_is : (policy : PlainPolicy) (text : List ℕ) (t : Table) → Spells policy text t → text ≡ text_of (tables_lines policy t) ++ []
unfolding tables_text
whole_text_is policy text t p = p.spelled ∙ sym (append-nil (text_of (tables_lines policy t)))

nothing_left : (l more : List ℕ) → [] ≡ line l ++ more → ⊥
nothing_left l more e = omega (arith, ap length e, length-append (line l) more, length-append l (10 ∷ []))

pub one_table : (policy : PlainPolicy) (text : List ℕ) (t u : Table) → policy.format < 2 ^ 8 → IsFree 10 (limits_text policy) → Spells policy text t → Spells policy text u → t ≡ u
one_table policy text t u small limits p q =
    by_split (lines_split (tables_lines policy t) (tables_lines policy u) [] [] (all_free policy t small limits p.table) (all_free policy u small limits q.table)
    (sym (whole_text_is policy text t p) ∙ whole_text_is policy text u q))
  where
    by_split : Split (tables_lines policy t) (tables_lines policy u) [] [] → t ≡ u
    by_split (inl h) = same_lines policy t u small p.table q.table h.lines
    by_split (inr (inl h)) = absurd (nothing_left h.next (text_of h.more ++ []) h.rest)
    by_split (inr (inr h)) = absurd (nothing_left h.next (text_of h.more ++ []) h.rest)

no_wrong_at_end : (policy : PlainPolicy) (lines : List (List ℕ)) (fault : TextFault) → IsWhole policy lines → IsWrong policy lines [] fault → ⊥
no_wrong_at_end policy lines (Line n) whole h = h.2 whole refl
no_wrong_at_end policy lines (Order n) whole h = nothing_left h.1 h.3.0 h.3.2
no_wrong_at_end policy lines (Limit n) whole h = nothing_left h.1 h.2.0 h.2.2
no_wrong_at_end policy lines NoMemory whole h = h

pub not_both : (policy : PlainPolicy) (text : List ℕ) (t : Table) (fault : TextFault) → policy.format < 2 ^ 8 → IsFree 10 (limits_text policy) → Spells policy text t → IsFault policy text fault → ⊥
not_both policy text t fault small limits p q =
    by_split (lines_split q.before (tables_lines policy t) q.rest [] (begins_free policy q.before small limits q.begins) (all_free policy t small limits p.table)
    (sym q.cut ∙ whole_text_is policy text t p))
  where
    by_split : Split q.before (tables_lines policy t) q.rest [] → ⊥
    by_split (inl h) = no_wrong_at_end policy q.before fault (t, p.table, h.lines) (subst (λ r. IsWrong policy q.before r fault) h.rest q.wrong)
    by_split (inr (inl h)) = longer_is_wrong policy q.before (tables_lines policy t) q.rest [] fault small limits (t, [], p.table, sym (append-nil (tables_lines policy t))) q.wrong h
    by_split (inr (inr h)) = nothing_left h.next (text_of h.more ++ q.rest) h.rest

abbrev ok : Table → Result Table TextFault
ok t = Ok t

-- what a reader answers for a table's text is the table, unless memory ran out
pub read_back : (policy : PlainPolicy) (text : List ℕ) (t : Table) (answer : Result Table TextFault) → policy.format < 2 ^ 8 → IsFree 10 (limits_text policy) → Spells policy text t
    → Answers policy text answer
    → (answer ≡ Ok t) ⊎ (answer ≡ Err NoMemory)
read_back policy text t (Ok u) small limits p q = inl (ap (λ (v : Table). ok v) (one_table policy text u t small limits q p))
read_back policy text t (Err (Line n)) small limits p q = absurd (not_both policy text t (Line n) small limits p q)
read_back policy text t (Err (Order n)) small limits p q = absurd (not_both policy text t (Order n) small limits p q)
read_back policy text t (Err (Limit n)) small limits p q = absurd (not_both policy text t (Limit n) small limits p q)
read_back policy text t (Err NoMemory) small limits p q = inr refl

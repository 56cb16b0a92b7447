-- What is at fault in a text that is none of a table.
use Rattle.std.proofs.Common.{◌≡◌, ◌≢◌, ℕ, ◌+◌, ◌^◌, ◌<◌, ◌≤◌, ◌⊎◌, inl, inr, true, List, [], ◌∷◌, ◌++◌, map, length, drop, refl, sym, ap, ◌∙◌, subst, arith, append-nil, append_assoc, length-append}
use Rattle.std.specs.Prelude.{None, Err, codes}
use Rattle.std.specs.List.{AllByRecursion}
use Rattle.std.specs.List.Sorted.{IsStrictlySortedBy}
use Rattle.std.proofs.lemmas.List.{map-append, length-map}
use Rattle.std.proofs.lemmas.List.Concat.{flat_map-append}
use Rattle.cw_core.specs.declared.ids.MemId.{MemId}
use Rattle.cw_rights.specs.Policies.{PlainPolicy}
use Rattle.cw_certs.specs.Tables.{Table, table_with}
use Rattle.cw_certs.specs.Ascending.{Ascends}
use Rattle.cw_text.specs.Lines.{line, IsFree, Reads}
use Rattle.cw_text.specs.declared.fault.TextFault.{TextFault}
use Rattle.cw_text.specs.declared.fault.TextFault.TheVariants.{Line, Order, Limit, NoMemory}
use Rattle.cw_text.proofs.Free.{one_line, no_line}
use Rattle.cw_text.specs.LimitsText.{limits_line}
use Rattle.cw_text_lines.proofs.Starts.{line_end}
use Rattle.cw_table_text.specs.declared.row.Row.{Row}
use Rattle.cw_table_text.specs.declared.row.Row.TheVariants.{Memory, Live, Try, At, Opened, Closed, Into, Back}
use Rattle.cw_table_text.specs.Rows.{rows_of, row_text}
use Rattle.cw_table_text.specs.TablesText.{header, limits_text, table_text, head_lines, tables_lines, tables_text, text_of, done}
use Rattle.cw_table_text.specs.Grammar.{IsMem, Fits, IsOrdered, IsTable, Spells, BeginsAny, Begins, HasRows, IsHead, IsRow, IsDone, IsDue, GoesOn, IsWhole, IsWrong, IsFault, Answers}
use Rattle.cw_table_text.specs.Working.{FitsHead, IsEmpty, IsGood, IsRowLine, IsWrongRow, AreRead, AreWrong, RowsRead, is_next, with_row, row_lines}
use Rattle.cw_table_text.proofs.Adding.{rows_next, ascends_next, next_true}
use Rattle.std.proofs.lemmas.Bool.{false≢true}
use Rattle.cw_lemmas.proofs.Lists.{all_push}
use Rattle.cw_table_text.proofs.Pieces.{limits_is}
use Rattle.cw_table_text.proofs.Same.{rows_split, rows_have_no_end}

-- ---- a line in front of a text

-- the line with which a text goes on
pub the_line : (text a rest l : List ℕ) → IsFree 10 a → text ≡ a ++ (10 ∷ rest) → GoesOn text l → l ≡ a
the_line text a rest l free is g = (one_line 10 l a g.0 rest g.1 free (sym (line_end l g.0) ∙ sym g.2 ∙ is)).0

pub goes_on : (text a rest : List ℕ) → IsFree 10 a → text ≡ a ++ (10 ∷ rest) → GoesOn text a
goes_on text a rest free is = (rest, free, is ∙ sym (line_end a rest))

pub no_more : (text l : List ℕ) → IsFree 10 text → GoesOn text l → ⊥
no_more text l free g = no_line 10 text l g.0 free (g.2 ∙ line_end l g.0)

-- ---- an empty table

abbrev pub empty : ℕ → MemId → Table
empty states start = table_with states start [] [] [] [] [] [] [] []

pub empty_ascends : (states : ℕ) (start : MemId) → Ascends (empty states start)
unfolding IsStrictlySortedBy
empty_ascends states start = record { mems = tt; live = tt; tries = tt; ats = tt; opened = tt; closed = tt; into = tt; back = tt }

pub empty_rows : (states : ℕ) (start : MemId) → rows_of (empty states start) ≡ []
unfolding rows_of
empty_rows states start = refl

pub is_empty : (states : ℕ) (start : MemId) → IsEmpty (empty states start)
is_empty states start = record { rows = empty_rows states start; ascend = empty_ascends states start }

empty_is_table : (format states : ℕ) (start : MemId) → states < 2 ^ 16 → IsMem start → IsTable format (empty states start)
empty_is_table format states start few small = record {
  ordered = record { states = few; start = small; rows = rw (empty_rows states start) tt; ascend = empty_ascends states start };
  few = rw (empty_rows states start) (omega arith);
}

zero_mem : MemId
zero_mem = record { 0 = 0 }

begins_empty : (policy : PlainPolicy) (states : ℕ) (start : MemId) (before rest : List (List ℕ)) → states < 2 ^ 16 → IsMem start
    → tables_lines policy (empty states start) ≡ before ++ rest → Begins policy before
begins_empty policy states start before rest few small is = (empty states start, rest, empty_is_table policy.format states start few small, is)

-- ---- the lines of the head

abbrev pub first_of : List (List ℕ) → List ℕ
first_of [] = []
first_of (x ∷ xs) = x

pub has_three : (policy : PlainPolicy) (before : List (List ℕ)) (rows : List Row) → HasRows policy before rows → 3 ≤ length before
has_three policy before rows h =
    let l : length before ≡ length (row_lines policy.format rows) + 3 = ap length h.2 ∙ longer (row_lines policy.format rows) in
    omega (arith, l)
  where
    longer : (xs : List (List ℕ)) → length (head_lines policy h.0 h.1 ++ xs) ≡ length xs + 3
    longer xs = omega (arith, length-append (head_lines policy h.0 h.1) xs)

-- no line of the head comes next
pub head_fault : (policy : PlainPolicy) (text : List ℕ) (before : List (List ℕ)) (rest : List ℕ) (n : ℕ) → text ≡ text_of before ++ rest → n ≡ length before + 1 → length before < 3
    → Begins policy before
    → ((l : List ℕ) → GoesOn rest l → ¬ (IsHead policy before l)) → IsFault policy text (Line n)
head_fault policy text before rest n cut number short begins none = record {
  before = before;
  rest = rest;
  cut = cut;
  begins = begins;
  wrong = (number, not_due, not_whole);
}
  where
    too_long : (rows : List Row) → HasRows policy before rows → ⊥
    too_long rows h = let long = has_three policy before rows h in omega (arith, long, short)

    by_case : (l : List ℕ) → GoesOn rest l → IsHead policy before l ⊎ (IsDone policy before l ⊎ ((row : Row) × IsRow policy before l row)) → ⊥
    by_case l g (inl h) = none l g h
    by_case l g (inr (inl h)) = too_long h.0 h.1
    by_case l g (inr (inr h)) = too_long h.1.0 h.1.1

    not_due : (l : List ℕ) → GoesOn rest l → ¬ (IsDue policy before l)
    not_due l g h = by_case l g h

    not_whole : IsWhole policy before → rest ≢ []
    not_whole w e =
        let l : length before ≡ length (tables_lines policy w.0) = ap length w.2 in
        let m = length-append (head_lines policy w.0.states w.0.start) (map (row_text policy.format) (rows_of w.0) ++ done ∷ []) in
        omega (arith, l, m, short)

pub fault_1 : (policy : PlainPolicy) (text : List ℕ) → ((rest : List ℕ) → text ≢ codes "#include \"capweave.h\"\n" ++ rest) → IsFault policy text (Line 1)
unfolding zero_mem
fault_1 policy text none =
    head_fault policy text [] text 1 refl (omega arith) (omega arith) (begins_empty policy 0 zero_mem [] (tables_lines policy (empty 0 zero_mem)) (omega arith) (omega arith) refl)
    (λ l g h. let same : header ≡ l = ap first_of h.5 in none g.0 (g.2 ∙ ap (λ x. line x ++ g.0) (sym same)))

abbrev pub second_of : List (List ℕ) → List ℕ
second_of [] = []
second_of (x ∷ xs) = first_of xs

abbrev pub third_of : List (List ℕ) → List ℕ
third_of [] = []
third_of (x ∷ xs) = second_of xs

pub fault_2 : (policy : PlainPolicy) (text rest : List ℕ) → text ≡ codes "#include \"capweave.h\"\n" ++ rest → ((more : List ℕ) → rest ≢ limits_line policy ++ more) → IsFault policy text (Line 2)
unfolding zero_mem
fault_2 policy text rest is none =
    head_fault policy text (header ∷ []) rest 2 is (omega arith) (omega arith) (begins_empty policy 0 zero_mem (header ∷ []) _ (omega arith) (omega arith) refl)
    (λ l g h. let same : limits_text policy ≡ l = ap second_of h.5 in none g.0 (g.2 ∙ ap (λ x. line x ++ g.0) (sym same) ∙ ap (λ x. x ++ g.0) (sym (limits_is policy))))

two_lines : (policy : PlainPolicy) (text first rest : List ℕ) → text ≡ codes "#include \"capweave.h\"\n" ++ first → first ≡ limits_line policy ++ rest
    → text ≡ text_of (header ∷ limits_text policy ∷ []) ++ rest
two_lines policy text first rest is then_is =
    is ∙ ap (λ t. line header ++ t) (then_is ∙ ap (λ x. x ++ rest) (limits_is policy ∙ sym (append-nil (line (limits_text policy)))))
    ∙ sym (append_assoc (line header) (line (limits_text policy) ++ []) rest)

fault_3 : (policy : PlainPolicy) (text first rest : List ℕ) → text ≡ codes "#include \"capweave.h\"\n" ++ first → first ≡ limits_line policy ++ rest
    → ((l : List ℕ) (states : ℕ) (start : MemId) → GoesOn rest l → FitsHead (states, start) → table_text policy.format states start ≢ l) → IsFault policy text (Line 3)
unfolding zero_mem
fault_3 policy text first rest is then_is none =
    head_fault policy text (header ∷ limits_text policy ∷ []) rest 3 (two_lines policy text first rest is then_is) (omega arith) (omega arith)
    (begins_empty policy 0 zero_mem (header ∷ limits_text policy ∷ []) _ (omega arith) (omega arith) refl)
    (λ l g h. none l h.0 h.1 g (h.3, h.4) (ap third_of h.5))

pub fault_3_missing : (policy : PlainPolicy) (text first rest : List ℕ) → text ≡ codes "#include \"capweave.h\"\n" ++ first → first ≡ limits_line policy ++ rest → IsFree 10 rest
    → IsFault policy text (Line 3)
fault_3_missing policy text first rest is then_is free = fault_3 policy text first rest is then_is (λ l states start g fits e. no_more rest l free g)

pub fault_3_misspelled : (policy : PlainPolicy) (text first rest a after : List ℕ) → text ≡ codes "#include \"capweave.h\"\n" ++ first → first ≡ limits_line policy ++ rest
    → rest ≡ a ++ (10 ∷ after) → IsFree 10 a
    → ((head : ℕ × MemId) → FitsHead head → table_text policy.format head.0 head.1 ≢ a) → IsFault policy text (Line 3)
fault_3_misspelled policy text first rest a after is then_is cut free none =
    fault_3 policy text first rest is then_is (λ l states start g fits e. none (states, start) fits (e ∙ the_line rest a after l free cut g))

pub head_is : (policy : PlainPolicy) (text first rest a after : List ℕ) (states : ℕ) (start : MemId) → text ≡ codes "#include \"capweave.h\"\n" ++ first
    → first ≡ limits_line policy ++ rest → rest ≡ a ++ (10 ∷ after)
    → table_text policy.format states start ≡ a → text ≡ text_of (head_lines policy states start) ++ after
head_is policy text first rest a after states start is then_is cut fields =
    is ∙ ap (λ t. line header ++ t) (then_is ∙ ap (λ x. x ++ rest) (limits_is policy) ∙ ap (λ t. line (limits_text policy) ++ t) (cut ∙ sym (line_end a after) ∙ ap (λ x. line x ++ after) (sym fields)))
    ∙ rw (append-nil (line (table_text policy.format states start)))
    (ap (λ t. line header ++ t) (sym (append_assoc (line (limits_text policy)) (line (table_text policy.format states start)) after))
    ∙ sym (append_assoc (line header) (line (limits_text policy) ++ line (table_text policy.format states start)) after))

-- ---- the rows so far

pub rows_text : (format : ℕ) (rs : List Row) (r : Row) → text_of (row_lines format (rs ++ r ∷ [])) ≡ text_of (row_lines format rs) ++ line (row_text format r)
rows_text format rs r =
    ap text_of (map-append (row_text format) rs (r ∷ [])) ∙ flat_map-append line (row_lines format rs) (row_text format r ∷ [])
    ∙ ap (λ t. text_of (row_lines format rs) ++ t) (append-nil (line (row_text format r)))

pub start_good : (format : ℕ) (t : Table) → IsEmpty t → IsGood format t
start_good format t e = record { fits = rw e.rows tt; ascend = e.ascend; few = rw e.rows (omega arith) }

pub start_text : (format : ℕ) (t : Table) (text : List ℕ) → IsEmpty t → text ≡ text_of (row_lines format (rows_of t)) ++ text
start_text format t text e = rw e.rows refl

pub next_text : (format : ℕ) (text rest after : List ℕ) (t : Table) (row : Row) → text ≡ text_of (row_lines format (rows_of t)) ++ rest → IsRowLine format t rest row after
    → text ≡ text_of (row_lines format (rows_of (with_row t row))) ++ after
next_text format text rest after t row is r =
    is ∙ ap (λ x. text_of (row_lines format (rows_of t)) ++ x) r.is ∙ sym (append_assoc (text_of (row_lines format (rows_of t))) (line (row_text format row)) after)
    ∙ ap (λ x. x ++ after) (sym (rows_text format (rows_of t) row)) ∙ ap (λ rows. text_of (row_lines format rows) ++ after) (sym (rows_next t row r.next))

longer : (t : Table) (row : Row) → is_next t row ≡ true → length (rows_of (with_row t row)) ≡ length (rows_of t) + 1
longer t row e = ap length (rows_next t row e) ∙ length-append (rows_of t) (row ∷ [])

pub next_good : (format : ℕ) (rest after : List ℕ) (t : Table) (row : Row) → IsGood format t → IsRowLine format t rest row after → IsGood format (with_row t row)
next_good format rest after t row g r = record {
  fits = subst (AllByRecursion (Fits format)) (sym (rows_next t row r.next)) (all_push (Fits format) (rows_of t) row g.fits r.fits);
  ascend = ascends_next t row r.next g.ascend;
  few = let l = longer t row r.next in omega (arith, l, g.few, r.few);
}

pub next_count : (format count : ℕ) (rest after : List ℕ) (t : Table) (row : Row) → count ≡ length (rows_of t) → IsRowLine format t rest row after → count + 1 ≡ length (rows_of (with_row t row))
next_count format count rest after t row is r = let l = longer t row r.next in omega (arith, is, l)

pub same_states : (t : Table) (row : Row) → (with_row t row).states ≡ t.states
same_states t (Memory n m) = refl
same_states t (Live r) = refl
same_states t (Try r) = refl
same_states t (At r) = refl
same_states t (Opened r) = refl
same_states t (Closed r) = refl
same_states t (Into r) = refl
same_states t (Back r) = refl

pub same_start : (t : Table) (row : Row) → (with_row t row).start ≡ t.start
same_start t (Memory n m) = refl
same_start t (Live r) = refl
same_start t (Try r) = refl
same_start t (At r) = refl
same_start t (Opened r) = refl
same_start t (Closed r) = refl
same_start t (Into r) = refl
same_start t (Back r) = refl

-- a row that can't be taken
pub no_row : (format n : ℕ) (t : Table) (rest a after : List ℕ) → n ≡ length (rows_of t) + 4 → rest ≡ a ++ (10 ∷ after) → IsFree 10 a → a ≢ done
    → Reads (Fits format) (row_text format) a None → IsWrongRow format t rest (Line n)
no_row format n t rest a after number cut free differs h =
    (number, λ l g. let same = the_line rest a after l free cut g in ((λ e. differs (sym same ∙ e)), λ row fits e. h.none row fits (e ∙ same)))

-- ---- a fault among the rows

abbrev pub front : PlainPolicy → Table → List (List ℕ)
front policy t = head_lines policy t.states t.start ++ row_lines policy.format (rows_of t)

front_length : (policy : PlainPolicy) (t : Table) → length (front policy t) ≡ length (rows_of t) + 3
front_length policy t =
    let l = length-append (head_lines policy t.states t.start) (row_lines policy.format (rows_of t)) in
    omega (arith, l, length-map (rows_of t) (row_text policy.format))

pub front_text : (policy : PlainPolicy) (t : Table) (text rows rest : List ℕ) → text ≡ text_of (head_lines policy t.states t.start) ++ rows
    → rows ≡ text_of (row_lines policy.format (rows_of t)) ++ rest
    → text ≡ text_of (front policy t) ++ rest
front_text policy t text rows rest is then_is =
    is ∙ ap (λ x. text_of (head_lines policy t.states t.start) ++ x) then_is
    ∙ sym (append_assoc (text_of (head_lines policy t.states t.start)) (text_of (row_lines policy.format (rows_of t))) rest)
    ∙ ap (λ x. x ++ rest) (sym (flat_map-append line (head_lines policy t.states t.start) (row_lines policy.format (rows_of t))))

good_table : (policy : PlainPolicy) (t : Table) → IsGood policy.format t → FitsHead (t.states, t.start) → IsTable policy.format t
good_table policy t g head = record { ordered = record { states = head.0; start = head.1; rows = g.fits; ascend = g.ascend }; few = g.few }

all_lines : (policy : PlainPolicy) (t : Table) → tables_lines policy t ≡ front policy t ++ done ∷ []
all_lines policy t = sym (append_assoc (head_lines policy t.states t.start) (row_lines policy.format (rows_of t)) (done ∷ []))

begins_rows : (policy : PlainPolicy) (t : Table) → IsGood policy.format t → FitsHead (t.states, t.start) → Begins policy (front policy t)
begins_rows policy t g head = (t, done ∷ [], good_table policy t g head, all_lines policy t)

-- the rows of a table whose lines go on so
pub rows_go_on : (policy : PlainPolicy) (t u : Table) (row : Row) (more : List (List ℕ)) → AllByRecursion (Fits policy.format) (rows_of t)
    → AllByRecursion (Fits policy.format) (rows_of u) → Fits policy.format row
    → tables_lines policy u ≡ (front policy t ++ row_text policy.format row ∷ []) ++ more → (rest : List Row) × (rows_of u ≡ rows_of t ++ row ∷ rest)
rows_go_on policy t u row more p q r e =
    rows_split policy.format (rows_of t) (rows_of u) row more p q r
    (ap (drop 3) (e ∙ append_assoc (front policy t) (row_text policy.format row ∷ []) more
    ∙ append_assoc (head_lines policy t.states t.start) (row_lines policy.format (rows_of t)) (row_text policy.format row ∷ more)))

-- the lines of a table with the next row
begins_next : (policy : PlainPolicy) (t : Table) (row : Row) → IsGood policy.format t → FitsHead (t.states, t.start) → Fits policy.format row → is_next t row ≡ true
    → BeginsAny policy (front policy t ++ row_text policy.format row ∷ [])
begins_next policy t row g head fits next = (with_row t row, done ∷ [], ordered, lines)
  where
    ordered : IsOrdered policy.format (with_row t row)
    ordered = record {
      states = rw (same_states t row) head.0;
      start = rw (same_start t row) head.1;
      rows = subst (AllByRecursion (Fits policy.format)) (sym (rows_next t row next)) (all_push (Fits policy.format) (rows_of t) row g.fits fits);
      ascend = ascends_next t row next g.ascend;
    }

    lines : tables_lines policy (with_row t row) ≡ (front policy t ++ row_text policy.format row ∷ []) ++ done ∷ []
    lines = rw (same_states t row, same_start t row, rows_next t row next, map-append (row_text policy.format) (rows_of t) (row ∷ []))
        (simp append_assoc)

wrong_row : (policy : PlainPolicy) (t : Table) (rest : List ℕ) (fault : TextFault) → IsGood policy.format t → FitsHead (t.states, t.start) → fault ≢ NoMemory
    → IsWrongRow policy.format t rest fault → IsWrong policy (front policy t) rest fault
wrong_row policy t rest (Line n) g head real h = (let l = front_length policy t in omega (arith, h.0, l), not_due, not_whole)
  where
    by_case : (l : List ℕ) → GoesOn rest l → IsHead policy (front policy t) l ⊎ (IsDone policy (front policy t) l ⊎ ((row : Row) × IsRow policy (front policy t) l row)) → ⊥
    by_case l on (inl e) =
        let long : 3 ≡ length (front policy t ++ l ∷ e.2) = ap length e.5 in
        omega (arith, long, length-append (front policy t) (l ∷ e.2), front_length policy t)
    by_case l on (inr (inl e)) = (h.1 l on).0 e.2
    by_case l on (inr (inr e)) = (h.1 l on).1 e.0 e.1.2 (sym e.1.3)

    not_due : (l : List ℕ) → GoesOn rest l → ¬ (IsDue policy (front policy t) l)
    not_due l on e = by_case l on e

    not_whole : IsWhole policy (front policy t) → rest ≢ []
    not_whole w e = rows_have_no_end policy.format (rows_of t) (row_lines policy.format (rows_of w.0)) (ap (drop 3) w.2)
wrong_row policy t rest (Order n) g head real h =
    (let l = front_length policy t in omega (arith, h.0, l), h.1, h.2, h.3, (rows_of t, (t.states, t.start, refl), h.4, sym h.5), unordered)
  where
    unordered : ¬ (BeginsAny policy (front policy t ++ h.1 ∷ []))
    unordered b =
        let on = rows_go_on policy t b.0 h.2 b.1 g.fits b.2.rows h.4 (b.3 ∙ ap (λ l. (front policy t ++ l ∷ []) ++ b.1) (sym h.5)) in
        false≢true (sym h.6 ∙ next_true t b.0 h.2 on.0 b.2.ascend on.1)
wrong_row policy t rest (Limit n) g head real h =
    (let l = front_length policy t in omega (arith, h.0, l), h.1, h.3, begins_more, too_many)
  where
    begins_more : BeginsAny policy (front policy t ++ h.1 ∷ [])
    begins_more = subst (λ l. BeginsAny policy (front policy t ++ l ∷ [])) h.5 (begins_next policy t h.2 g head h.4 h.6)

    too_many : ¬ (Begins policy (front policy t ++ h.1 ∷ []))
    too_many b =
        let on = rows_go_on policy t b.0 h.2 b.1 g.fits b.2.ordered.rows h.4 (b.3 ∙ ap (λ l. (front policy t ++ l ∷ []) ++ b.1) (sym h.5)) in
        omega (arith, ap length on.1, length-append (rows_of t) (h.2 ∷ on.0), b.2.few, h.7)
wrong_row policy t rest NoMemory g head real h = absurd (real refl)

pub a_fault : (policy : PlainPolicy) (text rows : List ℕ) (old new : Table) (fault : TextFault) (rest : List ℕ) → FitsHead (old.states, old.start)
    → text ≡ text_of (head_lines policy old.states old.start) ++ rows
    → AreWrong policy.format rows old new rest fault → fault ≢ NoMemory → IsFault policy text fault
a_fault policy text rows old new fault rest head is h real =
    let same : text ≡ text_of (head_lines policy new.states new.start) ++ rows = is ∙ ap (λ n. text_of (head_lines policy n old.start) ++ rows) (sym h.states)
    ∙ ap (λ m. text_of (head_lines policy new.states m) ++ rows) (sym h.start) in
    let fits : FitsHead (new.states, new.start) = (rw h.states head.0, rw h.start head.1) in
    record {
      before = front policy new;
      rest = rest;
      cut = front_text policy new text rows rest same h.is;
      begins = begins_rows policy new h.good fits;
      wrong = wrong_row policy new rest fault h.good fits real h.wrong;
    }

pub rows_fault : (policy : PlainPolicy) (text rows : List ℕ) (old new : Table) (fault : TextFault) → FitsHead (old.states, old.start) → text ≡ text_of (head_lines policy old.states old.start) ++ rows
    → RowsRead policy.format rows old new (Err fault) → Answers policy text (Err fault)
rows_fault policy text rows old new (Line n) head is h = a_fault policy text rows old new (Line n) h.0 head is h.1 (λ e. absurd (cc))
rows_fault policy text rows old new (Order n) head is h = a_fault policy text rows old new (Order n) h.0 head is h.1 (λ e. absurd (cc))
rows_fault policy text rows old new (Limit n) head is h = a_fault policy text rows old new (Limit n) h.0 head is h.1 (λ e. absurd (cc))
rows_fault policy text rows old new NoMemory head is h = tt

-- ---- the whole text

-- the text up to the end
whole_is : (policy : PlainPolicy) (text rows rest : List ℕ) (old new : Table) (count : ℕ) → text ≡ text_of (head_lines policy old.states old.start) ++ rows
    → AreRead policy.format rows old new count rest
    → text ≡ text_of (tables_lines policy new) ++ rest
whole_is policy text rows rest old new count is h =
    let same : text ≡ text_of (head_lines policy new.states new.start) ++ rows = is ∙ ap (λ n. text_of (head_lines policy n old.start) ++ rows) (sym h.states)
    ∙ ap (λ m. text_of (head_lines policy new.states m) ++ rows) (sym h.start) in
    front_text policy new text rows (line done ++ rest) same h.is
    ∙ sym (append_assoc (text_of (front policy new)) (line done) rest)
    ∙ ap (λ x. (text_of (front policy new) ++ x) ++ rest) (sym (append-nil (line done)))
    ∙ ap (λ x. x ++ rest) (sym (flat_map-append line (front policy new) (done ∷ [])) ∙ ap text_of (sym (all_lines policy new)))

head_kept : (old new : Table) → new.states ≡ old.states → new.start ≡ old.start → FitsHead (old.states, old.start) → FitsHead (new.states, new.start)
head_kept old new states start head = (rw states head.0, rw start head.1)

pub reads_table : (policy : PlainPolicy) (text rows rest : List ℕ) (old new : Table) (count : ℕ) → FitsHead (old.states, old.start) → text ≡ text_of (head_lines policy old.states old.start) ++ rows
    → AreRead policy.format rows old new count rest → rest ≡ [] → Spells policy text new
unfolding tables_text
reads_table policy text rows rest old new count head is h none = record {
  table = good_table policy new h.good (head_kept old new h.states h.start head);
  spelled = whole_is policy text rows rest old new count is h ∙ ap (λ x. text_of (tables_lines policy new) ++ x) none ∙ append-nil (text_of (tables_lines policy new));
}

-- no line is due behind the last
nothing_due : (policy : PlainPolicy) (t : Table) (l : List ℕ) → ¬ (IsDue policy (tables_lines policy t) l)
nothing_due policy t l e = by_case e
  where
    by_case : IsHead policy (tables_lines policy t) l ⊎ (IsDone policy (tables_lines policy t) l ⊎ ((row : Row) × IsRow policy (tables_lines policy t) l row)) → ⊥
    by_case (inl h) =
        let long : 3 ≡ length (tables_lines policy t ++ l ∷ h.2) = ap length h.5 in
        omega (arith, long, length-append (tables_lines policy t) (l ∷ h.2), length-append (head_lines policy t.states t.start) (row_lines policy.format (rows_of t) ++ done ∷ []))
    by_case (inr (inl h)) = rows_have_no_end policy.format h.0 (row_lines policy.format (rows_of t)) (sym (ap (drop 3) h.1.2))
    by_case (inr (inr h)) = rows_have_no_end policy.format h.1.0 (row_lines policy.format (rows_of t)) (sym (ap (drop 3) h.1.1.2))

pub behind_fault : (policy : PlainPolicy) (text rows rest : List ℕ) (old new : Table) (count n : ℕ) → FitsHead (old.states, old.start) → text ≡ text_of (head_lines policy old.states old.start) ++ rows
    → AreRead policy.format rows old new count rest → rest ≢ [] → n ≡ count + 5 → IsFault policy text (Line n)
behind_fault policy text rows rest old new count n head is h some number = record {
  before = tables_lines policy new;
  rest = rest;
  cut = whole_is policy text rows rest old new count is h;
  begins = (new, [], good_table policy new h.good (head_kept old new h.states h.start head), sym (append-nil (tables_lines policy new)));
  wrong = (numbered, (λ l g. nothing_due policy new l), λ w. some);
}
  where
    numbered : n ≡ length (tables_lines policy new) + 1
    numbered =
        let l : length (tables_lines policy new) ≡ length (front policy new) + 1 = ap length (all_lines policy new) ∙ length-append (front policy new) (done ∷ []) in
        omega (arith, l, front_length policy new, number, h.count_is)

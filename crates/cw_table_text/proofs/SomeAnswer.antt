-- Each text is that of a table or has a fault: what decides it, field by field and line by line.
use Rattle.std.proofs.Common.{◌≡◌, ◌≢◌, ℕ, zero, suc, ◌+◌, ◌^◌, ◌<◌, ◌⊎◌, inl, inr, Bool, true, false, eqb, List, [], ◌∷◌, ◌++◌, length, refl, sym, ap, ◌∙◌, arith, length-append}
use Rattle.std.specs.Prelude.{Option, None, Some, codes}
use Rattle.std.proofs.lemmas.Bool.{cases_eq}
use Rattle.cw_lemmas.proofs.Texts.{bytes_or_not, begins_or_not}
use Rattle.cw_core.specs.StateSet.{IsBelow}
use Rattle.cw_core.specs.declared.ids.StateId.{StateId}
use Rattle.cw_core.specs.declared.ids.MemId.{MemId}
use Rattle.cw_core.proofs.Sets.{IsBelow-lt, IsBelow_from_lt}
use Rattle.cw_rights.specs.Policies.{PlainPolicy}
use Rattle.cw_certs.specs.Tables.{Table}
use Rattle.cw_text.specs.Lines.{line, IsFree, IsSetIn}
use Rattle.cw_text.specs.declared.fault.TextFault.{TextFault}
use Rattle.cw_text.specs.declared.fault.TextFault.TheVariants.{Line, Order, Limit, NoMemory}
use Rattle.cw_text.specs.LimitsText.{limits_line}
use Rattle.cw_text_lines.proofs.Starts.{first_line, line_end}
use Rattle.cw_table_text.specs.declared.row.Row.{Row}
use Rattle.cw_table_text.specs.declared.row.Row.TheVariants.{Memory, Live, Try, At, Opened, Closed, Into, Back}
use Rattle.cw_table_text.specs.Grammar.{IsAnswer, Fits, Spells, IsFault}
use Rattle.cw_table_text.specs.Rows.{rows_of, row_text}
use Rattle.cw_table_text.specs.TablesText.{table_text, head_lines, text_of, done}
use Rattle.cw_table_text.specs.Working.{FitsHead, IsGood, IsRowLine, IsWrongRow, AreRead, AreWrong, is_next, with_row, row_lines}
use Rattle.cw_table_text.proofs.Faults.{goes_on, no_more, empty, is_empty, fault_1, fault_2, fault_3_missing, fault_3_misspelled, head_is, start_good, start_text}
use Rattle.cw_table_text.proofs.Faults.{next_text, next_good, same_states, same_start, no_row, a_fault, reads_table, behind_fault}
use Rattle.cw_table_text.proofs.Same.{mem_of, pos_of, state_of, at_row, open_row, into_row, back_row, try_row}

-- ---- what can be decided

-- a value that fits and has this text, or none
abbrev Sought : {A : Type 0} → (A → Type 0) → (A → List ℕ) → List ℕ → Type 0
Sought {A} Fit f text = ((a : A) × Fit a × (f a ≡ text)) ⊎ ((a : A) → Fit a → f a ≢ text)

abbrev Seek : {A : Type 0} → (A → Type 0) → Type 0
Seek {A} Fit = (f : A → List ℕ) (text : List ℕ) → Sought Fit f text

abbrev Last : Type 0
Last = Unit {0}

abbrev FitsLast : Last → Type 0
FitsLast u = Unit {0}

seek_last : Seek FitsLast
seek_last f text = by_text (bytes_or_not (f tt) text)
  where
    by_text : (f tt ≡ text) ⊎ (f tt ≢ text) → Sought FitsLast f text
    by_text (inl e) = inl (tt, tt, e)
    by_text (inr differs) = inr (λ u fits. differs)

-- a number below a bound, and more
abbrev Below : {B : Type 0} → ℕ → (B → Type 0) → ℕ × B → Type 0
Below bound Fit p = (p.0 < bound) × Fit p.1

seek_number : {B : Type 0} (bound : ℕ) (Fit : B → Type 0) → Seek Fit → Seek (Below bound Fit)
seek_number zero Fit seek f text = inr (λ p fits e. omega (arith, fits.0))
seek_number {B} (suc bound) Fit seek f text = by_lower (seek_number bound Fit seek f text)
  where
    by_this : ((p : ℕ × B) → Below bound Fit p → f p ≢ text) → Sought Fit (λ b. f (bound, b)) text → Sought (Below (suc bound) Fit) f text
    by_this none (inl p) = inl ((bound, p.0), (omega arith, p.1), p.2)
    by_this none (inr other) = inr (λ p fits e. elim (cases_eq p.0 bound) [
      | inl same ↦ other p.1 fits.1 (ap (λ n. f (n, p.1)) (sym same) ∙ e)
      | inr differs ↦ none p (omega (arith, fits.0, differs), fits.1) e
    ])

    by_lower : Sought (Below bound Fit) f text → Sought (Below (suc bound) Fit) f text
    by_lower (inl p) = inl (p.0, (let low = p.1.0 in omega (arith, low), p.1.1), p.2)
    by_lower (inr none) = by_this none (seek (λ b. f (bound, b)) text)

abbrev Either : {B : Type 0} → (B → Type 0) → Bool × B → Type 0
Either Fit p = Fit p.1

seek_mode : {B : Type 0} (Fit : B → Type 0) → Seek Fit → Seek {A = Bool × B} (Either Fit)
seek_mode {B} Fit seek f text = by_both (seek (λ b. f (false, b)) text) (seek (λ b. f (true, b)) text)
  where
    by_both : Sought Fit (λ b. f (false, b)) text → Sought Fit (λ b. f (true, b)) text → Sought {A = Bool × B} (Either Fit) f text
    by_both (inl p) other = inl ((false, p.0), p.1, p.2)
    by_both (inr none) (inl p) = inl ((true, p.0), p.1, p.2)
    by_both (inr none) (inr no_more) = inr (λ p fits e. by_mode p.0 p.1 fits e)
      where
        by_mode : (mode : Bool) (b : B) → Fit b → f (mode, b) ≢ text
        by_mode false b fits e = none b fits e
        by_mode true b fits e = no_more b fits e

abbrev Answered : {B : Type 0} → (B → Type 0) → Option MemId × B → Type 0
Answered Fit p = IsAnswer p.0 × Fit p.1

seek_answer : {B : Type 0} (Fit : B → Type 0) → Seek Fit → Seek {A = Option MemId × B} (Answered Fit)
seek_answer {B} Fit seek f text = by_both (seek (λ b. f (None, b)) text) (seek_number (2 ^ 32) Fit seek (λ p. f (Some (mem_of p.0), p.1)) text)
  where
    by_both : Sought Fit (λ b. f (None, b)) text → Sought (Below (2 ^ 32) Fit) (λ p. f (Some (mem_of p.0), p.1)) text → Sought {A = Option MemId × B} (Answered Fit) f text
    by_both (inl p) other = inl ((None, p.0), (tt, p.1), p.2)
    by_both (inr none) (inl p) = inl ((Some (mem_of p.0.0), p.0.1), (p.1.0, p.1.1), p.2)
    by_both (inr none) (inr no_more) = inr (λ p fits e. by_answer p.0 p.1 fits.0 fits.1 e)
      where
        by_answer : (a : Option MemId) (b : B) → IsAnswer a → Fit b → f (a, b) ≢ text
        by_answer None b small fits e = none b fits e
        by_answer (Some m) b small fits e = no_more (m.0, b) (small, fits) e

-- ---- the row of a line

-- a row of one kind with this line, or none
abbrev RowKind : (format : ℕ) {A : Type 0} → (A → Row) → List ℕ → Type 0
RowKind format {A} row l = ((a : A) × Fits format (row a) × (row_text format (row a) ≡ l)) ⊎ ((a : A) → Fits format (row a) → row_text format (row a) ≢ l)

live_kind : (format : ℕ) (l : List ℕ) → RowKind format Live l
live_kind format l = by_seek ((seek_number (2 ^ 32) (Below (2 ^ 32) FitsLast) (seek_number (2 ^ 32) FitsLast seek_last)) (λ p. row_text format (Live (pos_of p.0, mem_of p.1.0))) l)
  where
    by_seek : Sought (Below (2 ^ 32) (Below (2 ^ 32) FitsLast)) (λ p. row_text format (Live (pos_of p.0, mem_of p.1.0))) l → RowKind format Live l
    by_seek (inl q) = let p = q.0 in let fits = q.1 in inl ((pos_of p.0, mem_of p.1.0), (fits.0, fits.1.0), q.2)
    by_seek (inr none) = inr (λ r fit e. none (r.0.0, (r.1.0, tt)) (fit.0, (fit.1, tt)) e)

try_kind : (format : ℕ) (l : List ℕ) → RowKind format Try l
try_kind format l = by_seek ((seek_number (2 ^ 32) (Below (2 ^ 8) (Below (2 ^ 32) (Answered (Answered FitsLast))))
    (seek_number (2 ^ 8) (Below (2 ^ 32) (Answered (Answered FitsLast)))
    (seek_number (2 ^ 32) (Answered (Answered FitsLast)) (seek_answer (Answered FitsLast) (seek_answer FitsLast seek_last)))))
    (λ p. row_text format (Try (try_row p.0 p.1.0 p.1.1.0 p.1.1.1.0 p.1.1.1.1.0))) l)
  where
    by_seek : Sought (Below (2 ^ 32) (Below (2 ^ 8) (Below (2 ^ 32) (Answered (Answered FitsLast))))) (λ p. row_text format (Try (try_row p.0 p.1.0 p.1.1.0 p.1.1.1.0 p.1.1.1.1.0))) l
        → RowKind format Try l
    by_seek (inl q) = let p = q.0 in let fits = q.1 in inl ((try_row p.0 p.1.0 p.1.1.0 p.1.1.1.0 p.1.1.1.1.0), (fits.0, fits.1.0, fits.1.1.0, fits.1.1.1.0, fits.1.1.1.1.0), q.2)
    by_seek (inr none) = inr (λ r fit e. none (r.seam.0, (r.stage, (r.mem.0, (r.granted, (r.refused, tt))))) (fit.0, (fit.1, (fit.2, (fit.3, (fit.4, tt))))) e)

at_kind : (format : ℕ) (l : List ℕ) → RowKind format At l
at_kind format l = by_seek ((seek_number (2 ^ 32) (Below (2 ^ 32) (Below (2 ^ 32) FitsLast)) (seek_number (2 ^ 32) (Below (2 ^ 32) FitsLast) (seek_number (2 ^ 32) FitsLast seek_last)))
    (λ p. row_text format (At (at_row p.0 p.1.0 p.1.1.0))) l)
  where
    by_seek : Sought (Below (2 ^ 32) (Below (2 ^ 32) (Below (2 ^ 32) FitsLast))) (λ p. row_text format (At (at_row p.0 p.1.0 p.1.1.0))) l → RowKind format At l
    by_seek (inl q) = let p = q.0 in let fits = q.1 in inl ((at_row p.0 p.1.0 p.1.1.0), (fits.0, fits.1.0, fits.1.1.0), q.2)
    by_seek (inr none) = inr (λ r fit e. none (r.seam.0, (r.mem.0, (r.after.0, tt))) (fit.0, (fit.1, (fit.2, tt))) e)

opened_kind : (format : ℕ) (l : List ℕ) → RowKind format Opened l
opened_kind format l = by_seek ((seek_number (2 ^ 32) (Below (2 ^ 32) (Below (2 ^ 32) (Below (2 ^ 32) FitsLast)))
    (seek_number (2 ^ 32) (Below (2 ^ 32) (Below (2 ^ 32) FitsLast)) (seek_number (2 ^ 32) (Below (2 ^ 32) FitsLast) (seek_number (2 ^ 32) FitsLast seek_last))))
    (λ p. row_text format (Opened (open_row p.0 p.1.0 p.1.1.0 p.1.1.1.0))) l)
  where
    by_seek : Sought (Below (2 ^ 32) (Below (2 ^ 32) (Below (2 ^ 32) (Below (2 ^ 32) FitsLast)))) (λ p. row_text format (Opened (open_row p.0 p.1.0 p.1.1.0 p.1.1.1.0))) l → RowKind format Opened l
    by_seek (inl q) = let p = q.0 in let fits = q.1 in inl ((open_row p.0 p.1.0 p.1.1.0 p.1.1.1.0), (fits.0, fits.1.0, fits.1.1.0, fits.1.1.1.0), q.2)
    by_seek (inr none) = inr (λ r fit e. none (r.seam.0, (r.mem.0, (r.opened.0, (r.failed.0, tt)))) (fit.0, (fit.1, (fit.2, (fit.3, tt)))) e)

closed_kind : (format : ℕ) (l : List ℕ) → RowKind format Closed l
closed_kind format l = by_seek ((seek_number (2 ^ 32) (Below (2 ^ 32) (Below (2 ^ 32) FitsLast))
    (seek_number (2 ^ 32) (Below (2 ^ 32) FitsLast) (seek_number (2 ^ 32) FitsLast seek_last))) (λ p. row_text format (Closed (at_row p.0 p.1.0 p.1.1.0))) l)
  where
    by_seek : Sought (Below (2 ^ 32) (Below (2 ^ 32) (Below (2 ^ 32) FitsLast))) (λ p. row_text format (Closed (at_row p.0 p.1.0 p.1.1.0))) l → RowKind format Closed l
    by_seek (inl q) = let p = q.0 in let fits = q.1 in inl ((at_row p.0 p.1.0 p.1.1.0), (fits.0, fits.1.0, fits.1.1.0), q.2)
    by_seek (inr none) = inr (λ r fit e. none (r.seam.0, (r.mem.0, (r.after.0, tt))) (fit.0, (fit.1, (fit.2, tt))) e)

into_kind : (format : ℕ) (l : List ℕ) → RowKind format Into l
into_kind format l = by_seek ((seek_number (2 ^ 32) (Either (Below (2 ^ 32) (Below (2 ^ 32) FitsLast)))
    (seek_mode (Below (2 ^ 32) (Below (2 ^ 32) FitsLast)) (seek_number (2 ^ 32) (Below (2 ^ 32) FitsLast) (seek_number (2 ^ 32) FitsLast seek_last))))
    (λ p. row_text format (Into (into_row p.0 p.1.0 p.1.1.0 p.1.1.1.0))) l)
  where
    by_seek : Sought (Below (2 ^ 32) (Either (Below (2 ^ 32) (Below (2 ^ 32) FitsLast)))) (λ p. row_text format (Into (into_row p.0 p.1.0 p.1.1.0 p.1.1.1.0))) l → RowKind format Into l
    by_seek (inl q) = let p = q.0 in let fits = q.1 in inl ((into_row p.0 p.1.0 p.1.1.0 p.1.1.1.0), (fits.0, fits.1.0, fits.1.1.0), q.2)
    by_seek (inr none) = inr (λ r fit e. none (r.seam.0, (r.split, (r.mem.0, (r.callee.0, tt)))) (fit.0, (fit.1, (fit.2, tt))) e)

back_kind : (format : ℕ) (l : List ℕ) → RowKind format Back l
back_kind format l = by_seek ((seek_number (2 ^ 32) (Either (Below (2 ^ 32) (Below (2 ^ 16) (Below (2 ^ 32) FitsLast))))
    (seek_mode (Below (2 ^ 32) (Below (2 ^ 16) (Below (2 ^ 32) FitsLast)))
    (seek_number (2 ^ 32) (Below (2 ^ 16) (Below (2 ^ 32) FitsLast)) (seek_number (2 ^ 16) (Below (2 ^ 32) FitsLast) (seek_number (2 ^ 32) FitsLast seek_last)))))
    (λ p. row_text format (Back (back_row p.0 p.1.0 p.1.1.0 p.1.1.1.0 p.1.1.1.1.0))) l)
  where
    by_seek : Sought (Below (2 ^ 32) (Either (Below (2 ^ 32) (Below (2 ^ 16) (Below (2 ^ 32) FitsLast)))))
        (λ p. row_text format (Back (back_row p.0 p.1.0 p.1.1.0 p.1.1.1.0 p.1.1.1.1.0))) l → RowKind format Back l
    by_seek (inl q) = let p = q.0 in let fits = q.1 in inl ((back_row p.0 p.1.0 p.1.1.0 p.1.1.1.0 p.1.1.1.1.0), (fits.0, fits.1.0, fits.1.1.0, fits.1.1.1.0), q.2)
    by_seek (inr none) = inr (λ r fit e. none (r.seam.0, (r.split, (r.mem.0, (r.exit.0, (r.after.0, tt))))) (fit.0, (fit.1, (fit.2, (fit.3, tt)))) e)

abbrev memory_row : ℕ × (StateId × ℕ) → Row
memory_row p = Memory p.0 p.1

memory_of : (format size : ℕ) (l : List ℕ) → ((set : ℕ) → IsBelow size set → IsSetIn format set) → ((set : ℕ) → IsSetIn format set → IsBelow size set) → RowKind format memory_row l
memory_of format size l here there =
    by_seek (seek_number (2 ^ 32) (Below (2 ^ 16) (Below (2 ^ size) FitsLast)) (seek_number (2 ^ 16) (Below (2 ^ size) FitsLast) (seek_number (2 ^ size) FitsLast seek_last))
    (λ p. row_text format (Memory p.0 (state_of p.1.0, p.1.1.0))) l)
  where
    by_seek : Sought (Below (2 ^ 32) (Below (2 ^ 16) (Below (2 ^ size) FitsLast))) (λ p. row_text format (Memory p.0 (state_of p.1.0, p.1.1.0))) l → RowKind format memory_row l
    by_seek (inl q) = let p = q.0 in let fits = q.1 in inl ((p.0, (state_of p.1.0, p.1.1.0)), (fits.0, fits.1.0, here p.1.1.0 (IsBelow_from_lt size p.1.1.0 fits.1.1.0)), q.2)
    by_seek (inr none) = inr (λ r fit e. none (r.0, (r.1.0.0, (r.1.1, tt))) (fit.0, (fit.1, (IsBelow-lt size r.1.1 (there r.1.1 fit.2), tt))) e)

memory_kind : (format : ℕ) (l : List ℕ) → RowKind format memory_row l
memory_kind format l = by_format (eqb format 2) refl
  where
    by_format : (t : Bool) → eqb format 2 ≡ t → RowKind format memory_row l
    by_format true is = memory_of format 1024 l (λ set h. rw is h) (λ set h. rw is at h)
    by_format false is = memory_of format 512 l (λ set h. rw is h) (λ set h. rw is at h)

abbrev HasRow : (format : ℕ) → List ℕ → Type 0
HasRow format l = (row : Row) × Fits format row × (row_text format row ≡ l)

row_sought : (format : ℕ) (l : List ℕ) → HasRow format l ⊎ ((row : Row) → Fits format row → row_text format row ≢ l)
row_sought format l = by_memory (memory_kind format l) (live_kind format l) (try_kind format l) (at_kind format l) (opened_kind format l) (closed_kind format l) (into_kind format l)
    (back_kind format l)
  where
    by_memory : RowKind format memory_row l → RowKind format Live l → RowKind format Try l → RowKind format At l → RowKind format Opened l → RowKind format Closed l → RowKind format Into l
        → RowKind format Back l → HasRow format l ⊎ ((row : Row) → Fits format row → row_text format row ≢ l)
    by_memory (inl p) a b c d e f g = inl (Memory p.0.0 p.0.1, p.1, p.2)
    by_memory (inr m) (inl p) b c d e f g = inl (Live p.0, p.1, p.2)
    by_memory (inr m) (inr a) (inl p) c d e f g = inl (Try p.0, p.1, p.2)
    by_memory (inr m) (inr a) (inr b) (inl p) d e f g = inl (At p.0, p.1, p.2)
    by_memory (inr m) (inr a) (inr b) (inr c) (inl p) e f g = inl (Opened p.0, p.1, p.2)
    by_memory (inr m) (inr a) (inr b) (inr c) (inr d) (inl p) f g = inl (Closed p.0, p.1, p.2)
    by_memory (inr m) (inr a) (inr b) (inr c) (inr d) (inr e) (inl p) g = inl (Into p.0, p.1, p.2)
    by_memory (inr m) (inr a) (inr b) (inr c) (inr d) (inr e) (inr f) (inl p) = inl (Back p.0, p.1, p.2)
    by_memory (inr m) (inr a) (inr b) (inr c) (inr d) (inr e) (inr f) (inr g) = inr by_row
      where
        by_row : (row : Row) → Fits format row → row_text format row ≢ l
        by_row (Memory n x) fits is = m (n, x) fits is
        by_row (Live r) fits is = a r fits is
        by_row (Try r) fits is = b r fits is
        by_row (At r) fits is = c r fits is
        by_row (Opened r) fits is = d r fits is
        by_row (Closed r) fits is = e r fits is
        by_row (Into r) fits is = f r fits is
        by_row (Back r) fits is = g r fits is

-- ---- lines

-- ---- rows

record Found (format : ℕ) (text : List ℕ) (old : Table) : Type 0 where
  new : Table
  rest : List ℕ
  read : AreRead format text old new (length (rows_of new)) rest

record Failed (format : ℕ) (text : List ℕ) (old : Table) : Type 0 where
  new : Table
  rest : List ℕ
  fault : TextFault
  real : fault ≢ NoMemory
  wrong : AreWrong format text old new rest fault

-- the rows so far, and what is left
record SoFar (format : ℕ) (text : List ℕ) (old t : Table) (rest : List ℕ) : Type 0 where
  is : text ≡ text_of (row_lines format (rows_of t)) ++ rest
  good : IsGood format t
  states : t.states ≡ old.states
  start : t.start ≡ old.start

abbrev Outcome : ℕ → List ℕ → Table → Type 0
Outcome format text old = Found format text old ⊎ Failed format text old

fails : (format : ℕ) (text : List ℕ) (old t : Table) (rest : List ℕ) (fault : TextFault) → SoFar format text old t rest → fault ≢ NoMemory → IsWrongRow format t rest fault → Outcome format text old
fails format text old t rest fault s real h = inr (record
    { new = t; rest = rest; fault = fault; real = real; wrong = record { is = s.is; good = s.good; states = s.states; start = s.start; wrong = h } })

abbrev Again : ℕ → ℕ → List ℕ → Table → Type 0
Again fuel format text old = (u : Table) (left : List ℕ) → length left < fuel → SoFar format text old u left → Outcome format text old

rows_end : (format : ℕ) (fuel : ℕ) (text : List ℕ) (old t : Table) (rest : List ℕ) → length rest < fuel → SoFar format text old t rest → Outcome format text old
rows_end format zero text old t rest short s = absurd (omega (arith, short))
rows_end format (suc fuel) text old t rest short s = by_line (λ u left low so. rows_end format fuel text old u left low so) (first_line rest)
  where
    by_room : Again fuel format text old → (l after : List ℕ) (row : Row) → rest ≡ l ++ (10 ∷ after) → IsFree 10 l → Fits format row → row_text format row ≡ l → is_next t row ≡ true
        → (length (rows_of t) ≡ 65536) ⊎ (length (rows_of t) ≢ 65536) → Outcome format text old
    by_room again l after row cut free fits is next (inl full) =
        fails format text old t rest (Limit (length (rows_of t) + 4)) s (λ e. absurd (cc)) (refl, l, row, goes_on rest l after free cut, fits, is, next, full)
    by_room again l after row cut free fits is next (inr room) =
        let this : IsRowLine format t rest row after = record { is = cut ∙ sym (line_end l after) ∙ ap (λ x. line x ++ after) (sym is); fits = fits; next = next; few = room } in
        again (with_row t row) after (omega (arith, short, ap length cut, length-append l (10 ∷ after))) (record {
          is = next_text format text rest after t row s.is this;
          good = next_good format rest after t row s.good this;
          states = same_states t row ∙ s.states;
          start = same_start t row ∙ s.start;
        })

    by_next : Again fuel format text old → (l after : List ℕ) (row : Row) → rest ≡ l ++ (10 ∷ after) → IsFree 10 l → Fits format row → row_text format row ≡ l → (b : Bool)
        → is_next t row ≡ b → Outcome format text old
    by_next again l after row cut free fits is true next = by_room again l after row cut free fits is next (cases_eq (length (rows_of t)) 65536)
    by_next again l after row cut free fits is false next =
        fails format text old t rest (Order (length (rows_of t) + 4)) s (λ e. absurd (cc)) (refl, l, row, goes_on rest l after free cut, fits, is, next)

    by_row : Again fuel format text old → (l after : List ℕ) → rest ≡ l ++ (10 ∷ after) → IsFree 10 l → l ≢ done
        → HasRow format l ⊎ ((row : Row) → Fits format row → row_text format row ≢ l) → Outcome format text old
    by_row again l after cut free differs (inl h) = by_next again l after h.0 cut free h.1 h.2 (is_next t h.0) refl
    by_row again l after cut free differs (inr none) =
        fails format text old t rest (Line (length (rows_of t) + 4)) s (λ e. absurd (cc))
        (no_row format (length (rows_of t) + 4) t rest l after refl cut free differs (record { some = tt; none = none }))

    by_end : Again fuel format text old → (l after : List ℕ) → rest ≡ l ++ (10 ∷ after) → IsFree 10 l → (l ≡ done) ⊎ (l ≢ done) → Outcome format text old
    by_end again l after cut free (inl e) = inl (record {
      new = t;
      rest = after;
      read = record {
        is = s.is ∙ ap (λ x. text_of (row_lines format (rows_of t)) ++ x) (cut ∙ sym (line_end l after) ∙ ap (λ x. line x ++ after) e);
        good = s.good;
        count_is = refl;
        states = s.states;
        start = s.start;
      };
    })
    by_end again l after cut free (inr differs) = by_row again l after cut free differs (row_sought format l)

    by_line : Again fuel format text old → ((l : List ℕ) × (after : List ℕ) × (rest ≡ l ++ (10 ∷ after)) × IsFree 10 l) ⊎ IsFree 10 rest → Outcome format text old
    by_line again (inl p) = by_end again p.0 p.1 p.2 p.3 (bytes_or_not p.0 done)
    by_line again (inr free) = fails format text old t rest (Line (length (rows_of t) + 4)) s (λ e. absurd (cc)) (refl, λ l g. absurd (no_more rest l free g))

-- ---- the whole text

abbrev SomeAnswer : PlainPolicy → List ℕ → Type 0
SomeAnswer policy text = ((t : Table) × Spells policy text t) ⊎ ((fault : TextFault) × IsFault policy text fault)

behind_head : (policy : PlainPolicy) (text rest : List ℕ) (states : ℕ) (start : MemId) → FitsHead (states, start) → text ≡ text_of (head_lines policy states start) ++ rest → SomeAnswer policy text
behind_head policy text rest states start head is =
    by_rows (rows_end policy.format (suc (length rest)) rest (empty states start) (empty states start) rest (omega arith) (record {
      is = start_text policy.format (empty states start) rest (is_empty states start);
      good = start_good policy.format (empty states start) (is_empty states start);
      states = refl;
      start = refl;
    }))
  where
    by_left : (f : Found policy.format rest (empty states start)) → (left : List ℕ) → f.rest ≡ left → SomeAnswer policy text
    by_left f [] e = inl (f.new, reads_table policy text rest f.rest (empty states start) f.new (length (rows_of f.new)) head is f.read e)
    by_left f (x ∷ left) e = inr (
      Line (length (rows_of f.new) + 5),
      behind_fault policy text rest f.rest (empty states start) f.new (length (rows_of f.new)) (length (rows_of f.new) + 5) head is f.read (λ none. omega (arith, ap length (sym e ∙ none))) refl,
    )

    by_rows : Outcome policy.format rest (empty states start) → SomeAnswer policy text
    by_rows (inl f) = by_left f f.rest refl
    by_rows (inr f) = inr (f.fault, a_fault policy text rest (empty states start) f.new f.fault f.rest head is f.wrong f.real)

pub some_answer : (policy : PlainPolicy) (text : List ℕ) → SomeAnswer policy text
some_answer policy text = by_header (begins_or_not (codes "#include \"capweave.h\"\n") text)
  where
    by_fields : (first rest l after : List ℕ) → text ≡ codes "#include \"capweave.h\"\n" ++ first → first ≡ limits_line policy ++ rest → rest ≡ l ++ (10 ∷ after) → IsFree 10 l
        → Sought (Below (2 ^ 16) (Below (2 ^ 32) FitsLast)) (λ p. table_text policy.format p.0 (mem_of p.1.0)) l → SomeAnswer policy text
    by_fields first rest l after is limits cut free (inl h) =
        behind_head policy text after h.0.0 (mem_of h.0.1.0) (h.1.0, h.1.1.0) (head_is policy text first rest l after h.0.0 (mem_of h.0.1.0) is limits cut h.2)
    by_fields first rest l after is limits cut free (inr none) =
        inr (Line 3, fault_3_misspelled policy text first rest l after is limits cut free (λ head fits e. none (head.0, (head.1.0, tt)) (fits.0, (fits.1, tt)) e))

    by_line : (first rest : List ℕ) → text ≡ codes "#include \"capweave.h\"\n" ++ first → first ≡ limits_line policy ++ rest
        → ((l : List ℕ) × (after : List ℕ) × (rest ≡ l ++ (10 ∷ after)) × IsFree 10 l) ⊎ IsFree 10 rest → SomeAnswer policy text
    by_line first rest is limits (inl p) =
        by_fields first rest p.0 p.1 is limits p.2 p.3 (seek_number (2 ^ 16) (Below (2 ^ 32) FitsLast) (seek_number (2 ^ 32) FitsLast seek_last) (λ p. table_text policy.format p.0 (mem_of p.1.0)) p.0)
    by_line first rest is limits (inr free) = inr (Line 3, fault_3_missing policy text first rest is limits free)

    by_limits : (first : List ℕ) → text ≡ codes "#include \"capweave.h\"\n" ++ first
        → ((rest : List ℕ) × (first ≡ limits_line policy ++ rest)) ⊎ ((rest : List ℕ) → first ≢ limits_line policy ++ rest) → SomeAnswer policy text
    by_limits first is (inl p) = by_line first p.0 is p.1 (first_line p.0)
    by_limits first is (inr none) = inr (Line 2, fault_2 policy text first is none)

    by_header : ((rest : List ℕ) × (text ≡ codes "#include \"capweave.h\"\n" ++ rest)) ⊎ ((rest : List ℕ) → text ≢ codes "#include \"capweave.h\"\n" ++ rest) → SomeAnswer policy text
    by_header (inl p) = by_limits p.0 p.1 (begins_or_not (limits_line policy) p.0)
    by_header (inr none) = inr (Line 1, fault_1 policy text none)

-- What the weaver writes between an opening and a closing has no slash.
use Rattle.std.proofs.Common.{◌≡◌, ℕ, zero, suc, ◌+◌, ◌/◌, ◌%◌, ◌≤◌, Bool, true, false, cond, not, Option, None, Some, List, [], ◌∷◌, ◌++◌, map, length, refl, sym, ◌∙◌, arith}
use Rattle.std.specs.Prelude.{nat_eq, nat_lt, ◌==◌, ◌&&◌, if◌then◌else◌, codes}
use Rattle.std.specs.Char.{digit_char}
use Rattle.std.specs.Fmt.{decimal, digits, digits_onto, digit_glyph}
use Rattle.std.specs.Int.Digits.{digits_of}
use Rattle.std.specs.List.{flat_map, list_all, starts_with, enumerate_from, join_with_byte}
use Rattle.std.proofs.lemmas.Bool.{and_from, not_from_false, false_from_ne_true, ne_eqb, eqb-true, true≢false}
use Rattle.std.proofs.lemmas.List.Folds.{list_all-append}
use Rattle.cw_core.specs.declared.ids.MemId.{MemId}
use Rattle.cw_core.specs.Numerals.{hexadecimal, hexadecimal_digits}
use Rattle.cw_core.specs.Ranges.{Run, run_text, runs_text, runs_of, members, ranges, set_spelling}
use Rattle.cw_rights.specs.Policies.{PlainPolicy}
use Rattle.cw_syntax.specs.Names.{text}
use Rattle.cw_syntax.specs.Marks.{MarkKind, EntryMark, LabelMark, OpenMark, CloseMark, CallMark, SeamMark}
use Rattle.cw_certs.specs.Tables.{Table}
use Rattle.cw_text.specs.Lines.{line, set_text}
use Rattle.cw_text.specs.Lines.{joined as joined_by}
use Rattle.cw_text.specs.RowLines.{with_fields, joined, numbered}
use Rattle.cw_text.specs.TableText.{answer, mode}
use Rattle.cw_text.specs.LimitsText.{descriptor_name, limit_text}
use Rattle.cw_table_text.specs.declared.row.Row.{Row}
use Rattle.cw_table_text.specs.declared.row.Row.TheVariants.{Memory, Live, Try, At, Opened, Closed, Into, Back}
use Rattle.cw_table_text.specs.Rows.{rows_of, row_text, called, name_of, fields_of}
use Rattle.cw_table_text.specs.TablesText.{header, limits_text, table_text, done, tables_lines, text_of, tables_text}
use Rattle.cw_syntax.specs.PlainMarks.{HasNone}
use Rattle.cw_emit.specs.Woven.{spelling, spelled, ArePlainNames}
use Rattle.cw_syntax.specs.PlainMarks.{IsPlainKind}

-- no byte is a slash
abbrev pub is_plain : List ℕ → Bool
is_plain bs = list_all (λ b. not (b == 47)) bs

Plain : List ℕ → Type 0
Plain bs = is_plain bs ≡ true

-- bytes that are known
plain_is : (bs : List ℕ) → is_plain bs ≡ true → Plain bs
unfolding Plain
plain_is bs e = e

is_from_plain : (bs : List ℕ) → Plain bs → is_plain bs ≡ true
unfolding Plain
is_from_plain bs p = p

plain_append : (a b : List ℕ) → Plain a → Plain b → Plain (a ++ b)
unfolding Plain
plain_append a b p q = list_all-append (λ x. not (x == 47)) a b ∙ and_from (is_plain a) (is_plain b) p q

plain_byte : (b : ℕ) → 48 ≤ b → not (b == 47) ≡ true
plain_byte b le = not_from_false (b == 47) (ne_eqb b 47 (λ h. omega (arith, le, h)))

plain_cons : (b : ℕ) (bs : List ℕ) → 48 ≤ b → Plain bs → Plain (b ∷ bs)
unfolding Plain
plain_cons b bs le p = and_from (not (b == 47)) (is_plain bs) (plain_byte b le) p

plain_from_none : (bs : List ℕ) → HasNone (codes "/") bs → Plain bs
unfolding Plain
plain_from_none [] none = refl
plain_from_none (b ∷ bs) none =
    let ne : (b == 47) ≡ false = false_from_ne_true (b == 47) (λ h. let e : b ≡ 47 = eqb-true b 47 h in both b bs e (none 0)) in
    and_from (not (b == 47)) (is_plain bs) (not_from_false (b == 47) ne) (plain_from_none bs (λ at. none (suc at)))
  where
    both : (c : ℕ) (cs : List ℕ) → c ≡ 47 → starts_with nat_eq (c ∷ cs) (codes "/") ≡ false → ⊥
    both c cs e none = let yes_it_does : starts_with nat_eq (c ∷ cs) (codes "/") ≡ true = rw e refl in true≢false (sym yes_it_does ∙ none)

-- ---- numbers

glyph_ge : (d : ℕ) → 48 ≤ digit_glyph false d
glyph_ge d = by_test (nat_lt d 10)
  where
    by_test : (t : Bool) → 48 ≤ (if t then 48 + d else 87 + d)
    by_test true = omega arith
    by_test false = omega arith

char_ge : (d : ℕ) → 48 ≤ digit_char d
char_ge d = by_test (nat_lt d 10)
  where
    by_test : (t : Bool) → 48 ≤ cond t (48 + d) (87 + d)
    by_test true = omega arith
    by_test false = omega arith

plain_onto : (k base n : ℕ) (acc : List ℕ) → Plain acc → Plain (digits_onto k base false n acc)
plain_onto zero base n acc p = p
plain_onto (suc k) base n acc p =
    by_test (n / base == 0) (digit_glyph false (n % base) ∷ acc) (digits_onto k base false (n / base) (digit_glyph false (n % base) ∷ acc))
    (plain_cons _ acc (glyph_ge (n % base)) p)
    (plain_onto k base (n / base) (digit_glyph false (n % base) ∷ acc) (plain_cons _ acc (glyph_ge (n % base)) p))
  where
    by_test : (t : Bool) (a b : List ℕ) → Plain a → Plain b → Plain (if t then a else b)
    by_test true a b p q = p
    by_test false a b p q = q

plain_decimal : (n : ℕ) → Plain (decimal n)
unfolding digits
plain_decimal n = plain_onto 64 10 n [] (plain_is [] refl)

plain_chars : (ds : List ℕ) → Plain (map digit_char ds)
plain_chars [] = plain_is [] refl
plain_chars (d ∷ ds) = plain_cons (digit_char d) (map digit_char ds) (char_ge d) (plain_chars ds)

plain_hexadecimal : (n : ℕ) → Plain (hexadecimal n)
unfolding hexadecimal hexadecimal_digits
plain_hexadecimal n = by_test (n == 0)
  where
    by_test : (t : Bool) → Plain (codes "0x" ++ (if t then codes "0" else map digit_char (digits_of 16 n)))
    by_test true = plain_is _ refl
    by_test false = plain_append (codes "0x") _ (plain_is _ refl) (plain_chars (digits_of 16 n))

-- ---- lines

-- each of the fields
abbrev ArePlain : List (List ℕ) → Type 0
ArePlain [] = Unit {0}
ArePlain (w ∷ ws) = Plain w × ArePlain ws

plain_rows : {A : Type 0} (f : A → List ℕ) → ((x : A) → Plain (f x)) → (xs : List A) → Plain (flat_map f xs)
plain_rows f each [] = plain_is [] refl
plain_rows f each (x ∷ xs) = plain_append (f x) (flat_map f xs) (each x) (plain_rows f each xs)

plain_after : (ws : List (List ℕ)) → ArePlain ws → Plain (flat_map (λ w. codes "," ++ w) ws)
plain_after [] p = plain_is [] refl
plain_after (w ∷ ws) p = plain_append (codes "," ++ w) (flat_map (λ w. codes "," ++ w) ws) (plain_append (codes ",") w (plain_is _ refl) p.0) (plain_after ws p.1)

plain_joined : (ws : List (List ℕ)) → ArePlain ws → Plain (joined (codes ",") ws)
plain_joined [] p = plain_is [] refl
plain_joined (w ∷ ws) p = plain_append w (flat_map (λ w. codes "," ++ w) ws) p.0 (plain_after ws p.1)

plain_fields : (name : List ℕ) (ws : List (List ℕ)) → Plain name → ArePlain ws → Plain (with_fields name ws)
plain_fields name ws p q =
    plain_append (name ++ codes "(" ++ joined (codes ",") ws) (codes ")")
    (plain_append (name ++ codes "(") (joined (codes ",") ws) (plain_append name (codes "(") p (plain_is _ refl)) (plain_joined ws q)) (plain_is _ refl)

plain_answer : (m : Option MemId) → Plain (answer m)
plain_answer None = (plain_is _ refl)
plain_answer (Some m) = plain_decimal m.0

plain_mode : (split : Bool) → Plain (mode split)
plain_mode false = plain_decimal 0
plain_mode true = plain_decimal 1

plain_run : (run : Run) → Plain (run_text run)
unfolding run_text
plain_run run = by_test (run.least == run.greatest)
  where
    by_test : (t : Bool) → Plain (if t then decimal run.least else decimal run.least ++ (codes "-" ++ decimal run.greatest))
    by_test true = plain_decimal run.least
    by_test false = plain_append (decimal run.least) _ (plain_decimal run.least) (plain_append (codes "-") _ (plain_is _ refl) (plain_decimal run.greatest))

-- fields with a separator between that is no slash
plain_between : (mark : ℕ) → Plain (mark ∷ []) → (ws : List (List ℕ)) → ArePlain ws → Plain (join_with_byte mark ws)
plain_between mark m [] p = plain_is [] refl
plain_between mark m (w ∷ []) p = p.0
plain_between mark m (w ∷ v ∷ ws) p = plain_append w (mark ∷ join_with_byte mark (v ∷ ws)) p.0 (plain_append (mark ∷ []) (join_with_byte mark (v ∷ ws)) m (plain_between mark m (v ∷ ws) p.1))

are_plain_runs : (runs : List Run) → ArePlain (map run_text runs)
are_plain_runs [] = tt
are_plain_runs (r ∷ rs) = (plain_run r, are_plain_runs rs)

plain_ranges : (set : ℕ) → Plain (ranges set)
unfolding ranges runs_text
plain_ranges set = plain_between 43 (plain_is _ refl) (map run_text (runs_of (members set))) (are_plain_runs (runs_of (members set)))

plain_set : (format set : ℕ) → Plain (set_text format set)
unfolding set_text set_spelling
plain_set format set = by_test (format == 2) (not (set == 0) && nat_lt (length (ranges set)) (length (hexadecimal set)))
  where
    by_test : (t u : Bool) → Plain (if t then (if u then ranges set else hexadecimal set) else hexadecimal set)
    by_test true true = plain_ranges set
    by_test true false = plain_hexadecimal set
    by_test false u = plain_hexadecimal set

-- ---- rows

plain_called : (name : List ℕ) (ws : List (List ℕ)) → Plain name → ArePlain ws → Plain (called name ws)
plain_called name ws p q =
    plain_append name (codes "(" ++ (joined_by 44 ws ++ codes ")")) p
    (plain_append (codes "(") (joined_by 44 ws ++ codes ")") (plain_is _ refl) (plain_append (joined_by 44 ws) (codes ")") (plain_between 44 (plain_is _ refl) ws q) (plain_is _ refl)))

plain_name : (r : Row) → Plain (name_of r)
plain_name (Memory n m) = plain_is _ refl
plain_name (Live p) = plain_is _ refl
plain_name (Try r) = plain_is _ refl
plain_name (At r) = plain_is _ refl
plain_name (Opened r) = plain_is _ refl
plain_name (Closed r) = plain_is _ refl
plain_name (Into r) = plain_is _ refl
plain_name (Back r) = plain_is _ refl

plain_row : (format : ℕ) (r : Row) → ArePlain (fields_of format r)
plain_row format (Memory n m) = (plain_decimal n, (plain_decimal m.0.0, (plain_set format m.1, tt)))
plain_row format (Live r) = (plain_decimal r.0.0, (plain_decimal r.1.0, tt))
plain_row format (Try r) = (plain_decimal r.seam.0, (plain_decimal r.stage, (plain_decimal r.mem.0, (plain_answer r.granted, (plain_answer r.refused, tt)))))
plain_row format (At r) = (plain_decimal r.seam.0, (plain_decimal r.mem.0, (plain_decimal r.after.0, tt)))
plain_row format (Opened r) = (plain_decimal r.seam.0, (plain_decimal r.mem.0, (plain_decimal r.opened.0, (plain_decimal r.failed.0, tt))))
plain_row format (Closed r) = (plain_decimal r.seam.0, (plain_decimal r.mem.0, (plain_decimal r.after.0, tt)))
plain_row format (Into r) = (plain_decimal r.seam.0, (plain_mode r.split, (plain_decimal r.mem.0, (plain_decimal r.callee.0, tt))))
plain_row format (Back r) = (plain_decimal r.seam.0, (plain_mode r.split, (plain_decimal r.mem.0, (plain_decimal r.exit.0, (plain_decimal r.after.0, tt)))))

plain_words : (format : ℕ) (r : Row) → Plain (row_text format r)
unfolding row_text
plain_words format r = plain_called (name_of r) (fields_of format r) (plain_name r) (plain_row format r)

plain_limits : (policy : PlainPolicy) → ArePlainNames policy → Plain (limits_text policy)
unfolding limits_text
plain_limits policy names =
    plain_append (codes "#define CW_LIMITS(X)") (numbered (limit_text policy) policy.limits) (plain_is _ refl)
    (plain_rows (λ row. limit_text policy row.0 row.1) (λ row. plain_append (codes " ") _ (plain_is _ refl) (plain_fields (codes "X") (decimal row.0 ∷ descriptor_name policy row.1.descriptor ∷ hexadecimal row.1.keep.0 ∷ []) (plain_is _ refl) (plain_decimal row.0, (plain_from_none _ (names row.1.descriptor), (plain_hexadecimal row.1.keep.0, tt))))) (enumerate_from 0 policy.limits))

plain_head : (format states : ℕ) (start : MemId) → Plain (table_text format states start)
unfolding table_text
plain_head format states start = plain_called (codes "CW_TABLE") (decimal format ∷ decimal states ∷ decimal start.0 ∷ []) (plain_is _ refl) (plain_decimal format, (plain_decimal states, (plain_decimal start.0, tt)))

both_plain : (xs bs : List (List ℕ)) → ArePlain xs → ArePlain bs → ArePlain (xs ++ bs)
both_plain [] bs p q = q
both_plain (x ∷ xs) bs p q = (p.0, both_plain xs bs p.1 q)

rows_plain : (format : ℕ) (rs : List Row) → ArePlain (map (row_text format) rs)
rows_plain format [] = tt
rows_plain format (r ∷ rs) = (plain_words format r, rows_plain format rs)

plain_text : (ls : List (List ℕ)) → ArePlain ls → Plain (text_of ls)
plain_text [] p = plain_is [] refl
plain_text (l ∷ ls) p = plain_append (line l) (text_of ls) (plain_append l (codes "\n") p.0 (plain_is _ refl)) (plain_text ls p.1)

plain_tables : (policy : PlainPolicy) (t : Table) → ArePlainNames policy → Plain (tables_text policy t)
unfolding tables_text
plain_tables policy t names =
    plain_text (tables_lines policy t)
    (plain_is header refl, (plain_limits policy names, (plain_head policy.format t.states t.start, both_plain (map (row_text policy.format) (rows_of t)) (done ∷ []) (rows_plain policy.format (rows_of t)) (plain_is done refl, tt))))

pub plain_lines : (policy : PlainPolicy) (t : Table) → ArePlainNames policy → is_plain (codes "\n" ++ tables_text policy t) ≡ true
plain_lines policy t names = is_from_plain _ (plain_append (codes "\n") (tables_text policy t) (plain_is _ refl) (plain_tables policy t names))

-- ---- marks

pub plain_spelled : (policy : PlainPolicy) (source : List ℕ) (m : SeamMark) → ArePlainNames policy → IsPlainKind source m.kind → is_plain (spelled policy source m) ≡ true
plain_spelled policy source m names plain = is_from_plain _ (by_kind m.kind plain)
  where
    by_kind : (kind : MarkKind) → IsPlainKind source kind → Plain (spelling policy source m.seam kind)
    by_kind EntryMark p = plain_append (with_fields (codes "CW_ENTRY") (decimal m.seam ∷ [])) (codes ";") (plain_fields (codes "CW_ENTRY") (decimal m.seam ∷ []) (plain_is _ refl) (plain_decimal m.seam, tt)) (plain_is _ refl)
    by_kind LabelMark p = plain_fields (codes "CW_LABEL") (decimal m.seam ∷ []) (plain_is _ refl) (plain_decimal m.seam, tt)
    by_kind (OpenMark d) p = plain_fields (codes "CW_OPEN") (decimal m.seam ∷ descriptor_name policy d ∷ []) (plain_is _ refl) (plain_decimal m.seam, (plain_from_none _ (names d), tt))
    by_kind CloseMark p = plain_fields (codes "CW_CLOSE") (decimal m.seam ∷ []) (plain_is _ refl) (plain_decimal m.seam, tt)
    by_kind (CallMark None) p = plain_fields (codes "CW_CALL") (decimal m.seam ∷ []) (plain_is _ refl) (plain_decimal m.seam, tt)
    by_kind (CallMark (Some x)) p = plain_fields (codes "CW_CALLV") (decimal m.seam ∷ text source x ∷ []) (plain_is _ refl) (plain_decimal m.seam, (plain_from_none _ p, tt))

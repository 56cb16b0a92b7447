-- The fields of a row's line, and that no two rows have one line.
use Rattle.std.proofs.Common.{◌≡◌, ◌≢◌, ℕ, ◌||◌, if◌then◌else◌, length-append, ◌^◌, ◌<◌, ◌≤◌, Bool, true, false, eqb, ltb, List, [], ◌∷◌, ◌++◌, length, get_or, drop}
use Rattle.std.proofs.Common.{refl, sym, ap, ◌∙◌, arith, append-nil}
use Rattle.std.specs.Prelude.{Option, None, Some, codes}
use Rattle.std.specs.Char.{is_ascii_digit}
use Rattle.std.specs.Fmt.{decimal}
use Rattle.std.specs.List.{All, AllByRecursion}
use Rattle.std.proofs.lemmas.Fmt.{decimal_injective}
use Rattle.std.proofs.lemmas.List.{append_cancel_right, nil_from_length}
use Rattle.std.proofs.lemmas.List.Elements.{All-from_recursion}
use Rattle.std.proofs.lemmas.Bool.{le-ltb}
use Rattle.cw_core.specs.declared.ids.MemId.{MemId}
use Rattle.cw_core.specs.Ranges.{is_spelling_byte}
use Rattle.cw_text.specs.Lines.{joined, fields_by, IsFree, Reads, Takes}
use Rattle.cw_text.proofs.Cuts.{fields-joined, joined-fields}
use Rattle.cw_text.proofs.Free.{free_from_test, one_line, decimal_free, set_text_free}
use Rattle.cw_text.specs.TableText.{answer, mode}
use Rattle.cw_table_text.specs.declared.row.Row.{Row}
use Rattle.cw_table_text.specs.declared.row.Row.TheVariants.{Memory, Live, Try, At, Opened, Closed, Into, Back}
use Rattle.cw_table_text.specs.Rows.{name_of, fields_of, memory_fields, row_text}
use Rattle.cw_table_text.specs.Grammar.{IsAnswer, Fits, FitsMemory}
use Rattle.cw_table_text.specs.Working.{TakesNamed}

-- ---- fields that were taken

-- what stands behind a first field
pub behind_first : {a b : List ℕ} {old w v : List (List ℕ)} → old ≡ a ∷ w → old ≡ b ∷ v → w ≡ v
behind_first e f = cc

pub same_first : {a b : List ℕ} {old w v : List (List ℕ)} → old ≡ a ∷ w → old ≡ b ∷ v → a ≡ b
same_first e f = cc

pub small_number : (n k : ℕ) → n < 2 ^ 8 → k ≤ 1 → decimal n ≡ decimal k → n ≡ k
small_number n k small low e = decimal_injective n k (omega (arith, small)) (omega (arith, low)) e

-- no mode is a number above 1
pub no_mode : (n : ℕ) → n < 2 ^ 8 → 1 < n → (split : Bool) → decimal n ≢ mode split
no_mode n small high false e = let k : n ≡ 0 = small_number n 0 small (omega arith) e in omega (arith, high, k)
no_mode n small high true e = let k : n ≡ 1 = small_number n 1 small (omega arith) e in omega (arith, high, k)

pub no_mode_taken : (n : ℕ) (old new : List (List ℕ)) → n < 2 ^ 8 → 1 < n → old ≡ decimal n ∷ new → Takes (λ (split : Bool). Unit {0}) mode old new None
no_mode_taken n old new small high is = record { some = tt; none = λ split rest fits e. no_mode n small high split (same_first is e); left = sym (ap (λ (fields : List (List ℕ)). drop 1 fields) is) }

fourth : List ℕ → ℕ
fourth name = get_or name 3 0

-- fields that no memory spells are those of no row of memories
pub no_memory : (format : ℕ) (old : List (List ℕ)) → ((value : _) (rest : List (List ℕ)) → FitsMemory format value → old ≢ memory_fields format value ++ rest)
    → (row : Row) (rest : List (List ℕ)) → Fits format row → codes "CW_MEM" ≡ name_of row → old ≢ fields_of format row ++ rest
unfolding fourth
no_memory format old h (Memory n m) rest fits name e = h (n, m) rest fits e
no_memory format old h (Live r) rest fits name e = let l : 77 ≡ 76 = ap fourth name in absurd (omega (arith, l))
no_memory format old h (Try r) rest fits name e = let l : 77 ≡ 84 = ap fourth name in absurd (omega (arith, l))
no_memory format old h (At r) rest fits name e = let l : 77 ≡ 65 = ap fourth name in absurd (omega (arith, l))
no_memory format old h (Opened r) rest fits name e = let l : 77 ≡ 79 = ap fourth name in absurd (omega (arith, l))
no_memory format old h (Closed r) rest fits name e = let l : 77 ≡ 67 = ap fourth name in absurd (omega (arith, l))
no_memory format old h (Into r) rest fits name e = let l : 77 ≡ 73 = ap fourth name in absurd (omega (arith, l))
no_memory format old h (Back r) rest fits name e = let l : 77 ≡ 66 = ap fourth name in absurd (omega (arith, l))

-- ---- a line is its name and its fields

plain : ℕ → Bool
plain b = ltb 44 b

le-ltb44 : (separator : ℕ) → separator ≤ 44 → plain separator ≡ false
unfolding plain
le-ltb44 separator low = le-ltb 44 separator low

pub name_free : (separator : ℕ) → separator ≤ 44 → (row : Row) → IsFree separator (name_of row)
unfolding plain
name_free separator low (Memory n m) = free_from_test plain separator (name_of (Memory n m)) (le-ltb44 separator low) refl
name_free separator low (Live r) = free_from_test plain separator (name_of (Live r)) (le-ltb44 separator low) refl
name_free separator low (Try r) = free_from_test plain separator (name_of (Try r)) (le-ltb44 separator low) refl
name_free separator low (At r) = free_from_test plain separator (name_of (At r)) (le-ltb44 separator low) refl
name_free separator low (Opened r) = free_from_test plain separator (name_of (Opened r)) (le-ltb44 separator low) refl
name_free separator low (Closed r) = free_from_test plain separator (name_of (Closed r)) (le-ltb44 separator low) refl
name_free separator low (Into r) = free_from_test plain separator (name_of (Into r)) (le-ltb44 separator low) refl
name_free separator low (Back r) = free_from_test plain separator (name_of (Back r)) (le-ltb44 separator low) refl

-- the line is the name, `(`, the fields joined, and `)`
pub row_line : (format : ℕ) (row : Row) → row_text format row ≡ name_of row ++ (40 ∷ (joined 44 (fields_of format row) ++ 41 ∷ []))
unfolding row_text
row_line format row = refl

answer_free : (separator : ℕ) → is_ascii_digit separator ≡ false → IsFree separator (codes "CW_NONE") → (a : Option MemId) → IsAnswer a → IsFree separator (answer a)
answer_free separator digit none None fits = none
answer_free separator digit none (Some m) fits = decimal_free separator m.0 digit (omega (arith, fits))

mode_free : (separator : ℕ) → is_ascii_digit separator ≡ false → (split : Bool) → IsFree separator (mode split)
mode_free separator digit false = decimal_free separator 0 digit (omega arith)
mode_free separator digit true = decimal_free separator 1 digit (omega arith)

-- no field has the separator
pub record IsSeparator (separator : ℕ) : Type 0 where
  pub digit : is_ascii_digit separator ≡ false
  pub spelling : is_spelling_byte separator ≡ false
  pub missing : IsFree separator (codes "CW_NONE")

number_free : (separator n : ℕ) → IsSeparator separator → n < 2 ^ 32 → IsFree separator (decimal n)
number_free separator n m small = decimal_free separator n m.digit (omega (arith, small))

each_free : (separator : ℕ) → IsSeparator separator → (format : ℕ) (row : Row) → Fits format row → AllByRecursion (IsFree separator) (fields_of format row)
each_free separator m format (Memory n x) fits = (number_free separator n m fits.0, (decimal_free separator x.0.0 m.digit (omega (arith, fits.1)), (set_text_free separator format x.1 m.spelling fits.2, tt)))
each_free separator m format (Live r) fits = (number_free separator r.0.0 m fits.0, (number_free separator r.1.0 m fits.1, tt))
each_free separator m format (Try r) fits = (
  number_free separator r.seam.0 m fits.0,
  (
    decimal_free separator r.stage m.digit (omega (arith, fits.1)),
    (number_free separator r.mem.0 m fits.2, (answer_free separator m.digit m.missing r.granted fits.3, (answer_free separator m.digit m.missing r.refused fits.4, tt))),
  ),
)
each_free separator m format (At r) fits = (number_free separator r.seam.0 m fits.0, (number_free separator r.mem.0 m fits.1, (number_free separator r.after.0 m fits.2, tt)))
each_free separator m format (Opened r) fits = (number_free separator r.seam.0 m fits.0, (number_free separator r.mem.0 m fits.1, (number_free separator r.opened.0 m fits.2, (number_free separator r.failed.0 m fits.3, tt))))
each_free separator m format (Closed r) fits = (number_free separator r.seam.0 m fits.0, (number_free separator r.mem.0 m fits.1, (number_free separator r.after.0 m fits.2, tt)))
each_free separator m format (Into r) fits = (number_free separator r.seam.0 m fits.0, (mode_free separator m.digit r.split, (number_free separator r.mem.0 m fits.1, (number_free separator r.callee.0 m fits.2, tt))))
each_free separator m format (Back r) fits = (
  number_free separator r.seam.0 m fits.0,
  (
    mode_free separator m.digit r.split,
    (number_free separator r.mem.0 m fits.1, (decimal_free separator r.exit.0 m.digit (omega (arith, fits.2)), (number_free separator r.after.0 m fits.3, tt))),
  ),
)

pub fields_free : (separator : ℕ) → IsSeparator separator → (format : ℕ) (row : Row) → Fits format row → All (IsFree separator) (fields_of format row)
fields_free separator m format row fits = All-from_recursion (IsFree separator) (fields_of format row) (each_free separator m format row fits)

pub comma : IsSeparator 44
unfolding plain
comma = record { digit = refl; spelling = refl; missing = free_from_test plain 44 (codes "CW_NONE") refl refl }

pub line_feed : IsSeparator 10
unfolding plain
line_feed = record { digit = refl; spelling = refl; missing = free_from_test plain 10 (codes "CW_NONE") refl refl }

-- what stands between the commas is the fields
pub row_fields_stay : (format : ℕ) (row : Row) → Fits format row → fields_by 44 (joined 44 (fields_of format row)) ≡ fields_of format row
row_fields_stay format (Memory n m) fits = fields-joined 44 _ _ (fields_free 44 comma format (Memory n m) fits)
row_fields_stay format (Live r) fits = fields-joined 44 _ _ (fields_free 44 comma format (Live r) fits)
row_fields_stay format (Try r) fits = fields-joined 44 _ _ (fields_free 44 comma format (Try r) fits)
row_fields_stay format (At r) fits = fields-joined 44 _ _ (fields_free 44 comma format (At r) fits)
row_fields_stay format (Opened r) fits = fields-joined 44 _ _ (fields_free 44 comma format (Opened r) fits)
row_fields_stay format (Closed r) fits = fields-joined 44 _ _ (fields_free 44 comma format (Closed r) fits)
row_fields_stay format (Into r) fits = fields-joined 44 _ _ (fields_free 44 comma format (Into r) fits)
row_fields_stay format (Back r) fits = fields-joined 44 _ _ (fields_free 44 comma format (Back r) fits)

-- a line with this name and these fields inside is that of the row only where both are its own
pub row_parts : (format : ℕ) (row : Row) (line name inner : List ℕ) → Fits format row → IsFree 40 name → line ≡ name ++ (40 ∷ (inner ++ 41 ∷ [])) → row_text format row ≡ line
    → (name ≡ name_of row) × (fields_by 44 inner ≡ fields_of format row)
row_parts format row line name inner fits free is e =
    let both = one_line 40 name (name_of row) (inner ++ 41 ∷ []) (joined 44 (fields_of format row) ++ 41 ∷ []) free (name_free 40 (omega arith) row) (sym is ∙ sym e ∙ row_line format row) in
    let same : inner ≡ joined 44 (fields_of format row) = append_cancel_right inner (joined 44 (fields_of format row)) (41 ∷ []) both.1 in
    (both.0, ap (fields_by 44) same ∙ row_fields_stay format row fits)

-- how many fields follow a name, by its fourth letter
abbrev arity : ℕ → ℕ
arity letter = if eqb letter 76 then 2 else (if eqb letter 77 || eqb letter 65 || eqb letter 67 then 3 else (if eqb letter 79 || eqb letter 73 then 4 else 5))

arity_is : (format : ℕ) (row : Row) → length (fields_of format row) ≡ arity (get_or (name_of row) 3 0)
arity_is format (Memory n m) = refl
arity_is format (Live r) = refl
arity_is format (Try r) = refl
arity_is format (At r) = refl
arity_is format (Opened r) = refl
arity_is format (Closed r) = refl
arity_is format (Into r) = refl
arity_is format (Back r) = refl

-- rows with one name have as many fields, so none is left over
pub none_left : (format : ℕ) (a b : Row) (rest : List (List ℕ)) → name_of a ≡ name_of b → fields_of format a ++ rest ≡ fields_of format b → rest ≡ []
none_left format a b rest name e =
    let same : length (fields_of format a) ≡ length (fields_of format b) = arity_is format a ∙ ap (λ (n : List ℕ). arity (get_or n 3 0)) name ∙ sym (arity_is format b) in
    nil_from_length rest (omega (arith, same, ap length e, length-append (fields_of format a) rest))

-- what the reader of a line answers
pub no_call : (format : ℕ) (line : List ℕ) → ((name inner : List ℕ) → IsFree 40 name → line ≢ name ++ (40 ∷ (inner ++ 41 ∷ []))) → Reads (Fits format) (row_text format) line None
no_call format line h = record { some = tt; none = λ row fits e. h (name_of row) (joined 44 (fields_of format row)) (name_free 40 (omega arith) row) (sym e ∙ row_line format row) }

pub no_fields : (format : ℕ) (line name inner : List ℕ) (new : List (List ℕ)) → IsFree 40 name → line ≡ name ++ (40 ∷ (inner ++ 41 ∷ [])) → TakesNamed format name (fields_by 44 inner) new None
    → Reads (Fits format) (row_text format) line None
no_fields format line name inner new free is h = record {
  some = tt;
  none = λ row fits e.
      let p = row_parts format row line name inner fits free is e in
      h.none row [] fits p.0 (p.1 ∙ sym (append-nil (fields_of format row)));
}

pub more_fields : (format : ℕ) (line name inner : List ℕ) (new : List (List ℕ)) (found : Row) → IsFree 40 name → line ≡ name ++ (40 ∷ (inner ++ 41 ∷ []))
    → TakesNamed format name (fields_by 44 inner) new (Some found)
    → (new ≡ [] → ⊥) → Reads (Fits format) (row_text format) line None
more_fields format line name inner new found free is h left = record {
  some = tt;
  none = λ row fits e.
      let p = row_parts format row line name inner fits free is e in
      left (none_left format found row new (sym h.some.1 ∙ p.0) (sym h.some.2 ∙ p.1));
}

pub all_fields : (format : ℕ) (line name inner : List ℕ) (new : List (List ℕ)) (found : Row) → line ≡ name ++ (40 ∷ (inner ++ 41 ∷ [])) → TakesNamed format name (fields_by 44 inner) new (Some found)
    → new ≡ [] → Reads (Fits format) (row_text format) line (Some found)
all_fields format line name inner new found is h left = record {
  some =
      let fields : fields_by 44 inner ≡ fields_of format found = h.some.2 ∙ ap (λ ws. fields_of format found ++ ws) left ∙ append-nil (fields_of format found) in
      let same : inner ≡ joined 44 (fields_of format found) = sym (joined-fields 44 inner) ∙ ap (joined 44) fields in
      (h.some.0, row_line format found ∙ sym (is ∙ ap (λ n. n ++ (40 ∷ (inner ++ 41 ∷ []))) h.some.1 ∙ ap (λ t. name_of found ++ (40 ∷ (t ++ 41 ∷ []))) same));
  none = tt;
}

-- ---- parentheses

pub no_inner : (line name rest : List ℕ) → IsFree 40 name → line ≡ name ++ (40 ∷ rest) → length rest ≡ 0 → (other inner : List ℕ) → IsFree 40 other → line ≢ other ++ (40 ∷ (inner ++ 41 ∷ []))
no_inner line name rest free is none other inner plainly e =
    let p = one_line 40 name other rest (inner ++ 41 ∷ []) free plainly (sym is ∙ e) in
    omega (arith, none, ap length p.1, length-append inner (41 ∷ []))

same_last : (a b : List ℕ) (x y : ℕ) → a ++ x ∷ [] ≡ b ++ y ∷ [] → x ≡ y
same_last [] [] x y e = ap (λ (t : List ℕ). get_or t 0 0) e
same_last [] (z ∷ b) x y e = absurd (omega (arith, ap length e, length-append b (y ∷ [])))
same_last (z ∷ a) [] x y e = absurd (omega (arith, ap length e, length-append a (x ∷ [])))
same_last (z ∷ a) (w ∷ b) x y e = same_last a b x y (ap (drop 1) e)

pub other_end : (line name rest inner : List ℕ) (last : ℕ) → IsFree 40 name → line ≡ name ++ (40 ∷ rest) → rest ≡ inner ++ last ∷ [] → last ≢ 41 → (other more : List ℕ)
    → IsFree 40 other → line ≢ other ++ (40 ∷ (more ++ 41 ∷ []))
other_end line name rest inner last free is split differs other more plainly e =
    let p = one_line 40 name other rest (more ++ 41 ∷ []) free plainly (sym is ∙ e) in
    differs (same_last inner more last 41 (sym split ∙ p.1))

-- How a set is spelled.
use Rattle.std.proofs.Common.{◌≡◌, ◌≢◌, ℕ, ◌+◌, ◌<◌, ◌≤◌, ◌&&◌, ◌||◌, Bool, true, false, not, cond, eqb, ltb, ltb-true, leb, List, [], ◌∷◌, ◌++◌, length, length-append, get_or, take, refl, sym, ap, ◌∙◌, ◌⊎◌, arith, inl, inr}
use Rattle.std.specs.Prelude.{codes}
use Rattle.std.specs.Char.{is_ascii_digit}
use Rattle.std.specs.Fmt.{decimal}
use Rattle.std.specs.Int.{is_in_range}
use Rattle.std.specs.List.{list_all, take_while}
use Rattle.std.proofs.Math.Seq.{drop-append_seam}
use Rattle.std.proofs.lemmas.Bool.{and_right, cases_eq, eq-eqb, false≢true, le-leb, le-ltb, leb-true}
use Rattle.std.proofs.lemmas.List.Folds.{list_all-append}
use Rattle.cw_core.specs.Numerals.{hexadecimal, hexadecimal_digits, is_hexadecimal_digit}
use Rattle.cw_core.specs.Ranges.{Run, run_text, runs_text, ranges, set_spelling, is_spelling_byte, IsSpellingAt, Ascend, IsIn}
use Rattle.cw_core.specs.StateSet.{IsBelow}
use Rattle.std.proofs.lemmas.Bool.{and_parts as both_from_and}
use Rattle.cw_core.proofs.Hexadecimals.{length-hexadecimal_digits, hexadecimal_digits_are_digits}
use Rattle.cw_core.proofs.Readings.{tail, runs_split, reads_first, run_up, run_below, run_spelled}
use Rattle.cw_core.proofs.Runs.{runs_from, runs_ascend, runs_have_only, whole_runs}
use Rattle.cw_core.proofs.RunTexts.{lone_text, long_text, some_text}
use Rattle.cw_core.proofs.Sets.{IsBelow-lt}
use Rattle.cw_core.proofs.Spellings.{decimal_has_digits, run-append}
use Rattle.cw_core.proofs.Texts.{length-hexadecimal, hexadecimal-parts}

pub mask_length : (set : ℕ) → IsBelow 1024 set → length (hexadecimal set) ≤ 258
mask_length set below =
    let e = length-hexadecimal set in
    let few = length-hexadecimal_digits 256 set (omega arith) (IsBelow-lt 1024 set below) in
    omega (arith, e, few)

pub runs_length : (a : Bool) (x y : ℕ) → true ≡ (a && ltb x y) → x < y
runs_length true x y e = lt_from (ltb x y) refl e
  where
    lt_from : (t : Bool) → ltb x y ≡ t → true ≡ t → x < y
    lt_from true f e = ltb-true x y f
    lt_from false f e = absurd cc
runs_length false x y e = absurd cc

pub spelled_by : (set : ℕ) (t : Bool) (runs mask : List ℕ) → runs ≡ ranges set → mask ≡ hexadecimal set → t ≡ (not (eqb set 0) && ltb (length runs) (length mask)) → set_spelling set ≡ cond t runs mask
unfolding set_spelling
spelled_by set t runs mask e f is = rw (is, e, f) refl

-- where its ranges aren't shorter than the hexadecimal, that is the spelling
pub masked_if_no_longer : (set : ℕ) → length (hexadecimal set) ≤ length (ranges set) → set_spelling set ≡ hexadecimal set
masked_if_no_longer set long = spelled_by set false (ranges set) (hexadecimal set) refl refl (sym (and_right (not (eqb set 0)) (ltb (length (ranges set)) (length (hexadecimal set))) (le-ltb (length (ranges set)) (length (hexadecimal set)) long)))

-- a text of all runs, or of the first, as many bytes as any hexadecimal or more
abbrev pub AreRuns : ℕ → List ℕ → Type 0
AreRuns set runs = (runs ≡ ranges set) ⊎ ((258 ≤ length runs) × (length runs ≤ length (ranges set)))

-- where it is shorter than the hexadecimal, it has all runs
pub whole_where_short : (set : ℕ) (runs : List ℕ) → IsBelow 1024 set → AreRuns set runs → length runs < length (hexadecimal set) → runs ≡ ranges set
whole_where_short set runs below (inl whole) short = whole
whole_where_short set runs below (inr front) short = let mask = mask_length set below in absurd (omega (arith, front.0, short, mask))

-- and where it isn't, the set is spelled as hexadecimal
pub mask_where_long : (set : ℕ) (runs : List ℕ) → IsBelow 1024 set → AreRuns set runs → false ≡ (not (eqb set 0) && ltb (length runs) (length (hexadecimal set))) → set_spelling set ≡ hexadecimal set
mask_where_long set runs below (inl whole) long = spelled_by set false runs (hexadecimal set) whole refl long
mask_where_long set runs below (inr front) long = let mask = mask_length set below in masked_if_no_longer set (omega (arith, front.0, front.1, mask))

-- ---- which of the two spellings a text is

-- each byte of the text of runs passes a test that digits, `+` and `-` pass
pub IsRunTest : (ℕ → Bool) → Type 0
IsRunTest p = (p 43 ≡ true) × (p 45 ≡ true) × ((b : ℕ) → is_ascii_digit b ≡ true → p b ≡ true)

digits_pass : (p : ℕ → Bool) → IsRunTest p → (ds : List ℕ) → list_all is_ascii_digit ds ≡ true → list_all p ds ≡ true
unfolding IsRunTest
digits_pass p test [] all = refl
digits_pass p test (d ∷ ds) all = let q = both_from_and (is_ascii_digit d) (list_all is_ascii_digit ds) all in rw (test.2 d q.0, digits_pass p test ds q.1) refl

run_passes : (p : ℕ → Bool) → IsRunTest p → (run : Run) → run.least ≤ run.greatest → run.greatest < 1024 → list_all p (run_text run) ≡ true
unfolding IsRunTest
run_passes p test run up below =
    let first = digits_pass p test (decimal run.least) (decimal_has_digits run.least (omega (arith, up, below))) in
    let second = digits_pass p test (decimal run.greatest) (decimal_has_digits run.greatest (omega (arith, below))) in
    elim (cases_eq run.least run.greatest) [
      | inl same ↦ ap (list_all p) (lone_text run same) ∙ first
      | inr differ ↦
          ap (list_all p) (long_text run differ)
          ∙ list_all-append p (decimal run.least) (codes "-" ++ decimal run.greatest)
          ∙ rw (first, test.1, second) refl
    ]

runs_pass : (p : ℕ → Bool) → IsRunTest p → (low : ℕ) (runs : List Run) → Ascend low runs → ((s : ℕ) → IsIn s runs → s < 1024) → list_all p (runs_text runs) ≡ true
unfolding IsRunTest runs_text
runs_pass p test low [] up below = refl
runs_pass p test low (run ∷ runs) up below =
    let first = run_passes p test run up.1 (below run.greatest (inl (up.1, (let q : run.greatest ≤ run.greatest = omega arith in q)))) in
    ap (list_all p) (runs_split run runs)
    ∙ list_all-append p (run_text run) (tail runs)
    ∙ rw (first, tail_passes runs (runs_pass p test (run.greatest + 2) runs up.2 (λ s h. below s (inr h)))) refl
  where
    tail_passes : (more : List Run) → list_all p (runs_text more) ≡ true → list_all p (tail more) ≡ true
    tail_passes [] all = refl
    tail_passes (next ∷ more) all = rw (test.0, all) refl

ranges_pass : (p : ℕ → Bool) → IsRunTest p → (set : ℕ) → IsBelow 1024 set → list_all p (ranges set) ≡ true
unfolding ranges
ranges_pass p test set below =
    ap (λ (z : List Run). list_all p (runs_text z)) (sym (whole_runs set))
    ∙ runs_pass p test 0 (runs_from set 0 1024) (runs_ascend set 0 1024) (λ s h. let q = (runs_have_only set 0 1024 s h).2 in omega (arith, q))

no_x : (p : ℕ → Bool) → p 120 ≡ false → (text : List ℕ) → list_all p text ≡ true → take 2 text ≢ codes "0x"
no_x p out [] all e = omega (arith, ap length e)
no_x p out (x ∷ []) all e = omega (arith, ap length e)
no_x p out (x ∷ y ∷ rest) all e =
    let second : y ≡ 120 = ap (λ (z : List ℕ). get_or z 1 0) e in
    let q = both_from_and (p y) (list_all p rest) (both_from_and (p x) (list_all p (y ∷ rest)) all).1 in
    false≢true (sym out ∙ rw second at q.0)

run_byte : ℕ → Bool
run_byte b = is_ascii_digit b || eqb b 43 || eqb b 45

run_byte_test : IsRunTest run_byte
unfolding IsRunTest run_byte
run_byte_test = (refl, refl, λ b e. rw e refl)

ranges_have_no_prefix : (set : ℕ) → IsBelow 1024 set → take 2 (ranges set) ≢ codes "0x"
unfolding run_byte
ranges_have_no_prefix set below = no_x run_byte refl (ranges set) (ranges_pass run_byte run_byte_test set below)

mask_has_prefix : (set : ℕ) → take 2 (hexadecimal set) ≡ codes "0x"
unfolding hexadecimal
mask_has_prefix set = refl

pub spelled_as_mask : (set : ℕ) (text : List ℕ) → IsBelow 1024 set → set_spelling set ≡ text → take 2 text ≡ codes "0x" → text ≡ hexadecimal set
unfolding set_spelling
spelled_as_mask set text below e prefix = by_test (not (eqb set 0) && ltb (length (ranges set)) (length (hexadecimal set))) refl
  where
    by_test : (t : Bool) → (not (eqb set 0) && ltb (length (ranges set)) (length (hexadecimal set))) ≡ t → text ≡ hexadecimal set
    by_test true is = absurd (ranges_have_no_prefix set below (ap (take 2) (rw is at e) ∙ prefix))
    by_test false is = sym (rw is at e)

pub spelled_as_runs : (set : ℕ) (text : List ℕ) → IsBelow 1024 set → set_spelling set ≡ text → take 2 text ≢ codes "0x" → (set ≢ 0) × (ranges set ≡ text)
unfolding set_spelling
spelled_as_runs set text below e unmarked = by_test (not (eqb set 0) && ltb (length (ranges set)) (length (hexadecimal set))) refl
  where
    by_test : (t : Bool) → (not (eqb set 0) && ltb (length (ranges set)) (length (hexadecimal set))) ≡ t → (set ≢ 0) × (ranges set ≡ text)
    by_test true is = ((λ zero. false≢true (sym (ap (λ (z : Bool). not z && ltb (length (ranges set)) (length (hexadecimal set))) (eq-eqb set 0 zero)) ∙ is)), rw is at e)
    by_test false is = absurd (unmarked (ap (take 2) (sym (rw is at e)) ∙ mask_has_prefix set))

-- no spelling is empty
pub spelling_some : (set : ℕ) → IsBelow 1024 set → 0 < length (set_spelling set)
unfolding set_spelling
spelling_some set below = by_test (not (eqb set 0) && ltb (length (ranges set)) (length (hexadecimal set))) refl
  where
    by_test : (t : Bool) → (not (eqb set 0) && ltb (length (ranges set)) (length (hexadecimal set))) ≡ t → 0 < length (set_spelling set)
    by_test true is =
        let some : set ≢ 0 = λ zero. false≢true (sym (ap (λ (z : Bool). not z && ltb (length (ranges set)) (length (hexadecimal set))) (eq-eqb set 0 zero)) ∙ is) in
        let r = reads_first (ranges set) set below some refl in
        let here = run_spelled (ranges set) set 0 0 r in
        let long = some_text r.run (run_up (ranges set) set 0 0 r) (run_below (ranges set) set 0 0 r) in
        rw is (omega (arith, ap length here, length-append (run_text r.run) (tail r.runs), long))
    by_test false is = rw is (omega (arith, length-hexadecimal set))

-- ---- a spelling that stands in a text

pub letters : (b : ℕ) → is_hexadecimal_digit b ≡ true → is_spelling_byte b ≡ true
letters b e = by_digit (is_ascii_digit b) refl
  where
    by_digit : (t : Bool) → is_ascii_digit b ≡ t → is_spelling_byte b ≡ true
    by_digit true f = rw f refl
    by_digit false f =
        let letter : is_in_range 97 102 b ≡ true = rw f at e in
        let q = both_from_and (leb 97 b) (leb b 102) letter in
        let low = leb-true 97 b q.0 in
        let high = leb-true b 102 q.1 in
        rw (f, le-leb 97 b low, le-leb b 122 (omega (arith, high))) (or_true (is_in_range 65 90 b))
      where
        or_true : (t : Bool) → ((t || true) || eqb b 43 || eqb b 45) ≡ true
        or_true true = refl
        or_true false = refl

pub digits_spell : (ds : List ℕ) → list_all is_hexadecimal_digit ds ≡ true → list_all is_spelling_byte ds ≡ true
digits_spell [] all = refl
digits_spell (d ∷ ds) all = let q = both_from_and (is_hexadecimal_digit d) (list_all is_hexadecimal_digit ds) all in rw (letters d q.0, digits_spell ds q.1) refl

mask_bytes : (set : ℕ) → list_all is_spelling_byte (hexadecimal set) ≡ true
mask_bytes set =
    ap (list_all is_spelling_byte) (hexadecimal-parts set)
    ∙ list_all-append is_spelling_byte (codes "0x") (hexadecimal_digits set)
    ∙ rw (digits_spell (hexadecimal_digits set) (hexadecimal_digits_are_digits set)) refl

spelling_byte_test : IsRunTest is_spelling_byte
unfolding IsRunTest
spelling_byte_test = (refl, refl, λ b e. rw e refl)

pub spelling_bytes : (set : ℕ) → IsBelow 1024 set → list_all is_spelling_byte (set_spelling set) ≡ true
unfolding set_spelling
spelling_bytes set below = by_test (not (eqb set 0) && ltb (length (ranges set)) (length (hexadecimal set))) refl
  where
    by_test : (t : Bool) → (not (eqb set 0) && ltb (length (ranges set)) (length (hexadecimal set))) ≡ t → list_all is_spelling_byte (set_spelling set) ≡ true
    by_test true is = rw is (ranges_pass is_spelling_byte spelling_byte_test set below)
    by_test false is = rw is (mask_bytes set)

pub spelling_within : (before after : List ℕ) (set : ℕ) → IsBelow 1024 set → take_while is_spelling_byte after ≡ [] → IsSpellingAt (before ++ (set_spelling set ++ after)) (length before) set
spelling_within before after set below stops = record {
  small = below;
  spelled = run-append is_spelling_byte (set_spelling set) after (spelling_bytes set below) stops ∙ ap (take_while is_spelling_byte) (sym (drop-append_seam before (set_spelling set ++ after)));
}

-- One set at most has a text.
use Rattle.std.proofs.Common.{◌≡◌, ◌≢◌, ℕ, zero, suc, ◌+◌, ◌-◌, ◌<◌, ◌≤◌, ◌⊎◌, Bool, true, false, cond, eqb, List, [], ◌∷◌, ◌++◌, length, length-append, map, take, refl, sym, ap, ◌∙◌, arith, inl, inr}
use Rattle.std.specs.Prelude.{codes, bytes_eq}
use Rattle.std.specs.Fmt.{decimal}
use Rattle.std.specs.List.{All, filter, range_with_len, join_with_byte}
use Rattle.std.proofs.lemmas.Bool.{cases_eq, eq-eqb, ne_eqb, false≢true}
use Rattle.std.proofs.lemmas.Slice.Eq.{bytes_eq-Decides}
use Rattle.std.proofs.lemmas.Fmt.{decimal_injective}
use Rattle.std.proofs.lemmas.List.Elements.{All-nil, All-cons, All-append}
use Rattle.std.specs.Cmp.{both_ways as same_bool}
use Rattle.cw_core.specs.Numerals.{hexadecimal}
use Rattle.cw_core.specs.Ranges.{Run, in_front, runs_of, members, run_text, runs_text, ranges, set_spelling}
use Rattle.cw_core.specs.StateSet.{has, IsBelow}
use Rattle.cw_core.proofs.SetTexts.{spelled_as_mask, spelled_as_runs}
use Rattle.cw_core.proofs.Sets.{same_from_members}
use Rattle.cw_core.proofs.Spellings.{one_set}
use Rattle.cw_text.specs.Lines.{IsFree, fields_by, set_text, IsSetIn}
use Rattle.cw_text.proofs.Cuts.{fields_first, fields_last, fields-joined}
use Rattle.cw_text.proofs.FieldTexts.{mask_stands}
use Rattle.cw_text.proofs.Free.{decimal_free}
use Rattle.cw_core.proofs.RunTexts.{some_text}

-- ---- numbers in a list

abbrev In : ℕ → List ℕ → Type 0
In s [] = ⊥
In s (n ∷ ns) = (s ≡ n) ⊎ In s ns

in_filter : (p : ℕ → Bool) (s : ℕ) (ns : List ℕ) → p s ≡ true → In s ns → In s (filter p ns)
in_filter p s [] passes h = absurd h
in_filter p s (n ∷ ns) passes (inl e) = rw (← e, passes) (inl refl)
in_filter p s (n ∷ ns) passes (inr h) = by_test (p n) (in_filter p s ns passes h)
  where
    by_test : (t : Bool) → In s (filter p ns) → In s (cond t (n ∷ filter p ns) (filter p ns))
    by_test true there = inr there
    by_test false there = there

filter_in : (p : ℕ → Bool) (s : ℕ) (ns : List ℕ) → In s (filter p ns) → p s ≡ true
filter_in p s [] h = absurd h
filter_in p s (n ∷ ns) h = by_test (p n) refl (λ there. filter_in p s ns there) h
  where
    by_test : (t : Bool) → p n ≡ t → (In s (filter p ns) → p s ≡ true) → In s (cond t (n ∷ filter p ns) (filter p ns)) → p s ≡ true
    by_test true is rest (inl e) = rw e is
    by_test true is rest (inr there) = rest there
    by_test false is rest there = rest there

in_range : (s at count : ℕ) → at ≤ s → s < at + count → In s (range_with_len at count)
in_range s at zero low high = absurd (omega (arith, low, high))
in_range s at (suc count) low high =
    elim (cases_eq s at) [
      | inl e ↦ inl e
      | inr differs ↦ inr (in_range s (at + 1) count (omega (arith, low, differs)) (omega (arith, high)))
    ]

in_members : (set s : ℕ) → IsBelow 1024 set → has set s ≡ true → In s (members set)
unfolding members
in_members set s below member = in_filter (has set) s (range_with_len 0 1024) member (in_range s 0 1024 (omega arith) (let p = below s member in omega (arith, p)))

members_in : (set s : ℕ) → In s (members set) → has set s ≡ true
unfolding members
members_in set s there = filter_in (has set) s (range_with_len 0 1024) there

in_same : (s : ℕ) (ns ms : List ℕ) → ns ≡ ms → In s ns → In s ms
in_same s ns ms e there = rw e at there

same_members : (a b : ℕ) → IsBelow 1024 a → IsBelow 1024 b → members a ≡ members b → a ≡ b
same_members a b below also e = same_from_members a b (λ s. same_bool (has a s) (has b s)
    (λ member. members_in b s (in_same s (members a) (members b) e (in_members a s below member)))
    (λ member. members_in a s (in_same s (members b) (members a) (sym e) (in_members b s also member))))

-- ---- runs give their numbers back

abbrev AreGood : List Run → Type 0
AreGood [] = Unit {0}
AreGood (run ∷ runs) = (run.least ≤ run.greatest) × (run.greatest < 1024) × AreGood runs

abbrev AreSmall : List ℕ → Type 0
AreSmall [] = Unit {0}
AreSmall (n ∷ ns) = (n < 1024) × AreSmall ns

good_in_front : (n : ℕ) (runs : List Run) → n < 1024 → AreGood runs → AreGood (in_front n runs)
unfolding in_front
good_in_front n [] small good = (omega arith, small, tt)
good_in_front n (run ∷ runs) small good =
    elim (cases_eq run.least (n + 1)) [
      | inl e ↦ rw (e, eq-eqb (n + 1) (n + 1) refl) ((let p = good.0 in omega (arith, p, e)), good.1, good.2)
      | inr differs ↦ rw (ne_eqb run.least (n + 1) differs) (omega arith, small, good)
    ]

good_runs : (ns : List ℕ) → AreSmall ns → AreGood (runs_of ns)
unfolding runs_of
good_runs [] small = tt
good_runs (n ∷ ns) small = good_in_front n (runs_of ns) small.0 (good_runs ns small.1)

small_range : (p : ℕ → Bool) (at count : ℕ) → at + count ≤ 1024 → AreSmall (filter p (range_with_len at count))
small_range p at zero within = tt
small_range p at (suc count) within = by_test (p at) (small_range p (at + 1) count (omega (arith, within)))
  where
    by_test : (t : Bool) → AreSmall (filter p (range_with_len (at + 1) count)) → AreSmall (cond t (at ∷ filter p (range_with_len (at + 1) count)) (filter p (range_with_len (at + 1) count)))
    by_test true small = ((omega (arith, within)), small)
    by_test false small = small

numbers_of : List Run → List ℕ
numbers_of [] = []
numbers_of (run ∷ runs) = range_with_len run.least (suc (run.greatest - run.least)) ++ numbers_of runs

numbers_in_front : (n : ℕ) (runs : List Run) → AreGood runs → numbers_of (in_front n runs) ≡ n ∷ numbers_of runs
unfolding in_front numbers_of
numbers_in_front n [] good = let none : n - n ≡ 0 = omega arith in rw none refl
numbers_in_front n (run ∷ runs) good =
    elim (cases_eq run.least (n + 1)) [
      | inl e ↦
          let p = good.0 in
          let more : run.greatest - n ≡ suc (run.greatest - (n + 1)) = omega (arith, p, e) in
          rw (e, eq-eqb (n + 1) (n + 1) refl) (ap (λ (k : ℕ). n ∷ (range_with_len (n + 1) k ++ numbers_of runs)) more)
      | inr differs ↦
          let none : n - n ≡ 0 = omega arith in
          rw (ne_eqb run.least (n + 1) differs) (ap (λ (k : ℕ). n ∷ (range_with_len (n + 1) k ++ (range_with_len run.least (suc (run.greatest - run.least)) ++ numbers_of runs))) none)
    ]

numbers_back : (ns : List ℕ) → AreSmall ns → numbers_of (runs_of ns) ≡ ns
unfolding runs_of numbers_of
numbers_back [] small = refl
numbers_back (n ∷ ns) small = numbers_in_front n (runs_of ns) (good_runs ns small.1) ∙ ap (λ (ms : List ℕ). n ∷ ms) (numbers_back ns small.1)

-- ---- texts of runs

run_fields : Run → List (List ℕ)
run_fields run = cond (eqb run.least run.greatest) (decimal run.least ∷ []) (decimal run.least ∷ decimal run.greatest ∷ [])

fields_of_run : (run : Run) → run.least ≤ run.greatest → run.greatest < 1024 → fields_by 45 (run_text run) ≡ run_fields run
unfolding run_text run_fields
fields_of_run run up small =
    let first : IsFree 45 (decimal run.least) = decimal_free 45 run.least refl (omega (arith, up, small)) in
    let second : IsFree 45 (decimal run.greatest) = decimal_free 45 run.greatest refl (omega (arith, small)) in
    elim (cases_eq run.least run.greatest) [
      | inl e ↦ rw (eq-eqb run.least run.greatest e) (fields_last 45 (decimal run.least) first)
      | inr differs ↦
          rw (ne_eqb run.least run.greatest differs)
          (fields_first 45 (decimal run.least ++ (codes "-" ++ decimal run.greatest)) (decimal run.least) (decimal run.greatest) refl first
          ∙ ap (λ (ws : List (List ℕ)). decimal run.least ∷ ws) (fields_last 45 (decimal run.greatest) second))
    ]

first : List (List ℕ) → List ℕ
first [] = []
first (x ∷ xs) = x

others : List (List ℕ) → List (List ℕ)
others [] = []
others (x ∷ xs) = xs

one_run : (r s : Run) → r.least ≤ r.greatest → r.greatest < 1024 → s.least ≤ s.greatest → s.greatest < 1024 → run_text r ≡ run_text s → r ≡ s
unfolding run_fields first others
one_run r s up small also low e =
    let fields : run_fields r ≡ run_fields s = sym (fields_of_run r up small) ∙ ap (fields_by 45) e ∙ fields_of_run s also low in
    elim (cases_eq r.least r.greatest) [
      | inl p ↦ elim (cases_eq s.least s.greatest) [
        | inl q ↦
            let both : decimal r.least ∷ [] ≡ decimal s.least ∷ [] = rw (eq-eqb r.least r.greatest p, eq-eqb s.least s.greatest q) at fields in
            let least : r.least ≡ s.least = decimal_injective r.least s.least (omega (arith, up, small)) (omega (arith, also, low)) (ap first both) in
            same r s least (sym p ∙ least ∙ q)
        | inr q ↦
            let both : decimal r.least ∷ [] ≡ decimal s.least ∷ decimal s.greatest ∷ [] = rw (eq-eqb r.least r.greatest p, ne_eqb s.least s.greatest q) at fields in
            absurd (omega (arith, ap length both))
      ]
      | inr p ↦ elim (cases_eq s.least s.greatest) [
        | inl q ↦
            let both : decimal r.least ∷ decimal r.greatest ∷ [] ≡ decimal s.least ∷ [] = rw (ne_eqb r.least r.greatest p, eq-eqb s.least s.greatest q) at fields in
            absurd (omega (arith, ap length both))
        | inr q ↦
            let both : decimal r.least ∷ decimal r.greatest ∷ [] ≡ decimal s.least ∷ decimal s.greatest ∷ [] = rw (ne_eqb r.least r.greatest p, ne_eqb s.least s.greatest q) at fields in
            same r s (decimal_injective r.least s.least (omega (arith, up, small)) (omega (arith, also, low)) (ap first both))
            (decimal_injective r.greatest s.greatest (omega (arith, small)) (omega (arith, low)) (ap (λ ws. first (others ws)) both))
      ]
    ]
  where
    same : (r s : Run) → r.least ≡ s.least → r.greatest ≡ s.greatest → r ≡ s
    same r s e f = rw (e, f) refl

run_free : (run : Run) → run.least ≤ run.greatest → run.greatest < 1024 → IsFree 43 (run_text run)
unfolding run_text
run_free run up small =
    let first : IsFree 43 (decimal run.least) = decimal_free 43 run.least refl (omega (arith, up, small)) in
    let second : IsFree 43 (decimal run.greatest) = decimal_free 43 run.greatest refl (omega (arith, small)) in
    elim (cases_eq run.least run.greatest) [
      | inl e ↦ rw (eq-eqb run.least run.greatest e) first
      | inr differs ↦
          rw (ne_eqb run.least run.greatest differs)
          (All-append (λ (b : ℕ). eqb b 43 ≡ false) (decimal run.least) (45 ∷ decimal run.greatest) first (All-cons (λ (b : ℕ). eqb b 43 ≡ false) 45 (decimal run.greatest) refl second))
    ]

runs_free : (runs : List Run) → AreGood runs → All (IsFree 43) (map run_text runs)
runs_free [] good = All-nil (IsFree 43)
runs_free (run ∷ runs) good = All-cons (IsFree 43) (run_text run) (map run_text runs) (run_free run good.0 good.1) (runs_free runs good.2)

same_runs : (rs ss : List Run) → AreGood rs → AreGood ss → map run_text rs ≡ map run_text ss → rs ≡ ss
unfolding first others
same_runs [] [] good also e = refl
same_runs [] (s ∷ ss) good also e = absurd (omega (arith, ap length e))
same_runs (r ∷ rs) [] good also e = absurd (omega (arith, ap length e))
same_runs (r ∷ rs) (s ∷ ss) good also e =
    let head : r ≡ s = one_run r s good.0 good.1 also.0 also.1 (ap first e) in
    let tail : rs ≡ ss = same_runs rs ss good.2 also.2 (ap others e) in
    rw (head, tail) refl

no_text : (run : Run) (runs : List Run) → AreGood (run ∷ runs) → runs_text (run ∷ runs) ≡ [] → ⊥
unfolding runs_text
no_text run [] good e = let some = some_text run good.0 good.1 in omega (arith, some, ap length e)
no_text run (next ∷ runs) good e =
    let long = length-append (run_text run) (43 ∷ join_with_byte 43 (map run_text (next ∷ runs))) in
    let some = some_text run good.0 good.1 in
    let none = ap length e in
    omega (arith, long, some, none)

one_runs_text : (rs ss : List Run) → AreGood rs → AreGood ss → runs_text rs ≡ runs_text ss → rs ≡ ss
unfolding runs_text
one_runs_text [] [] good also e = refl
one_runs_text [] (s ∷ ss) good also e = absurd (no_text s ss also (sym e))
one_runs_text (r ∷ rs) [] good also e = absurd (no_text r rs good e)
one_runs_text (r ∷ rs) (s ∷ ss) good also e =
    same_runs (r ∷ rs) (s ∷ ss) good also
    (sym (fields-joined 43 (run_text r) (map run_text rs) (runs_free (r ∷ rs) good)) ∙ ap (fields_by 43) e ∙ fields-joined 43 (run_text s) (map run_text ss) (runs_free (s ∷ ss) also))

one_ranges : (a b : ℕ) → IsBelow 1024 a → IsBelow 1024 b → ranges a ≡ ranges b → a ≡ b
unfolding ranges members
one_ranges a b below also e =
    let small : AreSmall (members a) = small_range (has a) 0 1024 (omega arith) in
    let low : AreSmall (members b) = small_range (has b) 0 1024 (omega arith) in
    let runs : runs_of (members a) ≡ runs_of (members b) = one_runs_text (runs_of (members a)) (runs_of (members b)) (good_runs (members a) small) (good_runs (members b) low) e in
    same_members a b below also (sym (numbers_back (members a) small) ∙ ap numbers_of runs ∙ numbers_back (members b) low)

-- ---- both spellings

one_mask : (a b : ℕ) → IsBelow 1024 a → IsBelow 1024 b → hexadecimal a ≡ hexadecimal b → a ≡ b
one_mask a b below also e = one_set (hexadecimal b) 0 a b (mask_stands (hexadecimal b) a below e) (mask_stands (hexadecimal b) b also refl)

pub one_spelling : (a b : ℕ) → IsBelow 1024 a → IsBelow 1024 b → set_spelling a ≡ set_spelling b → a ≡ b
one_spelling a b below also e = by_separator (bytes_eq (take 2 (set_spelling b)) (codes "0x")) refl
  where
    by_separator : (t : Bool) → bytes_eq (take 2 (set_spelling b)) (codes "0x") ≡ t → a ≡ b
    by_separator true is =
        let separator : take 2 (set_spelling b) ≡ codes "0x" = (bytes_eq-Decides (take 2 (set_spelling b)) (codes "0x")).0 is in
        one_mask a b below also (sym (spelled_as_mask a (set_spelling b) below e separator) ∙ spelled_as_mask b (set_spelling b) also refl separator)
    by_separator false is =
        let none : take 2 (set_spelling b) ≢ codes "0x" = λ separator. false≢true (sym is ∙ (bytes_eq-Decides (take 2 (set_spelling b)) (codes "0x")).1 separator) in
        one_ranges a b below also ((spelled_as_runs a (set_spelling b) below e none).1 ∙ sym (spelled_as_runs b (set_spelling b) also refl none).1)

pub one_set_text : (format a b : ℕ) → IsSetIn format a → IsSetIn format b → set_text format a ≡ set_text format b → a ≡ b
unfolding set_text
one_set_text format a b fits also e = by_format (eqb format 2) fits also e
  where
    by_format : (t : Bool) → IsBelow (cond t 1024 512) a → IsBelow (cond t 1024 512) b → cond t (set_spelling a) (hexadecimal a) ≡ cond t (set_spelling b) (hexadecimal b) → a ≡ b
    by_format true below same is = one_spelling a b below same is
    by_format false below same is = one_mask a b (λ s member. let p = below s member in omega (arith, p)) (λ s member. let p = same s member in omega (arith, p)) is

-- Ranges that are read run by run.
use Rattle.std.proofs.Common.{◌≡◌, ◌≢◌, ℕ, ◌+◌, ◌^◌, ◌<◌, ◌≤◌, ◌⊎◌, true, List, [], ◌∷◌, ◌++◌, length, get_or, drop, refl, sym, ap, ◌∙◌, arith, inl, inr, append_assoc, append-nil, length-append}
use Rattle.std.specs.Prelude.{codes, Option, Some}
use Rattle.std.specs.Char.{is_ascii_digit}
use Rattle.std.specs.Fmt.{decimal}
use Rattle.std.specs.List.{take_while}
use Rattle.std.specs.Cmp.{both_ways}
use Rattle.std.proofs.Math.Seq.{drop-append_seam}
use Rattle.std.proofs.lemmas.Bool.{cases_eq, false≢true}
use Rattle.std.proofs.lemmas.Option.{some_pair_parts, same_Some}
use Rattle.std.proofs.lemmas.List.{drop-drop, get_or-drop, length-drop}
use Rattle.cw_core.specs.Numerals.{IsDecimalAt}
use Rattle.cw_core.specs.Ranges.{Run, run_text, runs_text, ranges, Ascend, IsIn}
use Rattle.cw_core.specs.StateSet.{has, IsBelow}
use Rattle.cw_core.proofs.Runs.{runs_from, runs_ascend, runs_have, runs_have_only, whole_runs}
use Rattle.cw_core.proofs.RunTexts.{lone_text, long_text, runs_text-one, runs_text-more}
use Rattle.cw_core.proofs.Sets.{has-zero, same_from_members}
use Rattle.cw_core.proofs.Spellings.{decimal_at}

-- ---- one run

stops : (rest : List ℕ) → get_or rest 0 43 ≡ 43 → take_while is_ascii_digit rest ≡ []
stops [] e = refl
stops (b ∷ bs) e = rw e refl

dashed : (greatest : ℕ) (rest : List ℕ) → (codes "-" ++ decimal greatest) ++ rest ≡ 45 ∷ (decimal greatest ++ rest)
dashed greatest rest = append_assoc (codes "-") (decimal greatest) rest

pub long_split : (run : Run) (rest : List ℕ) → run.least ≢ run.greatest → run_text run ++ rest ≡ decimal run.least ++ (45 ∷ (decimal run.greatest ++ rest))
long_split run rest differ =
    ap (λ (z : List ℕ). z ++ rest) (long_text run differ)
    ∙ append_assoc (decimal run.least) (codes "-" ++ decimal run.greatest) rest
    ∙ ap (λ (z : List ℕ). decimal run.least ++ z) (dashed run.greatest rest)

pub first_number : (text : List ℕ) (at : ℕ) (run : Run) (rest : List ℕ) → run.least ≤ run.greatest → run.greatest < 1024 → drop at text ≡ run_text run ++ rest → get_or rest 0 43 ≡ 43 → IsDecimalAt text at run.least
first_number text at run rest up below e stop =
    let small : run.least < 2 ^ 64 = omega (arith, up, below) in
    elim (cases_eq run.least run.greatest) [
      | inl same ↦ decimal_at text at run.least rest small (e ∙ ap (λ (z : List ℕ). z ++ rest) (lone_text run same)) (stops rest stop)
      | inr differ ↦ decimal_at text at run.least (45 ∷ (decimal run.greatest ++ rest)) small (e ∙ long_split run rest differ) refl
    ]

pub second_number : (text : List ℕ) (at number : ℕ) (rest : List ℕ) → number < 1024 → drop at text ≡ 45 ∷ (decimal number ++ rest) → get_or rest 0 43 ≡ 43 → IsDecimalAt text (at + 1) number
second_number text at number rest below e stop = decimal_at text (at + 1) number rest (omega (arith, below)) (sym (drop-drop 1 at text) ∙ ap (drop 1) e) (stops rest stop)

-- what is behind a front
pub behind : (text front rest : List ℕ) (at : ℕ) → drop at text ≡ front ++ rest → drop (at + length front) text ≡ rest
behind text front rest at e = sym (drop-drop (length front) at text) ∙ ap (drop (length front)) e ∙ drop-append_seam front rest

-- what is read of a run that stands there: its least number, and then its greatest
pub run_answer : (text : List ℕ) (at : ℕ) (run : Run) (rest : List ℕ) (least after : ℕ) (answer : Option (ℕ × ℕ)) → run.greatest < 1024 → drop at text ≡ run_text run ++ rest → get_or rest 0 43 ≡ 43
    → ◌≡◌ {A = Option (ℕ × ℕ)} (Some (least, after)) (Some (run.least, at + length (decimal run.least))) → (get_or (drop after text) 0 43 ≡ 43 → ◌≡◌ {A = Option (ℕ × ℕ)} answer (Some (least, after)))
    → ((number : ℕ) (more : List ℕ) → number < 1024 → drop after text ≡ 45 ∷ (decimal number ++ more) → get_or more 0 43 ≡ 43 → ◌≡◌ {A = Option (ℕ × ℕ)} answer (Some (number, after + 1 + length (decimal number))))
    → (least ≡ run.least) × ◌≡◌ {A = Option (ℕ × ℕ)} answer (Some (run.greatest, at + length (run_text run)))
run_answer text at run rest least after answer below e stop first lone long =
    let parts = some_pair_parts least run.least after (at + length (decimal run.least)) first in (
      parts.0,
      elim (cases_eq run.least run.greatest) [
        | inl same ↦
            let here : drop at text ≡ decimal run.least ++ rest = e ∙ ap (λ (z : List ℕ). z ++ rest) (lone_text run same) in
            let left : drop after text ≡ rest = rw parts.1 (behind text (decimal run.least) rest at here) in
            lone (ap (λ (z : List ℕ). get_or z 0 43) left ∙ stop) ∙ rw (parts.0, parts.1, lone_text run same, same) refl
        | inr differ ↦
            let here : drop at text ≡ decimal run.least ++ (45 ∷ (decimal run.greatest ++ rest)) = e ∙ long_split run rest differ in
            let left : drop after text ≡ 45 ∷ (decimal run.greatest ++ rest) = rw parts.1 (behind text (decimal run.least) (45 ∷ (decimal run.greatest ++ rest)) at here) in
            let end : after + 1 + length (decimal run.greatest) ≡ at + length (run_text run) = omega (arith, parts.1, ap length (long_text run differ), length-append (decimal run.least) (codes "-" ++ decimal run.greatest)) in
            long run.greatest rest below left stop ∙ rw end refl
      ],
    )

-- ---- run after run

-- what is behind a run
abbrev pub tail : List Run → List ℕ
tail [] = []
tail (run ∷ runs) = 43 ∷ runs_text (run ∷ runs)

pub tail_stops : (runs : List Run) → get_or (tail runs) 0 43 ≡ 43
tail_stops [] = refl
tail_stops (run ∷ runs) = refl

pub runs_split : (run : Run) (runs : List Run) → runs_text (run ∷ runs) ≡ run_text run ++ tail runs
runs_split run [] = runs_text-one run ∙ sym (append-nil (run_text run))
runs_split run (next ∷ runs) = runs_text-more run next runs

-- the runs of a set that are still to be read at a place, the others being in `set`
pub record Reads (text : List ℕ) (target set at : ℕ) : Type 0 where
  pub run : Run
  pub runs : List Run
  pub spelled : drop at text ≡ runs_text (run ∷ runs)
  pub low : ℕ
  pub up : Ascend low (run ∷ runs)
  pub below : (s : ℕ) → IsIn s (run ∷ runs) → s < 1024
  pub whole : (s : ℕ) → has target s ≡ true → IsIn s (run ∷ runs) ⊎ (has set s ≡ true)
  pub only : (s : ℕ) → IsIn s (run ∷ runs) → has target s ≡ true
  pub kept : (s : ℕ) → has set s ≡ true → has target s ≡ true

pub reads_first : (text : List ℕ) (target : ℕ) → IsBelow 1024 target → target ≢ 0 → ranges target ≡ text → Reads text target 0 0
unfolding ranges
reads_first text target below some e = split (runs_from target 0 1024) refl
  where
    split : (runs : List Run) → runs_from target 0 1024 ≡ runs → Reads text target 0 0
    split [] is = absurd (some (same_from_members target 0 (λ s. both_ways (has target s) (has 0 s)
        (λ member. absurd (rw is at (runs_have target 0 1024 s member (omega arith) (let p = below s member in omega (arith, p)))))
        (λ none. absurd (false≢true (sym (has-zero s) ∙ none))))))
    split (run ∷ runs) is = record {
      run = run;
      runs = runs;
      spelled = sym e ∙ ap runs_text (sym (whole_runs target) ∙ is);
      low = 0;
      up = rw is at (runs_ascend target 0 1024);
      below = λ s h. let p = (runs_have_only target 0 1024 s (rw is h)).2 in omega (arith, p);
      whole = λ s member. inl (rw is at (runs_have target 0 1024 s member (omega arith) (let p = below s member in omega (arith, p))));
      only = λ s h. (runs_have_only target 0 1024 s (rw is h)).0;
      kept = λ s member. absurd (false≢true (sym (has-zero s) ∙ member));
    }

pub run_up : (text : List ℕ) (target set at : ℕ) (r : Reads text target set at) → r.run.least ≤ r.run.greatest
run_up text target set at r = r.up.1

pub run_below : (text : List ℕ) (target set at : ℕ) (r : Reads text target set at) → r.run.greatest < 1024
run_below text target set at r = r.below r.run.greatest (inl (r.up.1, (let p : r.run.greatest ≤ r.run.greatest = omega arith in p)))

pub run_spelled : (text : List ℕ) (target set at : ℕ) (r : Reads text target set at) → drop at text ≡ run_text r.run ++ tail r.runs
run_spelled text target set at r = r.spelled ∙ runs_split r.run r.runs

-- `set` after a run has been put in
abbrev pub HasMore : (least greatest set more : ℕ) → Type 0
HasMore least greatest set more = (s : ℕ) → (has more s ≡ true → ((least ≤ s) × (s ≤ greatest)) ⊎ (has set s ≡ true)) × (((least ≤ s) × (s ≤ greatest)) ⊎ (has set s ≡ true) → has more s ≡ true)

pub has_more-same : (least greatest set more l g : ℕ) → least ≡ l → greatest ≡ g → HasMore least greatest set more → HasMore l g set more
has_more-same least greatest set more l g e f h = rw (← e, ← f) h

-- what is read at the place
pub reads_run : (text : List ℕ) (target set at : ℕ) (answer : Option (ℕ × ℕ × ℕ)) → Reads text target set at
    → ((run : Run) (rest : List ℕ) → run.least ≤ run.greatest → run.greatest < 1024 → drop at text ≡ run_text run ++ rest → get_or rest 0 43 ≡ 43 → ◌≡◌ {A = Option (ℕ × ℕ × ℕ)} answer (Some (run.least, run.greatest, at + length (run_text run))))
    → (r : Reads text target set at) × ◌≡◌ {A = Option (ℕ × ℕ × ℕ)} answer (Some (r.run.least, r.run.greatest, at + length (run_text r.run)))
reads_run text target set at answer r found = (r, found r.run (tail r.runs) (run_up text target set at r) (run_below text target set at r) (run_spelled text target set at r) (tail_stops r.runs))

pub three_parts : (a b c x y z : ℕ) → ◌≡◌ {A = Option (ℕ × ℕ × ℕ)} (Some (a, b, c)) (Some (x, y, z)) → (a ≡ x) × (b ≡ y) × (c ≡ z)
three_parts a b c x y z e =
    let p : ◌≡◌ {A = ℕ × ℕ × ℕ} (a, b, c) (x, y, z) = same_Some (a, b, c) (x, y, z) e in
    (ap (λ (t : ℕ × ℕ × ℕ). t.0) p, ap (λ (t : ℕ × ℕ × ℕ). t.1) p, ap (λ (t : ℕ × ℕ × ℕ). t.2) p)

-- the last run is read
pub reads_last : (text : List ℕ) (target set more at end : ℕ) (r : Reads text target set at) → HasMore r.run.least r.run.greatest set more → end ≡ at + length (run_text r.run) → end ≡ length text → more ≡ target
reads_last text target set more at end r has_more e done = split r.runs refl
  where
    split : (runs : List Run) → r.runs ≡ runs → more ≡ target
    split [] is = same_from_members more target (λ s. both_ways (has more s) (has target s)
        (λ member. elim ((has_more s).0 member) [ inl here ↦ r.only s (inl here) | inr old ↦ r.kept s old ])
        (λ member. elim (r.whole s member) [
          | inl there ↦ elim there [
            | inl here ↦ (has_more s).1 (inl here)
            | inr later ↦ absurd (rw is at later)
          ]
          | inr old ↦ (has_more s).1 (inr old)
        ]))
    split (next ∷ runs) is =
        let left : drop (at + length (run_text r.run)) text ≡ 43 ∷ runs_text (next ∷ runs) = behind text (run_text r.run) (tail r.runs) at (run_spelled text target set at r) ∙ ap tail is in
        let long = length-drop (at + length (run_text r.run)) text in
        absurd (omega (arith, ap length left, long, e, done))

-- behind a run that is not the last is `+`
pub reads_prefix : (text : List ℕ) (target set at end : ℕ) (r : Reads text target set at) → end ≡ at + length (run_text r.run) → end < length text → get_or text end 0 ≡ 43
reads_prefix text target set at end r e lt = split r.runs refl
  where
    split : (runs : List Run) → r.runs ≡ runs → get_or text end 0 ≡ 43
    split [] is =
        let left : drop (at + length (run_text r.run)) text ≡ [] = behind text (run_text r.run) (tail r.runs) at (run_spelled text target set at r) ∙ ap tail is in
        let long = length-drop (at + length (run_text r.run)) text in
        absurd (omega (arith, ap length left, long, e, lt))
    split (next ∷ runs) is =
        let left : drop end text ≡ 43 ∷ runs_text (next ∷ runs) = rw e (behind text (run_text r.run) (tail r.runs) at (run_spelled text target set at r) ∙ ap tail is) in
        let same : end + 0 ≡ end = omega arith in
        rw (← same) (sym (get_or-drop end text 0 0) ∙ ap (λ (z : List ℕ). get_or z 0 0) left)

-- and what is behind that is the next run
pub reads_next : (text : List ℕ) (target set more at end : ℕ) (r : Reads text target set at) → HasMore r.run.least r.run.greatest set more → end ≡ at + length (run_text r.run) → end < length text → Reads text target more (end + 1)
reads_next text target set more at end r has_more e lt = split r.runs refl
  where
    split : (runs : List Run) → r.runs ≡ runs → Reads text target more (end + 1)
    split [] is =
        let left : drop (at + length (run_text r.run)) text ≡ [] = behind text (run_text r.run) (tail r.runs) at (run_spelled text target set at r) ∙ ap tail is in
        let long = length-drop (at + length (run_text r.run)) text in
        absurd (omega (arith, ap length left, long, e, lt))
    split (next ∷ runs) is =
        let left : drop end text ≡ 43 ∷ runs_text (next ∷ runs) = rw e (behind text (run_text r.run) (tail r.runs) at (run_spelled text target set at r) ∙ ap tail is) in
        record {
          run = next;
          runs = runs;
          spelled = sym (drop-drop 1 end text) ∙ ap (drop 1) left;
          low = r.run.greatest + 2;
          up = rw is at r.up.2;
          below = λ s h. r.below s (inr (rw is h));
          whole = λ s member. elim (r.whole s member) [
            | inl there ↦ elim there [
              | inl here ↦ inr ((has_more s).1 (inl here))
              | inr later ↦ inl (rw is at later)
            ]
            | inr old ↦ inr ((has_more s).1 (inr old))
          ];
          only = λ s h. r.only s (inr (rw is h));
          kept = λ s member. elim ((has_more s).0 member) [ inl here ↦ r.only s (inl here) | inr old ↦ r.kept s old ];
        }

-- The text of runs, run by run.
use Rattle.std.proofs.Common.{◌≡◌, ◌≢◌, ℕ, ◌+◌, ◌<◌, ◌≤◌, eqb, cond, List, [], ◌∷◌, ◌++◌, length, refl, sym, ap, ◌∙◌, arith, inl, inr, append_assoc, length-append}
use Rattle.std.specs.Prelude.{codes}
use Rattle.std.specs.Fmt.{decimal}
use Rattle.std.proofs.lemmas.Bool.{cases_eq, ne_eqb, eq-eqb}
use Rattle.std.proofs.lemmas.Fmt.{length-decimal-le, decimal_nonempty}
use Rattle.cw_core.specs.Ranges.{Run, run_text, runs_text}

-- the text after more runs have been put behind what stands there
pub continued : List ℕ → List Run → List ℕ
continued text [] = text
continued [] (run ∷ runs) = runs_text (run ∷ runs)
continued (b ∷ bs) (run ∷ runs) = (b ∷ bs) ++ (43 ∷ runs_text (run ∷ runs))

-- what stands between the text and the next run
abbrev pub between : List ℕ → List ℕ
between text = cond (eqb (length text) 0) [] (43 ∷ [])

between-some : (b : ℕ) (bs : List ℕ) → between (b ∷ bs) ≡ 43 ∷ []
between-some b bs = rw (ne_eqb (length (b ∷ bs)) 0 (λ e. omega (arith, e))) refl

pub runs_text-one : (run : Run) → runs_text (run ∷ []) ≡ run_text run
unfolding runs_text
runs_text-one run = refl

pub runs_text-more : (run next : Run) (runs : List Run) → runs_text (run ∷ next ∷ runs) ≡ run_text run ++ (43 ∷ runs_text (next ∷ runs))
unfolding runs_text
runs_text-more run next runs = refl

pub lone_text : (run : Run) → run.least ≡ run.greatest → run_text run ≡ decimal run.least
unfolding run_text
lone_text run e = rw (eq-eqb run.least run.greatest e) refl

pub long_text : (run : Run) → run.least ≢ run.greatest → run_text run ≡ decimal run.least ++ (codes "-" ++ decimal run.greatest)
unfolding run_text
long_text run ne = rw (ne_eqb run.least run.greatest ne) refl

pub continued-none : (text : List ℕ) → continued text [] ≡ text
unfolding continued
continued-none [] = refl
continued-none (b ∷ bs) = refl

pub continued-start : (runs : List Run) → continued [] runs ≡ runs_text runs
unfolding continued runs_text
continued-start [] = refl
continued-start (run ∷ runs) = refl

-- what stands there stays
pub continued_is_longer : (text : List ℕ) (runs : List Run) → length text ≤ length (continued text runs)
unfolding continued
continued_is_longer text [] = omega arith
continued_is_longer [] (run ∷ runs) = omega arith
continued_is_longer (b ∷ bs) (run ∷ runs) = let whole = length-append (b ∷ bs) (43 ∷ runs_text (run ∷ runs)) in omega (arith, whole)

-- a run more
pub continued-more : (text : List ℕ) (run : Run) (runs : List Run) → 0 < length (run_text run) → continued text (run ∷ runs) ≡ continued (text ++ (between text ++ run_text run)) runs
unfolding continued
continued-more [] run [] some = runs_text-one run ∙ sym (continued-none (run_text run))
continued-more [] run (next ∷ runs) some = runs_text-more run next runs ∙ split (run_text run) some
  where
    split : (here : List ℕ) → 0 < length here → here ++ (43 ∷ runs_text (next ∷ runs)) ≡ continued here (next ∷ runs)
    split [] none = absurd (omega (arith, none))
    split (b ∷ bs) some = refl
continued-more (b ∷ bs) run [] some = rw (between-some b bs) (ap (λ (z : List ℕ). (b ∷ bs) ++ (43 ∷ z)) (runs_text-one run))
continued-more (b ∷ bs) run (next ∷ runs) some =
    rw (between-some b bs) (ap (λ (z : List ℕ). (b ∷ bs) ++ (43 ∷ z)) (runs_text-more run next runs)
    ∙ sym (append_assoc (b ∷ bs) (43 ∷ run_text run) (43 ∷ runs_text (next ∷ runs))))

-- the room that a run takes
pub lone_room : (least : ℕ) → least < 1024 → length (decimal least) ≤ 4
lone_room least lt = length-decimal-le 4 least (omega arith) (omega (arith, lt)) (omega (arith, lt))

pub between_room : (text : List ℕ) → length (between text) ≤ 1
between_room [] = omega arith
between_room (b ∷ bs) = rw (between-some b bs) (omega arith)

-- what the first number leaves of the room
pub after_first : (text more : List ℕ) (least : ℕ) → more ≡ (text ++ between text) ++ decimal least → least < 1024 → length text + 46 ≤ 1024 → length more + 41 ≤ 1024
after_first text more least e below le =
    omega (arith, ap length e, length-append (text ++ between text) (decimal least), length-append text (between text), between_room text, lone_room least below, le)

pub after_prefix : (more text : List ℕ) → text ≡ more ++ 45 ∷ [] → length more + 41 ≤ 1024 → length text + 20 ≤ 1024
after_prefix more text e le = omega (arith, ap length e, length-append more (45 ∷ []), le)

-- the run that was put
pub lone_put : (text more : List ℕ) (least greatest : ℕ) → more ≡ (text ++ between text) ++ decimal least → least ≡ greatest → more ≡ text ++ (between text ++ run_text (record { least = least; greatest = greatest }))
lone_put text more least greatest e same =
    e ∙ append_assoc text (between text) (decimal least)
    ∙ ap (λ (z : List ℕ). text ++ (between text ++ z)) (sym (lone_text (record { least = least; greatest = greatest }) same))

pub long_put : (text first second more : List ℕ) (least greatest : ℕ) → first ≡ (text ++ between text) ++ decimal least → second ≡ first ++ codes "-" → more ≡ second ++ decimal greatest → least ≢ greatest
    → more ≡ text ++ (between text ++ run_text (record { least = least; greatest = greatest }))
long_put text first second more least greatest e f g differ =
    g ∙ ap (λ (z : List ℕ). z ++ decimal greatest) (f ∙ ap (λ (z : List ℕ). z ++ codes "-") e)
    ∙ append_assoc ((text ++ between text) ++ decimal least) (codes "-") (decimal greatest)
    ∙ append_assoc (text ++ between text) (decimal least) (codes "-" ++ decimal greatest)
    ∙ append_assoc text (between text) (decimal least ++ (codes "-" ++ decimal greatest))
    ∙ ap (λ (z : List ℕ). text ++ (between text ++ z)) (sym (long_text (record { least = least; greatest = greatest }) differ))

pub some_text : (run : Run) → run.least ≤ run.greatest → run.greatest < 1024 → 0 < length (run_text run)
some_text run up below =
    let first = decimal_nonempty run.least (omega (arith, up, below)) in
    elim (cases_eq run.least run.greatest) [
      | inl e ↦ rw (lone_text run e) first
      | inr ne ↦ rw (long_text run ne) (let p = length-append (decimal run.least) (codes "-" ++ decimal run.greatest) in omega (arith, p, first))
    ]

-- For the number of a sample one answer is due.
use Rattle.std.proofs.Common.{◌≡◌, ◌≢◌, inl, inr, ℕ, ◌+◌, ◌≤◌, List, [], ◌∷◌, length, refl, sym, ap, ◌∙◌, subst, arith}
use Rattle.std.specs.Prelude.{sum_by}
use Rattle.std.proofs.lemmas.List.Sums.{sum_by-cons}
use Rattle.cw_core.specs.declared.quantity.Quantity.TheVariants.{Cells, Rows}
use Rattle.cw_rights.specs.Policies.{PlainPolicy}
use Rattle.cw_syntax.specs.Trees.{File}
use Rattle.cw_callgraph.specs.Fitting.{Fits}
use Rattle.cw_model.specs.Boards.{problem_of}
use Rattle.cw_game.specs.Games.{Game}
use Rattle.cw_game.specs.Standing.{IsGameOf}
use Rattle.cw_solve.specs.declared.contexts.Context.{Context}
use Rattle.cw_solve.specs.Contexts.{cells_of, AreTheNeeded}
use Rattle.cw_solve.proofs.Counts.{one_number, sum_within}
use Rattle.cw_lazy_table.specs.Lazy.{table_rows}
use Rattle.cw_least_strategy.specs.Strategies.{rows_of}
use Rattle.cw_sample.specs.Samples.{sample_policy, sample_source}
use Rattle.cw_commands.specs.declared.outcome.Reply.{Reply}
use Rattle.cw_commands.specs.declared.outcome.Reply.TheVariants.{Yes, No}
use Rattle.cw_commands.specs.Outcomes.{Due, Told, Refused}
use Rattle.cw_stages.specs.declared.numbers.Numbers.{Numbers}
use Rattle.cw_stages.specs.Counting.{AreNumbers}
use Rattle.cw_stages.specs.Refusals.{over}
use Rattle.cw_stages.specs.Verdicts.{AfterGame, StartHolds}
use Rattle.cw_cli.specs.Sampling.{summary, IsSampleDue, IsSummed}
use Rattle.cw_cli.specs.Weaving.{AfterFit, AfterPair}
use Rattle.cw_cli.proofs.Agreeing.{fits_once}
use Rattle.cw_consequences.proofs.Outcomes.{Outcome, ManyCells, ManyRows, Woven, Refuted, Ends, one_outcome, start_holds}
use Rattle.cw_consequences.proofs.Singles.{IsOne, one_fit_refusal, one_reading, one_with_graph}

counted : (xs : List Context) → sum_by (λ c. 1) xs ≡ length xs
counted [] = refl
counted (x ∷ xs) = omega (arith, sum_by-cons (λ (c : Context). 1) x xs, counted xs)

-- a game needs one number of contexts
pub one_length : (g : Game) (some all : List Context) → AreTheNeeded g some → AreTheNeeded g all → length some ≡ length all
one_length g some all s a =
    let less = sum_within (λ (c : Context). 1) some all s.some.distinct (λ c is. a.all c (s.some.needed c is)) in
    let more = sum_within (λ (c : Context). 1) all some a.some.distinct (λ c is. s.all c (a.some.needed c is)) in
    omega (arith, less, more, counted some, counted all)

module _ (number : ℕ) (p : PlainPolicy) (source : List ℕ) (file : File) where
  module _ (g : Game) where
    -- what is told of an outcome: its rows, and the numbers of the game
    abbrev Sums : Outcome → Due → Type 0
    Sums ManyCells due = due ≡ over Cells
    Sums ManyRows due = due ≡ over Rows
    Sums (Woven t) due = (numbers : Numbers) × (due ≡ Told Yes (summary number numbers Yes)) × (numbers.rows ≡ table_rows t) × AreNumbers p source file g numbers
    Sums (Refuted s) due = (numbers : Numbers) × (due ≡ Told No (summary number numbers No)) × (numbers.rows ≡ rows_of s) × AreNumbers p source file g numbers

    sums : IsGameOf (problem_of p source file) g → (due : Due) → AfterGame (IsSummed number p source file) g due → (o : Outcome) × Ends g o × Sums o due
    sums of due (inl (many, e)) = (ManyCells, many, e)
    sums of due (inr (few, inl (many, e))) = (ManyRows, (few, many), e)
    sums of due (inr (few, inr summed)) = by due summed
      where
        by : (due : Due) → IsSummed number p source file g due → (o : Outcome) × Ends g o × Sums o due
        by (Told Yes text) (written, numbers, (w, rows, are), e) =
            (Woven w.table, (few, start_holds (problem_of p source file) g of w.never, w.is_lazy, w.few), (numbers, ap (Told Yes) e, rows, are))
        by (Told No text) (written, numbers, (w, rows, are), e) = (Refuted w.strategy, (few, w.is_least, w.few), (numbers, ap (Told No) e, rows, are))
        by (Refused cause line) h = absurd h

    same_numbers : (a b : Numbers) → a.rows ≡ b.rows → AreNumbers p source file g a → AreNumbers p source file g b → a ≡ b
    same_numbers a b rows x y =
        let points = x.are_points ∙ sym y.are_points in
        let positions = x.are_positions ∙ sym y.are_positions in
        let states = x.are_states ∙ sym y.are_states in
        let contexts = x.are_contexts ∙ one_length g x.contexts y.contexts x.needed y.needed ∙ sym y.are_contexts in
        let cells = x.are_cells ∙ one_number g x.contexts y.contexts x.needed y.needed ∙ sym y.are_cells in
        λ i. record { points = points i; positions = positions i; states = states i; contexts = contexts i; cells = cells i; rows = rows i }

    one_sum : (o : Outcome) → IsOne (Sums o)
    one_sum ManyCells due answer a b = a ∙ sym b
    one_sum ManyRows due answer a b = a ∙ sym b
    one_sum (Woven t) due answer (m, a, rows, are) (n, b, others, is) =
        a ∙ ap (λ (k : Numbers). Told Yes (summary number k Yes)) (same_numbers m n (rows ∙ sym others) are is) ∙ sym b
    one_sum (Refuted s) due answer (m, a, rows, are) (n, b, others, is) =
        a ∙ ap (λ (k : Numbers). Told No (summary number k No)) (same_numbers m n (rows ∙ sym others) are is) ∙ sym b

    one_summed : IsGameOf (problem_of p source file) g → IsOne (AfterGame (IsSummed number p source file) g)
    one_summed of due answer a b =
        let first = sums of due a in
        let second = sums of answer b in
        let same : first.0 ≡ second.0 = one_outcome g first.0 second.0 first.1 second.1 in
        one_sum second.0 due answer (subst (λ (o : Outcome). Sums o due) same first.2) second.2

  one_fitted : IsOne (AfterFit (IsSummed number p source file) source p file)
  one_fitted due answer (inl (some, a)) (inl (more, b)) = a ∙ sym b
  one_fitted due answer (inl (some, a)) (inr (none, behind)) = absurd (some none)
  one_fitted due answer (inr (none, after)) (inl (some, b)) = absurd (some none)
  one_fitted due answer (inr (none, after)) (inr (others, behind)) = one_with_graph source p file (AfterGame (IsSummed number p source file)) one_summed due answer after behind

  one_pair : IsOne (AfterPair (IsSummed number p source file) source p file)
  one_pair due answer (inl a) (inl b) = one_fit_refusal source p file due answer a b
  one_pair due answer (inl (f, is, a)) (inr (fits, behind)) = absurd (fits_once source file p f fits is)
  one_pair due answer (inr (fits, after)) (inl (f, is, b)) = absurd (fits_once source file p f fits is)
  one_pair due answer (inr (fits, after)) (inr (fit, behind)) = one_fitted due answer after behind

pub one_sample : (number : ℕ) → IsOne (IsSampleDue number)
one_sample number =
    one_reading sample_policy (sample_source number) (λ p file. AfterPair (IsSummed number p (sample_source number) file) (sample_source number) p file)
    (λ p file. one_pair number p (sample_source number) file)

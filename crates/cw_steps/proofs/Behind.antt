-- A text read step by step.
use Rattle.std.proofs.Common.{◌≡◌, ℕ, ◌+◌, ◌^◌, ◌<◌, ◌≤◌, List, [], ◌∷◌, ◌++◌, length, Bool, false, eqb, sym, ap, ◌∙◌, subst, arith, length-append}
use Rattle.std.specs.List.{All}
use Rattle.std.proofs.lemmas.List.Elements.{All-push}
use Rattle.cw_lemmas.proofs.Texts.{some_bytes}
use Rattle.cw_text_lines.specs.Lines.{StartsWith, StartsWithNone}
use Rattle.cw_text_lines.proofs.Fronts.{line_more, lines_short, first_other}
use Rattle.cw_steps.specs.declared.step.Step.{Step}
use Rattle.cw_steps.specs.Steps.{step_fields, FitsStep, steps_text}
use Rattle.cw_steps.specs.Faults.{IsFault}
use Rattle.cw_steps.proofs.Acts.{tell}
use Rattle.cw_steps.proofs.Answered.{Are, fit, are_front}

pub no_step : (text rest : List ℕ) (steps : List Step) (number : ℕ) (is_empty : Bool) → text ≡ steps_text steps ++ rest → All FitsStep steps → number ≡ length steps + 1
    → is_empty ≡ eqb (length rest) 0 → is_empty ≡ false → StartsWithNone FitsStep step_fields rest → IsFault text number
no_step text rest steps number is_empty e fits n tests is none =
    first_other FitsStep step_fields tell Are fit text steps rest number (are_front steps fits) e n none (λ w. some_bytes rest is_empty tests is)

pub few_lines : (text rest : List ℕ) (steps : List Step) (number : ℕ) → length text ≤ 33554432 → text ≡ steps_text steps ++ rest → number ≡ length steps + 1 → number + 1 < 2 ^ 32
few_lines text rest steps number small e n = let a = lines_short FitsStep step_fields tell steps rest in let b = ap length e in omega (arith, small, a, b, n)

pub step_more : (text rest more : List ℕ) (old new : List Step) (s : Step) → new ≡ old ++ s ∷ [] → text ≡ steps_text old ++ rest → StartsWith FitsStep step_fields rest s more → text ≡ steps_text new ++ more
step_more text rest more old new s e h is = line_more FitsStep step_fields tell text rest more old s h is ∙ ap (λ ls. steps_text ls ++ more) (sym e)

pub steps_fit : (old new : List Step) (s : Step) → new ≡ old ++ s ∷ [] → All FitsStep old → FitsStep s → All FitsStep new
steps_fit old new s e h k = subst (All FitsStep) (sym e) (All-push FitsStep old s h k)

pub count_more : (old new : List Step) (s : Step) (number : ℕ) → new ≡ old ++ s ∷ [] → number ≡ length old + 1 → number + 1 ≡ length new + 1
count_more old new s number e n = let a = ap length e ∙ length-append old (s ∷ []) in omega (arith, a, n)

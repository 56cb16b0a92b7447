-- A text is that of one list of steps, or has one first line that doesn't fit, and not both.
use Rattle.std.proofs.Common.{◌≡◌, ℕ, List, [], ◌∷◌, ◌++◌, Result, Ok, Err, sym, ap, ◌∙◌, inl, inr, subst, append-nil}
use Rattle.std.specs.List.{All}
use Rattle.std.proofs.lemmas.List.Elements.{All-nil, All-push}
use Rattle.cw_text_lines.specs.Lines.{IsFront}
use Rattle.cw_text_lines.proofs.Fronts.{one_whole, one_other, not_both, HasAnswer, has_answer, all_front}
use Rattle.cw_steps.specs.declared.step.Step.{Step}
use Rattle.cw_steps.specs.declared.fault.StepsFault.{StepsFault}
use Rattle.cw_steps.specs.declared.fault.StepsFault.TheVariants.{Line, NoMemory}
use Rattle.cw_steps.specs.Steps.{step_fields, FitsStep}
use Rattle.cw_steps.specs.Faults.{IsAnswer}
use Rattle.cw_steps.proofs.Acts.{tell, decided}

abbrev pub Are : List Step → Type 0
Are steps = All FitsStep steps

pub fit : (steps : List Step) → Are steps → All FitsStep steps
fit steps h = h

pub one_answer : (text : List ℕ) (a b : Result (List Step) StepsFault) → IsAnswer text a → IsAnswer text b → a ≡ b
one_answer text (Ok xs) (Ok ys) h k = ap Ok (one_whole FitsStep step_fields tell Are fit xs ys h.fits k.fits (sym h.spelled ∙ k.spelled))
one_answer text (Ok xs) (Err (Line n)) h k = absurd (not_both FitsStep step_fields tell Are fit text xs n h.fits h.spelled k)
one_answer text (Err (Line n)) (Ok ys) h k = absurd (not_both FitsStep step_fields tell Are fit text ys n k.fits k.spelled h)
one_answer text (Err (Line m)) (Err (Line n)) h k = ap (λ (n : ℕ). Err (Line n)) (one_other FitsStep step_fields tell Are fit text m n h k)
one_answer text a (Err NoMemory) h k = absurd k
one_answer text (Err NoMemory) b h k = absurd h

-- any steps that fit are whole
pub are_front : (steps : List Step) → Are steps → IsFront Are steps
are_front steps h = ([], subst Are (sym (append-nil steps)) h)

front_are : (steps : List Step) → IsFront Are steps → Are steps
front_are steps h = all_front FitsStep step_fields tell Are fit steps h.0 h.1

pub some_answer : (text : List ℕ) → (answer : Result (List Step) StepsFault) × IsAnswer text answer
some_answer text = go (has_answer FitsStep step_fields tell Are fit decided
    (λ before next front fits. inl (are_front (before ++ next ∷ []) (All-push FitsStep before next (front_are before front) fits)))
    (λ before front. inl (front_are before front)) text (are_front [] (All-nil FitsStep)))
  where
    go : HasAnswer FitsStep step_fields tell Are fit text → (answer : Result (List Step) StepsFault) × IsAnswer text answer
    go (inl h) = (Ok h.0, record { fits = h.1; spelled = h.2 })
    go (inr h) = (Err (Line h.0), h.1)

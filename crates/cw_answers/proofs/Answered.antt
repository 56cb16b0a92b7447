-- A text is that of one value of answers, or has one first line that doesn't fit, and not both.
use Rattle.std.proofs.Common.{◌≡◌, ℕ, ℤ, List, [], ◌∷◌, Result, Ok, Err, refl, sym, ap, ◌∙◌, inl, inr}
use Rattle.cw_certs.specs.declared.moves.Move.{Move}
use Rattle.cw_text_lines.specs.Lines.{whole_lines}
use Rattle.cw_text_lines.proofs.Fronts.{one_whole, one_other, not_both, HasAnswer, has_answer}
use Rattle.cw_value.specs.Shown.{Answers}
use Rattle.cw_answers.specs.declared.fault.AnswersFault.{AnswersFault}
use Rattle.cw_answers.specs.declared.fault.AnswersFault.TheVariants.{Line, NoMemory}
use Rattle.cw_answers.specs.AnswerLines.{AnswerLine, Head, Name, Try, Call, End, line_fields, FitsLine}
use Rattle.cw_answers.specs.AnswersText.{lines_of, Spells}
use Rattle.cw_answers.specs.Faults.{AreAnswers, IsRead}
use Rattle.cw_answers.proofs.Fields.{tell, are_decided}
use Rattle.cw_answers.proofs.Stages.{lines_fit, empty_front, goes, ends}

-- ---- the answers whose lines these are

abbrev with_line : AnswerLine → Answers → Answers
with_line Head a = a
with_line (Name n v) a = record { names = (n, v) ∷ a.names; tries = a.tries; calls = a.calls }
with_line (Try by) a = record { names = a.names; tries = by ∷ a.tries; calls = a.calls }
with_line (Call v) a = record { names = a.names; tries = a.tries; calls = v ∷ a.calls }
with_line End a = a

abbrev gathered : List AnswerLine → Answers
gathered [] = record { names = []; tries = []; calls = [] }
gathered (l ∷ ls) = with_line l (gathered ls)

back : (names : List (List ℕ × ℤ)) (tries : List Move) (calls : List ℤ) → gathered (lines_of (record { names = names; tries = tries; calls = calls })) ≡ record { names = names; tries = tries; calls = calls }
back [] [] [] = refl
back [] [] (c ∷ cs) = ap (with_line (Call c)) (back [] [] cs)
back [] (t ∷ ts) cs = ap (with_line (Try t)) (back [] ts cs)
back (n ∷ ns) ts cs = ap (with_line (Name n.0 n.1)) (back ns ts cs)

same_lines : (a b : Answers) → lines_of a ≡ lines_of b → a ≡ b
same_lines a b e = sym (back a.names a.tries a.calls) ∙ ap gathered e ∙ back b.names b.tries b.calls

whole : (text : List ℕ) (a : Answers) → Spells text a → AreAnswers (lines_of a)
whole text a h = (a, h.fits, refl)

pub one_answer : (text : List ℕ) (a b : Result Answers AnswersFault) → IsRead text a → IsRead text b → a ≡ b
one_answer text (Ok a) (Ok b) h k = ap Ok (same_lines a b (one_whole FitsLine line_fields tell AreAnswers lines_fit (lines_of a) (lines_of b) (whole text a h) (whole text b k) (sym h.spelled ∙ k.spelled)))
one_answer text (Ok a) (Err (Line n)) h k = absurd (not_both FitsLine line_fields tell AreAnswers lines_fit text (lines_of a) n (whole text a h) h.spelled k)
one_answer text (Err (Line n)) (Ok b) h k = absurd (not_both FitsLine line_fields tell AreAnswers lines_fit text (lines_of b) n (whole text b k) k.spelled h)
one_answer text (Err (Line m)) (Err (Line n)) h k = ap (λ (n : ℕ). Err (Line n)) (one_other FitsLine line_fields tell AreAnswers lines_fit text m n h k)
one_answer text a (Err NoMemory) h k = absurd k
one_answer text (Err NoMemory) b h k = absurd h

pub some_answer : (text : List ℕ) → (answer : Result Answers AnswersFault) × IsRead text answer
some_answer text = go (has_answer FitsLine line_fields tell AreAnswers lines_fit are_decided goes ends text empty_front)
  where
    go : HasAnswer FitsLine line_fields tell AreAnswers lines_fit text → (answer : Result Answers AnswersFault) × IsRead text answer
    go (inl (ls, (a, fits, is), e)) = (Ok a, record { fits = fits; spelled = e ∙ ap (whole_lines line_fields) is })
    go (inr h) = (Err (Line h.0), h.1)

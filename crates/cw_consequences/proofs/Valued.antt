-- For `values` one answer is due.
use Rattle.std.proofs.Common.{◌≡◌, ℕ, List, Some, None, Result, Ok, Err, sym, ap, ◌∙◌, subst, inl, inr}
use Rattle.std.proofs.lemmas.Option.{none-some, same_Some}
use Rattle.cw_rights.specs.Policies.{PlainPolicy}
use Rattle.cw_syntax.specs.Trees.{File}
use Rattle.cw_certs.specs.Tables.{Table}
use Rattle.cw_model.specs.Boards.{problem_of}
use Rattle.cw_game.specs.Games.{Game}
use Rattle.cw_game.specs.Standing.{IsGameOf}
use Rattle.cw_game.specs.Conditions.{TableFault}
use Rattle.cw_value.specs.Shown.{Answers, Values}
use Rattle.cw_agree.proofs.Once.{one_run}
use Rattle.cw_answers.specs.declared.fault.AnswersFault.{AnswersFault}
use Rattle.cw_answers.specs.declared.fault.AnswersFault.TheVariants.{Line}
use Rattle.cw_answers.proofs.Answered.{one_answer}
use Rattle.cw_commands.specs.declared.outcome.Reply.TheVariants.{No}
use Rattle.cw_commands.specs.Outcomes.{Due, Told}
use Rattle.cw_stages.specs.Tables.{told as table_told}
use Rattle.cw_stages.specs.Values.{answers_refusal, form_refusal}
use Rattle.cw_valuing.specs.Refusals.{IsFormRefusal, WhereFormed, WithAnswers}
use Rattle.cw_valuing.specs.Valuing.{values_told, AfterPolicy, AfterWoven, IsValuesDue, IsValuesShown, IsValuesTold}
use Rattle.cw_cli.proofs.Agreeing.{fits_once}
use Rattle.cw_policy.proofs.Kept.{is_valid}
use Rattle.cw_consequences.proofs.Answered.{one_with_woven}
use Rattle.cw_consequences.proofs.Singles.{IsOne, one_behind, one_where_woven_fits}

-- a text has one line that doesn't fit, or is that of one value of answers
module _ (Next : Answers → Due → Type 0) (one : (a : Answers) → IsOne (Next a)) (text : List ℕ) where
  one_answers : IsOne (WithAnswers Next text)
  one_answers due answer (inl (m, is, a)) (inl (n, other, b)) =
      let same : Err (Line m) ≡ Err (Line n) = one_answer text (Err (Line m)) (Err (Line n)) is other in
      let lines : m ≡ n = cc in
      a ∙ ap answers_refusal lines ∙ sym b
  one_answers due answer (inl (m, is, a)) (inr (given, spells, after)) = let never : Err (Line m) ≡ Ok given = one_answer text (Err (Line m)) (Ok given) is spells in absurd cc
  one_answers due answer (inr (given, spells, after)) (inl (m, is, b)) = let never : Ok given ≡ Err (Line m) = one_answer text (Ok given) (Err (Line m)) spells is in absurd cc
  one_answers due answer (inr (given, spells, after)) (inr (others, other, behind)) =
      let same : Ok others ≡ Ok given = one_answer text (Ok others) (Ok given) other spells in
      let answers : others ≡ given = cc in
      one given due answer after (subst (λ (a : Answers). Next a answer) answers behind)

module _ (source : List ℕ) (p : PlainPolicy) (file : File) where
  one_form : IsOne (IsFormRefusal source file)
  one_form due answer (at, is, a) (other, same, b) = a ∙ ap (form_refusal source) (same_Some at other (sym is ∙ same)) ∙ sym b

  module _ (Next : Game → Due → Type 0) (one : (g : Game) → IsGameOf (problem_of p source file) g → IsOne (Next g)) where
    one_where_formed : IsOne (WhereFormed Next source p file)
    one_where_formed due answer (inl a) (inl b) = one_where_woven_fits source p file Next one due answer (inl a) (inl b)
    one_where_formed due answer (inl (f, is, a)) (inr (fits, behind)) = absurd (fits_once source file p f fits is)
    one_where_formed due answer (inr (fits, after)) (inl (f, is, b)) = absurd (fits_once source file p f fits is)
    one_where_formed due answer (inr (fits, inl a)) (inr (fit, inl b)) = one_form due answer a b
    one_where_formed due answer (inr (fits, inl (at, is, a))) (inr (fit, inr (none, k, draws, behind))) = absurd (none-some at (sym none ∙ is))
    one_where_formed due answer (inr (fits, inr (none, g, drawn, after))) (inr (fit, inl (at, is, b))) = absurd (none-some at (sym none ∙ is))
    one_where_formed due answer (inr (fits, inr (none, g, drawn, after))) (inr (fit, inr (other, k, draws, behind))) =
        one_where_woven_fits source p file Next one due answer (inr (fits, g, drawn, after)) (inr (fit, k, draws, behind))

module _ (source : List ℕ) (p : PlainPolicy) (file : File) (t : Table) (given : Answers) where
  one_told : IsOne (IsValuesTold source p file t given)
  one_told due answer a b = a.due_is ∙ ap (values_told source) (one_run (Some t) p source file given a.values b.values a.run b.run) ∙ sym b.due_is

  one_shown : (g : Game) → IsOne (IsValuesShown source p file t given g)
  one_shown g due answer (inl (good, a)) (inl (other, b)) = one_told due answer a b
  one_shown g due answer (inl (good, a)) (inr (f, fails, b)) = absurd (none-some f (sym good ∙ fails))
  one_shown g due answer (inr (f, fails, a)) (inl (good, b)) = absurd (none-some f (sym good ∙ fails))
  one_shown g due answer (inr (f, fails, a)) (inr (k, other, b)) = a ∙ ap (λ (z : TableFault). Told No (table_told z)) (same_Some f k (sym fails ∙ other)) ∙ sym b

pub one_values : (policy text answers : List ℕ) → IsOne (IsValuesDue policy text answers)
one_values policy text answers =
    one_behind policy (AfterPolicy text answers)
    (λ p spells. one_with_woven p (is_valid policy p spells) text (λ source file t. AfterWoven answers source p file t)
    (λ source file t. one_answers (λ given. WhereFormed (IsValuesShown source p file t given) source p file)
    (λ given. one_where_formed source p file (IsValuesShown source p file t given) (λ g of. one_shown source p file t given g)) answers))

-- Answers of stages, for callers: what follows from them, and how one ends a command.
use Rattle.std.proofs.Common.{ℕ, List, Option, Result, Ok, Err, sym, subst, inl, inr}
use Rattle.std.specs.Prelude.{IfOk}
use Rattle.cw_lemmas.proofs.Options.{if_ok}
use Rattle.cw_rights.specs.Policies.{PlainPolicy}
use Rattle.cw_syntax.specs.Trees.{File}
use Rattle.cw_policy.specs.Answer.{Spells}
use Rattle.cw_commands.specs.declared.outcome.Outcome.{Outcome}
use Rattle.cw_commands.specs.Outcomes.{due_of, Due, Told}
use Rattle.cw_commands.specs.Starts.{Begins, Starts}
use Rattle.cw_commands.proofs.Starting.{unput}
use Rattle.cw_stages.specs.Reading.{AfterReading, WithSource}
use Rattle.cw_stages.specs.declared.numbers.Numbers.{Numbers}
use Rattle.cw_stages.specs.declared.stop.Stop.{Stop}
use Rattle.cw_stages.specs.declared.told.Count.{Count}
use Rattle.cw_stages.specs.declared.told.Text.{Text}
use Rattle.cw_stages.specs.declared.told.Verdict.{Verdict}
use Rattle.cw_stages.specs.Stops.{told_of, Answers, Counts, Decides, IsEnded, StartsText}

module _ (whole : PlainPolicy) (source : List ℕ) where
  pub weaker : {O : Type 0} (Is Wide : Due → Type 0) (r : Result (Text O) Stop) → ((due : Due) → Is due → Wide due) → Answers whole source Is r → Answers whole source Wide r
  weaker Is Wide (Ok text) h a = h (told_of text) a
  weaker Is Wide (Err stop) h a = λ due d. h due (a due d)

  pub wider : {O : Type 0} (Is Wide : Numbers → Due → Type 0) (IsRefusal IsWide : Due → Type 0) (r : Result (Verdict O) Stop) → ((numbers : Numbers) (due : Due) → Is numbers due → Wide numbers due)
      → ((due : Due) → IsRefusal due → IsWide due) → Decides whole source Is IsRefusal r → Decides whole source Wide IsWide r
  wider Is Wide IsRefusal IsWide (Ok verdict) h k a = h verdict.numbers (told_of verdict.text) a
  wider Is Wide IsRefusal IsWide (Err stop) h k a = λ due d. k due (a due d)

  pub wider_count : (Is Wide : Numbers → Due → Type 0) (IsRefusal IsWide : Due → Type 0) (r : Result Count Stop) → ((numbers : Numbers) (due : Due) → Is numbers due → Wide numbers due)
      → ((due : Due) → IsRefusal due → IsWide due) → Counts whole source Is IsRefusal r → Counts whole source Wide IsWide r
  wider_count Is Wide IsRefusal IsWide (Ok count) h k a = (a.0, h count.numbers (Told count.reply a.0) a.1)
  wider_count Is Wide IsRefusal IsWide (Err stop) h k a = λ due d. k due (a due d)

  pub ended_due : {O N E : Type 0} (Is : Due → Type 0) (r : Result (Text O) Stop) (result : Result (Outcome O N) E) → IsEnded whole source r result
      → Answers whole source Is r → IfOk result (λ o. Is (due_of o))
  ended_due Is (Ok text) (Ok o) e a = subst (λ o. Is (due_of o)) (sym e) a
  ended_due Is (Ok text) (Err f) e a = tt
  ended_due Is (Err stop) result e a = if_ok _ _ result e (λ o d. a (due_of o) d.0)

  module _ {O : Type 0} (taken : O → Option (List ℕ)) (faults refused : O → ℕ) where
    pub ended_puts : {N E : Type 0} (old new : O) (r : Result (Text O) Stop) (result : Result (Outcome O N) E) → IsEnded whole source r result
        → StartsText taken faults refused old new r → Starts taken faults refused old new result
    ended_puts old new (Ok text) (Ok o) e s = subst (λ o. Begins taken faults refused old new o) (sym e) s
    ended_puts old new (Ok text) (Err f) e s = absurd e
    ended_puts old new (Err stop) result e s = subst (λ (k : O). Starts taken faults refused old k result) (sym s) (unput taken faults refused old result (if_ok _ _ result e (λ o d. d.1)))

-- what is due for a source behind its policy is due for both
pub read_behind : (Next : PlainPolicy → File → Due → Type 0) (policy source : List ℕ) (whole : PlainPolicy) (due : Due) → Spells policy whole
    → WithSource (Next whole) source whole due → AfterReading Next policy source due
read_behind Next policy source whole due spells (inl unread) = inl (inr (whole, spells, unread))
read_behind Next policy source whole due spells (inr (file, reads, descriptors, next)) =
    inr (whole, file, record { spelled = spells; reads = reads; descriptors = descriptors }, next)

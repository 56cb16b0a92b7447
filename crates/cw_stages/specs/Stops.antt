-- Working definitions: what has been read, as the code holds it, and what the code answers: a text that is due, or why a command stops before it.
use Rattle.std.specs.Prelude.{◌≡◌, ◌≢◌, ℕ, List, Option, Result, Ok, Err}
use Rattle.std.specs.Prelude.{IfOk}
use Rattle.cw_io.specs.Written.{Follows}
use Rattle.cw_rights.specs.Policies.{PlainPolicy, policy_of}
use Rattle.cw_rights.specs.Valid.{IsValid}
use Rattle.cw_syntax.specs.Trees.{File, file_of}
use Rattle.cw_text.specs.declared.fault.TextFault.TheVariants as fault
use Rattle.cw_game.specs.Games.{Game}
use Rattle.cw_scope.specs.declared.descriptors.DescriptorFault.TheVariants as descriptor
use Rattle.cw_source.specs.declared.fault.SourceFault.TheVariants as source
use Rattle.cw_source.specs.Read.{ReadsAs}
use Rattle.cw_woven.specs.declared.fault.WovenFault.TheVariants as woven
use Rattle.cw_commands.specs.declared.outcome.Cause.TheVariants.{Policy, Source as OfSource}
use Rattle.cw_commands.specs.declared.outcome.Outcome.{Outcome}
use Rattle.cw_commands.specs.declared.outcome.Outcome.TheVariants.{Told as TellsData}
use Rattle.cw_commands.specs.Outcomes.{due_of, Due, Told, Refused}
use Rattle.cw_commands.specs.Starts.{IsRefused}
use Rattle.cw_stages.specs.declared.numbers.Numbers.{Numbers}
use Rattle.cw_stages.specs.declared.reading.Reading.{Reading}
use Rattle.cw_stages.specs.declared.stop.Stop.{Stop}
use Rattle.cw_stages.specs.declared.stop.Stop.TheVariants.{Source, Descriptors, Fit, Detached, Strategy, Woven, Tape, Audit, Steps, Answers as OfAnswers, Form, Over, NoMemory}
use Rattle.cw_stages.specs.declared.told.Count.{Count}
use Rattle.cw_stages.specs.declared.told.Text.{Text}
use Rattle.cw_stages.specs.declared.told.Verdict.{Verdict}
use Rattle.cw_stages.specs.Audits.{audit_refusal}
use Rattle.cw_stages.specs.Steps.{steps_refusal}
use Rattle.cw_stages.specs.Fitting.{fit_line}
use Rattle.cw_stages.specs.Refusals.{descriptor_line, over, policy_detached, source_refusal}
use Rattle.cw_stages.specs.Strategies.{strategy_refusal}
use Rattle.cw_stages.specs.Tables.{woven_refusal}
use Rattle.cw_stages.specs.Tapes.{tape_refusal}
use Rattle.cw_stages.specs.Values.{answers_refusal, form_refusal}

-- the policy of what has been read, its source and its program
abbrev pub whole_of : Reading → PlainPolicy
whole_of r = policy_of r.policy.now

abbrev pub source_of : Reading → List ℕ
source_of r = r.checked.source.now

abbrev pub file_in : Reading → File
file_in r = file_of r.checked.program

-- the policy is valid, and the source is read as the program
pub record IsReading (r : Reading) : Type 0 where
  pub valid : IsValid (whole_of r)
  pub reads : ReadsAs (source_of r) (file_in r)

-- The refusal by a stop, under a policy and for a source; of a woven text the source is what is left without its parts. By want of memory there is none.
abbrev pub Refuses : PlainPolicy → List ℕ → Stop → Due → Type 0
Refuses whole text (Source f) due = (f ≢ source.NoMemory) × (due ≡ source_refusal text f)
Refuses whole text (Descriptors f) due = (f ≢ descriptor.NoMemory) × (due ≡ Refused OfSource (descriptor_line text whole f))
Refuses whole text (Fit f) due = due ≡ Refused Policy (fit_line text whole f)
Refuses whole text Detached due = due ≡ policy_detached
Refuses whole text (Strategy f) due = (f ≢ fault.NoMemory) × (due ≡ strategy_refusal f)
Refuses whole text (Woven f) due = (f ≢ woven.NoMemory) × (due ≡ woven_refusal whole text f)
Refuses whole text (Tape line) due = due ≡ tape_refusal line
Refuses whole text (Audit line) due = due ≡ audit_refusal line
Refuses whole text (Steps line) due = due ≡ steps_refusal line
Refuses whole text (OfAnswers line) due = due ≡ answers_refusal line
Refuses whole text (Form at) due = due ≡ form_refusal text at
Refuses whole text (Over quantity) due = due ≡ over quantity
Refuses whole text NoMemory due = ⊥

-- the refusal by the stop is this one
abbrev pub IsStop : PlainPolicy → List ℕ → (Due → Type 0) → Stop → Type 0
IsStop whole text Is stop = (due : Due) → Refuses whole text stop due → Is due

-- what is due where a text is
abbrev pub told_of : {O : Type 0} → Text O → Due
told_of told = Told told.reply told.writer.text

-- the text is this one, or the refusal by the stop is
abbrev pub Answers : {O : Type 0} → PlainPolicy → List ℕ → (Due → Type 0) → Result (Text O) Stop → Type 0
Answers whole text Is (Ok told) = Is (told_of told)
Answers whole text Is (Err stop) = IsStop whole text Is stop

-- The same of a verdict with its numbers: the text is the one with these, and the refusal by the stop one with none.
abbrev pub Decides : {O : Type 0} → PlainPolicy → List ℕ → (Numbers → Due → Type 0) → (Due → Type 0) → Result (Verdict O) Stop → Type 0
Decides whole text Is IsRefusal (Ok verdict) = Is verdict.numbers (told_of verdict.text)
Decides whole text Is IsRefusal (Err stop) = IsStop whole text IsRefusal stop

-- And of a verdict whose text isn't put: some text is the one with these numbers.
abbrev pub Counts : PlainPolicy → List ℕ → (Numbers → Due → Type 0) → (Due → Type 0) → Result Count Stop → Type 0
Counts whole text Is IsRefusal (Ok count) = (written : List ℕ) × Is count.numbers (Told count.reply written)
Counts whole text Is IsRefusal (Err stop) = IsStop whole text IsRefusal stop

-- no verdict at all
abbrev pub Nothing : Game → Due → Type 0
Nothing g due = ⊥

-- the text began at the old sink, and the new one follows its writer; before a stop nothing was put
abbrev pub BeginsText : {O : Type 0} → (taken : O → Option (List ℕ)) → (faults refused : O → ℕ) → (old new : O) → Text O → Type 0
BeginsText taken faults refused old new told = (told.writer.begun ≡ old) × Follows taken faults refused told.writer new

abbrev pub StartsText : {O : Type 0} → (taken : O → Option (List ℕ)) → (faults refused : O → ℕ) → (old new : O) → Result (Text O) Stop → Type 0
StartsText taken faults refused old new (Ok told) = BeginsText taken faults refused old new told
StartsText taken faults refused old new (Err stop) = new ≡ old

abbrev pub StartsVerdict : {O : Type 0} → (taken : O → Option (List ℕ)) → (faults refused : O → ℕ) → (old new : O) → Result (Verdict O) Stop → Type 0
StartsVerdict taken faults refused old new (Ok verdict) = BeginsText taken faults refused old new verdict.text
StartsVerdict taken faults refused old new (Err stop) = new ≡ old

-- how an answer ends a command: its text, or the refusal by its stop
abbrev pub IsEnded : {O N E : Type 0} → PlainPolicy → List ℕ → Result (Text O) Stop → Result (Outcome O N) E → Type 0
IsEnded whole text (Ok told) (Ok outcome) = outcome ≡ TellsData told.reply told.writer
IsEnded whole text (Ok told) (Err e) = ⊥
IsEnded whole text (Err stop) result = IfOk result (λ outcome. Refuses whole text stop (due_of outcome) × IsRefused outcome)

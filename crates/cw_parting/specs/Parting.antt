-- What is due for `procs`, by the bytes of a policy and of a source.
use Rattle.std.specs.Prelude.{◌≡◌, ◌⊎◌, ℕ, List, None}
use Rattle.cw_rights.specs.Policies.{PlainPolicy}
use Rattle.cw_syntax.specs.Trees.{File}
use Rattle.cw_model.specs.Boards.{problem_of}
use Rattle.cw_scope.specs.Descriptors.{descriptor_fault}
use Rattle.cw_source.specs.Read.{ReadsAs}
use Rattle.cw_game.specs.Games.{Game}
use Rattle.cw_worlds.specs.Forks.{fork_places}
use Rattle.cw_worlds.specs.Worlds.{MeetsInAll}
use Rattle.cw_detach.specs.Form.{form_of}
use Rattle.cw_detach.specs.Faults.{IsFirstFault}
use Rattle.cw_commands.specs.declared.outcome.Reply.TheVariants.{Yes, No}
use Rattle.cw_commands.specs.Outcomes.{Due, Told, Refused}
use Rattle.cw_stages.specs.Reading.{AfterReading}
use Rattle.cw_stages.specs.Games.{WhereFits}
use Rattle.cw_stages.specs.Verdicts.{AfterGame, IsRefuted, IsWoven}
use Rattle.cw_parting.specs.Refusals.{IsFormRefusal}

-- The woven text of the form with status 0: it stands for the form and a table by which no process violates the policy, whatever the processes do and
-- however often they fork. Or the text of a strategy with status 1, which beats every weaver of the form.
abbrev pub IsParted : PlainPolicy → List ℕ → File → Game → Due → Type 0
IsParted whole form file g (Told Yes text) = (w : IsWoven whole form file g text) × MeetsInAll (problem_of whole form file) w.table (fork_places form file)
IsParted whole form file g (Told No text) = IsRefuted whole form file g text
IsParted whole form file g (Refused cause line) = ⊥

-- The form is read as a program that keeps the rules of the policy's descriptors, and goes through the stages of `weave`. That the policy detaches
-- functions is no matter any more.
abbrev pub OfForm : PlainPolicy → List ℕ → Due → Type 0
OfForm whole form due = (file : File) × ReadsAs form file × (descriptor_fault form file whole ≡ None) × WhereFits (AfterGame (IsParted whole form file)) form whole file due

-- That a source which was read has no form, or what is due for its form.
abbrev pub AfterForm : List ℕ → PlainPolicy → File → Due → Type 0
AfterForm source whole file due =
    IsFormRefusal source file whole due ⊎ (IsFirstFault source file whole None × OfForm whole (form_of source whole.detached file) due)

-- Policy and source are read first, as for `weave`.
abbrev pub IsProcsDue : (policy source : List ℕ) → Due → Type 0
IsProcsDue policy source = AfterReading (AfterForm source) policy source

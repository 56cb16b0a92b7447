-- What is due for the bytes of a command's files.
use Rattle.std.specs.Prelude.{ℕ, List}
use Rattle.cw_commands.specs.declared.outcome.Cause.{Cause}
use Rattle.cw_commands.specs.declared.outcome.Cause.TheVariants.{Source, Policy, Limit, Grammar}
use Rattle.cw_commands.specs.declared.outcome.Outcome.{Outcome}
use Rattle.cw_commands.specs.declared.outcome.Outcome.TheVariants.{Told as ToldData, Refused as RefusedData}
use Rattle.cw_commands.specs.declared.outcome.Reply.{Reply}
use Rattle.cw_commands.specs.declared.outcome.Reply.TheVariants.{Yes, No}

-- a text for the output, or a refusal with its line on the note
pub data Due : Type 0 where
  Told : (reply : Reply) → (text : List ℕ) → Due
  Refused : (cause : Cause) → (line : List ℕ) → Due

abbrev pub due_of : {O N : Type 0} → Outcome O N → Due
due_of (ToldData reply writer) = Told reply writer.text
due_of (RefusedData cause line) = Refused cause line.text

-- the status of a text that was put whole, and of a refusal
abbrev pub reply_status : Reply → ℕ
reply_status Yes = 0
reply_status No = 1

abbrev pub cause_status : Cause → ℕ
cause_status Source = 3
cause_status Policy = 4
cause_status Limit = 5
cause_status Grammar = 9

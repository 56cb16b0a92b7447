-- How what is due begins to be put: a text to the output, and the line of a refusal to the note.
use Rattle.std.specs.Prelude.{◌≡◌, ℕ, List, Option, Result, Ok, Err}
use Rattle.cw_io.specs.Written.{Follows}
use Rattle.cw_commands.specs.declared.ending.Ending.{Ending}
use Rattle.cw_commands.specs.declared.ending.Ending.TheVariants.{Refused as RefusedEnd}
use Rattle.cw_commands.specs.declared.outcome.Outcome.{Outcome}
use Rattle.cw_commands.specs.declared.outcome.Outcome.TheVariants.{Told, Refused}

-- the text began at the old sink, and the new one follows its writer; for a refusal nothing was put
abbrev pub Begins : {O N : Type 0} → (taken : O → Option (List ℕ)) → (faults refused : O → ℕ) → (old new : O) → Outcome O N → Type 0
Begins taken faults refused old new (Told reply writer) = (writer.begun ≡ old) × Follows taken faults refused writer new
Begins taken faults refused old new (Refused cause line) = new ≡ old

-- the same of a stage, which puts nothing where memory is wanted
abbrev pub Starts : {O N E : Type 0} → (taken : O → Option (List ℕ)) → (faults refused : O → ℕ) → (old new : O) → Result (Outcome O N) E → Type 0
Starts taken faults refused old new (Ok outcome) = Begins taken faults refused old new outcome
Starts taken faults refused old new (Err fault) = new ≡ old

-- the line of a refusal began at the old note, and the new one follows its writer; for a text nothing was noted
abbrev pub BeginsLine : {O N : Type 0} → (taken : N → Option (List ℕ)) → (faults refused : N → ℕ) → (old new : N) → Outcome O N → Type 0
BeginsLine taken faults refused old new (Told reply writer) = new ≡ old
BeginsLine taken faults refused old new (Refused cause line) = (line.begun ≡ old) × Follows taken faults refused line new

-- the same of a stage, which notes nothing where memory is wanted
abbrev pub StartsLine : {O N E : Type 0} → (taken : N → Option (List ℕ)) → (faults refused : N → ℕ) → (old new : N) → Result (Outcome O N) E → Type 0
StartsLine taken faults refused old new (Ok outcome) = BeginsLine taken faults refused old new outcome
StartsLine taken faults refused old new (Err fault) = new ≡ old

-- the same of an ending: the line of a refusal began at the old note; for another nothing was noted
abbrev pub EndsLine : {N : Type 0} → (taken : N → Option (List ℕ)) → (faults refused : N → ℕ) → (old new : N) → Ending N → Type 0
EndsLine taken faults refused old new (RefusedEnd cause line) = (line.begun ≡ old) × Follows taken faults refused line new
EndsLine taken faults refused old new ending = new ≡ old

-- the sink as it was when the text began; for a refusal as it is
abbrev pub begun_of : {O N : Type 0} → (out : O) → Outcome O N → O
begun_of out (Told reply writer) = writer.begun
begun_of out (Refused cause line) = out

-- the note as it was when the line of an ending began; where none did as it is
abbrev pub noted_from : {N : Type 0} → (note : N) → Ending N → N
noted_from note (RefusedEnd cause line) = line.begun
noted_from note ending = note

-- it is a refusal; it is a text
abbrev pub IsRefused : {O N : Type 0} → Outcome O N → Type 0
IsRefused (Told reply writer) = ⊥
IsRefused (Refused cause line) = Unit {0}

abbrev pub IsTold : {O N : Type 0} → Outcome O N → Type 0
IsTold (Told reply writer) = Unit {0}
IsTold (Refused cause line) = ⊥

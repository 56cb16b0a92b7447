-- A tape is read as a file of a command, and why one is refused.
use Rattle.std.specs.Prelude.{◌≡◌, ◌⊎◌, ℕ, List, ◌++◌, Bool, codes}
use Rattle.std.specs.Fmt.{decimal}
use Rattle.cw_certs.specs.declared.moves.Move.{Move}
use Rattle.cw_text.specs.declared.fault.TextFault.TheVariants as fault
use Rattle.cw_text.specs.Tapes.{IsFault, IsTape}
use Rattle.cw_commands.specs.declared.outcome.Cause.TheVariants.{Grammar}
use Rattle.cw_commands.specs.Outcomes.{Due, Refused}

-- the refusal by the first line of a tape that has another entry: a tape has no other fault
abbrev pub tape_refusal : (line : ℕ) → Due
tape_refusal line = Refused Grammar (codes "tape: line " ++ decimal line)

abbrev pub IsTapeRefusal : (play : Bool) → (text : List ℕ) → Due → Type 0
IsTapeRefusal play text due = (line : ℕ) × IsFault play text (fault.Line line) × (due ≡ tape_refusal line)

-- That the text is no tape, or what comes next for its moves.
abbrev pub WithTape : (List Move → Due → Type 0) → (play : Bool) → (text : List ℕ) → Due → Type 0
WithTape Next play text due = IsTapeRefusal play text due ⊎ ((moves : List Move) × IsTape play text moves × Next moves due)

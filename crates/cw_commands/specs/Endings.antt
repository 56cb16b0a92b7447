-- How a command ends: its status, and the one line on the note, with its line feed.
use Rattle.std.specs.Prelude.{◌≡◌, ℕ, List, [], ◌∷◌, ◌++◌, Option, Some, None, take, codes, Result}
use Rattle.cw_core.specs.Quantities.{name_of}
use Rattle.cw_io.specs.Causes.{Rose}
use Rattle.cw_io.specs.Pieces.{Grows, Puts}
use Rattle.cw_commands.specs.declared.name.Name.{Name}
use Rattle.cw_commands.specs.declared.ending.Ending.{Ending}
use Rattle.cw_commands.specs.declared.ending.Ending.TheVariants.{Put, Refused, TooLong, Unread, Unwritten, Memory}
use Rattle.cw_commands.specs.Commands.{usage_of}
use Rattle.cw_commands.specs.Outcomes.{cause_status, reply_status}

abbrev pub status_of : {N : Type 0} → Ending N → ℕ
status_of (Put reply) = reply_status reply
status_of (Refused cause arguments) = cause_status cause
status_of (TooLong quantity) = 5
status_of (Unread name) = 6
status_of Unwritten = 7
status_of Memory = 8

-- a line of some arguments and others behind them
abbrev pub line : List ℕ → List ℕ → List ℕ
line arguments rest = arguments ++ rest ++ (10 ∷ [])

-- the line of arguments that don't fit, by the command that the first one names
abbrev pub usage_line : Option Name → List ℕ
usage_line (Some name) = line (codes "usage: capweave ") (usage_of name)
usage_line None = line (codes "usage: capweave ") (codes "COMMAND ARGUMENTS")

-- the line of an ending; where a text was put there is none
abbrev pub line_of : {N : Type 0} → Ending N → Option (List ℕ)
line_of (Put reply) = None
line_of (Refused cause arguments) = Some (line arguments.text [])
line_of (TooLong quantity) = Some (line (codes "limit: ") (name_of quantity))
line_of (Unread name) = Some (line (codes "read: ") name.now)
line_of Unwritten = Some (line (codes "write") [])
line_of Memory = Some (line (codes "memory") [])

-- the put of a line, or of none
abbrev pub PutsLine : {E : Type 0} → Option (List ℕ) → Option (List ℕ) → Option (List ℕ) → Result (Unit {0}) E → Type 0
PutsLine old new None result = new ≡ old
PutsLine old new (Some line) result = Puts old new line result

-- a front of these bytes, maybe empty or all of them, was appended
abbrev pub GrowsByFront : Option (List ℕ) → Option (List ℕ) → List ℕ → Type 0
GrowsByFront old new bytes = (count : ℕ) × Grows old new (take count bytes)

-- the note got a front of the line, and where there is none it stayed as it was
abbrev pub IsNoted : Option (List ℕ) → Option (List ℕ) → Option (List ℕ) → Type 0
IsNoted old new None = new ≡ old
IsNoted old new (Some line) = GrowsByFront old new line

-- the note got the whole line, and where there is none it stayed as it was
abbrev pub GrowsByLine : Option (List ℕ) → Option (List ℕ) → Option (List ℕ) → Type 0
GrowsByLine old new None = new ≡ old
GrowsByLine old new (Some line) = Grows old new line

-- where neither count of the note rose, it got the whole line, by what it tells of its bytes, its faults and its refused memory
abbrev pub IsNotedWhole : {N : Type 0} → (taken : N → Option (List ℕ)) → (faults refused : N → ℕ) → (old new : N) → Option (List ℕ) → Type 0
IsNotedWhole taken faults refused old new line =
    (Rose (faults old) (faults new) → ⊥) → (Rose (refused old) (refused new) → ⊥) → GrowsByLine (taken old) (taken new) line

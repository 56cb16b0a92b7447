-- Tapes: the moves of one party as a text, fields with white space between.
use Rattle.std.specs.Prelude.{◌≡◌, ◌≢◌, ℕ, ◌+◌, ◌==◌, nat_le, List, ◌∷◌, ◌++◌, map, filter, length, Bool, true, false, not, ◌&&◌, ◌||◌, Contains, Result, Ok, Err}
use Rattle.std.specs.List.{All, slice_split, flat_map}
use Rattle.cw_certs.specs.declared.moves.Move.{Move}
use Rattle.cw_text.specs.Lines.{fields_by}
use Rattle.cw_text.specs.Moves.{move_name, IsWeavers, IsEnvironments}
use Rattle.cw_text.specs.declared.fault.TextFault.{TextFault}
use Rattle.cw_text.specs.declared.fault.TextFault.TheVariants as fault

-- space, TAB, LF, VT, FF, CR
abbrev pub is_white : ℕ → Bool
is_white b = b == 32 || (nat_le 9 b && nat_le b 13)

-- the lines of a text: what stands between its LFs
abbrev pub lines : List ℕ → List (List ℕ)
lines text = fields_by 10 text

-- the fields of a line: what stands between its white space and isn't empty
abbrev pub fields : List ℕ → List (List ℕ)
fields line = filter (λ field. not (length field == 0)) (slice_split is_white line)

-- the moves that a play's tape can have, and those that a run's can
abbrev pub IsIn : (play : Bool) → Move → Type 0
IsIn true by = IsWeavers by
IsIn false by = IsEnvironments by

-- these fields are the names of these moves
pub record AreNames (play : Bool) (names : List (List ℕ)) (moves : List Move) : Type 0 where
  pub may : All (IsIn play) moves
  pub named : names ≡ map move_name moves

-- The text is the tape of these moves: its fields, line after line, are their names.
abbrev pub IsTape : (play : Bool) (text : List ℕ) → List Move → Type 0
IsTape play text moves = AreNames play (flat_map fields (lines text)) moves

-- a field that names no move of such a tape
abbrev pub IsOther : (play : Bool) → List ℕ → Type 0
IsOther play field = (by : Move) → IsIn play by → move_name by ≢ field

-- The line with this number, from 1, is the first that has a field which names no move.
pub record IsFirstOther (play : Bool) (text : List ℕ) (number : ℕ) : Type 0 where
  pub before : List (List ℕ)
  pub line : List ℕ
  pub after : List (List ℕ)
  pub stands : lines text ≡ before ++ line ∷ after
  pub counted : number ≡ length before + 1
  pub moves : List Move
  pub earlier : AreNames play (flat_map fields before) moves
  pub field : List ℕ
  pub has : Contains (fields line) field
  pub other : IsOther play field

-- Why a text is no tape: a line, or want of memory. No other fault comes.
abbrev pub IsFault : (play : Bool) (text : List ℕ) → TextFault → Type 0
IsFault play text (fault.Line number) = IsFirstOther play text number
IsFault play text (fault.Order number) = ⊥
IsFault play text (fault.Limit number) = ⊥
IsFault play text fault.NoMemory = Unit {0}

-- what a text is: the tape of these moves, or one whose first line with another field has this number
abbrev pub IsAnswer : (play : Bool) (text : List ℕ) → Result (List Move) TextFault → Type 0
IsAnswer play text (Ok moves) = IsTape play text moves
IsAnswer play text (Err (fault.Line number)) = IsFirstOther play text number
IsAnswer play text (Err _) = ⊥

-- A text has one answer at most.
abbrev pub OneAnswer : Type 0
OneAnswer = (play : Bool) (text : List ℕ) (a b : Result (List Move) TextFault) → IsAnswer play text a → IsAnswer play text b → a ≡ b

-- Files by name, and what a read of one answers.
use Rattle.std.specs.Prelude.{◌≡◌, ℕ, ◌<◌, List, length, Option, Some, None, IsSomeAnd, Result, Ok, Err, nat_le, if◌then◌else◌}
use Rattle.cw_io.specs.declared.fault.ReadFault.{ReadFault}
use Rattle.cw_io.specs.declared.fault.ReadFault.TheVariants.{Failed, TooLong, NoMemory}
use Rattle.cw_io.specs.Causes.{raised}

-- the bytes of the file of each name, or `None` where no file of that name is held
abbrev pub FilesByName : Type 0
FilesByName = List ℕ → Option (List ℕ)

-- where the files are told: the bytes are those of the file, and one that is too long has more than `max`
abbrev pub IsAnswer : Option FilesByName → List ℕ → ℕ → Result (List ℕ) ReadFault → Type 0
IsAnswer None name max answer = Unit {0}
IsAnswer (Some files) name max (Ok bytes) = files name ≡ Some bytes
IsAnswer (Some files) name max (Err Failed) = Unit {0}
IsAnswer (Some files) name max (Err TooLong) = IsSomeAnd (files name) (λ bytes. max < length bytes)
IsAnswer (Some files) name max (Err NoMemory) = Unit {0}

-- the files are told, and none has this name
abbrev pub IsUnheld : Option FilesByName → List ℕ → Type 0
IsUnheld None name = ⊥
IsUnheld (Some files) name = files name ≡ None

-- the answer for a file of these bytes, or for none
abbrev pub answer_for : Option (List ℕ) → ℕ → Result (List ℕ) ReadFault
answer_for None max = Err Failed
answer_for (Some bytes) max = if nat_le (length bytes) max then Ok bytes else Err TooLong

-- the answer is the one that is due, or want of memory
abbrev pub IsDue : Result (List ℕ) ReadFault → Result (List ℕ) ReadFault → Type 0
IsDue due (Err NoMemory) = Unit {0}
IsDue due answer = answer ≡ due

-- a count of faults after a read: one more where it failed
abbrev pub count_after : ℕ → Result (List ℕ) ReadFault → ℕ
count_after count (Err Failed) = raised count
count_after count answer = count

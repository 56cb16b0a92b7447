-- The shelves in memory: what they mean, and what a read makes of them.
use Rattle.std.specs.Prelude.{ℕ, ◌-◌, List, [], ◌++◌, map, length, replicate, position, find, slice_index, slice_set, Option, Some, None, option_map, unwrap_or, bytes_eq, Result, Err, if◌then◌else◌}
use Rattle.std.specs.Global.{Vec}
use Rattle.cw_io.specs.Calls.{is_due}
use Rattle.cw_io.specs.Causes.{raised}
use Rattle.cw_io.specs.Files.{answer_for}
use Rattle.cw_io.specs.declared.fault.ReadFault.{ReadFault}
use Rattle.cw_io.specs.declared.fault.ReadFault.TheVariants.{Failed}

-- the name and the bytes of each file, as lists
abbrev pub listed : List (Vec ℕ × Vec ℕ) → List (List ℕ × List ℕ)
listed files = map (λ file. (file.0.items, file.1.items)) files

-- where the first file of a name stands
abbrev pub index_of : List (List ℕ × List ℕ) → List ℕ → Option ℕ
index_of files name = position (λ file. bytes_eq file.0 name) files

-- the bytes of the first file of a name
abbrev pub content_of : List (List ℕ × List ℕ) → List ℕ → Option (List ℕ)
content_of files name = option_map (λ file. file.1) (find (λ file. bytes_eq file.0 name) files)

-- where each name is held: one that wasn't given is an empty file
abbrev pub sure_content : List (List ℕ × List ℕ) → List ℕ → List ℕ
sure_content files name = unwrap_or (content_of files name) []

-- a shelf that fails where it is told to: its files, the numbers of the calls that are to fail, the number of
-- the next call, the count of faults of each file in order, and the count that all names share that aren't held
pub record MemShelfState : Type 0 where
  pub files : List (List ℕ × List ℕ)
  pub failing : List ℕ
  pub calls : ℕ
  pub faults : List ℕ
  pub unheld : ℕ

-- nothing read yet
abbrev pub new_mem_shelf : List (List ℕ × List ℕ) → List ℕ → MemShelfState
new_mem_shelf given numbers = record {
  files = given;
  failing = numbers;
  calls = 0;
  faults = replicate (length given) 0;
  unheld = 0;
}

-- the count of a file by its index, or of the names that aren't held
abbrev pub faults_at : MemShelfState → Option ℕ → ℕ
faults_at shelf None = shelf.unheld
faults_at shelf (Some index) = slice_index shelf.faults index

-- the count of a name
abbrev pub faults_of : MemShelfState → List ℕ → ℕ
faults_of shelf name = faults_at shelf (index_of shelf.files name)

-- the counts of the files after a read of the one at an index, by the answer
abbrev pub file_faults_after : List ℕ → Option ℕ → Result (List ℕ) ReadFault → List ℕ
file_faults_after counts (Some index) (Err Failed) = slice_set counts index (raised (slice_index counts index))
file_faults_after counts index answer = counts

-- the shared count after a read of a file or of none, by the answer
abbrev pub unheld_after : ℕ → Option ℕ → Result (List ℕ) ReadFault → ℕ
unheld_after count None (Err Failed) = raised count
unheld_after count index answer = count

-- the shelf after a read of a name, by the answer: where it failed, the one count of that name has risen
abbrev pub after_read : MemShelfState → List ℕ → Result (List ℕ) ReadFault → MemShelfState
after_read shelf name answer = record shelf {
  calls = raised shelf.calls;
  faults = file_faults_after shelf.faults (index_of shelf.files name) answer;
  unheld = unheld_after shelf.unheld (index_of shelf.files name) answer;
}

-- the answer that is due to a read of a name
abbrev pub answer_due : MemShelfState → List ℕ → ℕ → Result (List ℕ) ReadFault
answer_due shelf name max =
    if is_due shelf.failing shelf.calls then Err Failed else answer_for (content_of shelf.files name) max

-- counters of the first files, and 0 for the others
abbrev pub padded : ℕ → List ℕ → List ℕ
padded size counts = counts ++ replicate (size - length counts) 0

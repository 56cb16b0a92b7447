-- What a writer means, and how its sink follows the text.
use Rattle.std.specs.Prelude.{◌≡◌, ℕ, ◌<◌, List, ◌++◌, length, take, Option, Some, None, Result, Ok, Err}
use Rattle.cw_io.specs.Causes.{HasCause}
use Rattle.cw_io.specs.Pieces.{Grows}
use Rattle.cw_io.specs.declared.fault.SinkFault.{SinkFault}

-- a writer: the text that was to be put since it began, its sink as it was then, what waits to be put, and the fault that came
pub record Written (S : Type 0) : Type 0 where
  pub text : List ℕ
  pub begun : S
  pub waiting : List ℕ
  pub fault : Option SinkFault

-- no fault yet, or the one that came
abbrev pub answer_of : Option SinkFault → Result (Unit {0}) SinkFault
answer_of None = Ok tt
answer_of (Some fault) = Err fault

-- without a fault the sink took the text but for what waits; after one it took a front of the text
abbrev pub TookBut : Option (List ℕ) → Option (List ℕ) → List ℕ → List ℕ → Option SinkFault → Type 0
TookBut old new text waiting None = (said : List ℕ) × (text ≡ said ++ waiting) × Grows old new said
TookBut old new text waiting (Some fault) = (count : ℕ) × Grows old new (take count text)

-- a sink, by what it tells of its bytes and its two counts, follows the text of a writer; less than a piece waits,
-- no count fell, and the fault's count rose
pub record Follows {S : Type 0} (taken : S → Option (List ℕ)) (faults refused : S → ℕ) (writer : Written S) (out : S) : Type 0 where
  pub short : length writer.waiting < 1024
  pub took : TookBut (taken writer.begun) (taken out) writer.text writer.waiting writer.fault
  pub failed : HasCause SinkFault.Failed (faults writer.begun) (faults out) (answer_of writer.fault)
  pub no_memory : HasCause SinkFault.NoMemory (refused writer.begun) (refused out) (answer_of writer.fault)

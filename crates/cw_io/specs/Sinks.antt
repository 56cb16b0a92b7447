-- The sinks in memory: what they mean, and what a put makes of them.
use Rattle.std.specs.Prelude.{ℕ, ◌/◌, max, List, [], ◌++◌, length, take, Result, Ok, Err}
use Rattle.cw_io.specs.Causes.{raised}
use Rattle.cw_io.specs.declared.fault.SinkFault.{SinkFault}
use Rattle.cw_io.specs.declared.fault.SinkFault.TheVariants.{Failed, NoMemory}

-- a sink that never fails: the bytes taken, and how often memory was refused
pub record SureSinkState : Type 0 where
  pub bytes : List ℕ
  pub refused : ℕ

-- a sink that fails where it is told to: beside that the numbers of the calls that are to fail, the number of
-- the next call, the length of the longest piece that was put, and the count of faults
pub record MemSinkState : Type 0 where
  pub bytes : List ℕ
  pub failing : List ℕ
  pub calls : ℕ
  pub longest : ℕ
  pub faults : ℕ
  pub refused : ℕ

-- nothing taken yet
abbrev pub new_mem_sink : List ℕ → MemSinkState
new_mem_sink numbers = record { bytes = []; failing = numbers; calls = 0; longest = 0; faults = 0; refused = 0 }

-- what is taken of a piece, by the answer: the first half, rounded down, where the put was to fail
abbrev pub taken_of : List ℕ → Result (Unit {0}) SinkFault → List ℕ
taken_of piece (Ok u) = piece
taken_of piece (Err Failed) = take (length piece / 2) piece
taken_of piece (Err NoMemory) = []

-- a count of faults, and one of refused memory, after a put: one more where it answered so
abbrev pub faults_after : ℕ → Result (Unit {0}) SinkFault → ℕ
faults_after count (Ok u) = count
faults_after count (Err Failed) = raised count
faults_after count (Err NoMemory) = count

abbrev pub refused_after : ℕ → Result (Unit {0}) SinkFault → ℕ
refused_after count (Ok u) = count
refused_after count (Err Failed) = count
refused_after count (Err NoMemory) = raised count

-- the sink after a put of a piece, by the answer; the call and its piece are counted, whatever the answer
abbrev pub after_put : MemSinkState → List ℕ → Result (Unit {0}) SinkFault → MemSinkState
after_put sink piece answer = record sink {
  bytes = sink.bytes ++ taken_of piece answer;
  calls = raised sink.calls;
  longest = max sink.longest (length piece);
  faults = faults_after sink.faults answer;
  refused = refused_after sink.refused answer;
}

-- the same of a sink that never fails
abbrev pub after_sure_put : SureSinkState → List ℕ → Result (Unit {0}) SinkFault → SureSinkState
after_sure_put sink piece answer = record {
  bytes = sink.bytes ++ taken_of piece answer;
  refused = refused_after sink.refused answer;
}

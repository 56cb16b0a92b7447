-- The answer of a read, with its bytes as a list.
use Rattle.std.specs.Prelude.{ℕ, List, Result, Ok, Err}
use Rattle.std.specs.Global.{Vec}
use Rattle.cw_io.specs.declared.fault.ReadFault.{ReadFault}

abbrev pub answer_of : Result (Vec ℕ) ReadFault → Result (List ℕ) ReadFault
answer_of (Ok bytes) = Ok bytes.items
answer_of (Err fault) = Err fault

-- What a note got, from the put of its line.
use Rattle.std.proofs.Common.{ℕ, List, length, Option, Some, None, Result, Ok, Err, refl}
use Rattle.std.proofs.Math.Seq.{take-length}
use Rattle.cw_io.specs.Causes.{HasCause, Rose}
use Rattle.cw_io.specs.Pieces.{Puts}
use Rattle.cw_io.specs.declared.fault.SinkFault.{SinkFault}
use Rattle.cw_io.specs.declared.fault.SinkFault.TheVariants.{Failed, NoMemory}
use Rattle.cw_commands.specs.Endings.{GrowsByFront, GrowsByLine, PutsLine, IsNoted}

-- a put appended a front of its piece, whatever it answered
pub puts_front : {E : Type 0} (old new : Option (List ℕ)) (piece : List ℕ) (r : Result (Unit {0}) E) → Puts old new piece r → GrowsByFront old new piece
puts_front old new piece (Ok u) p = (length piece, rw (take-length piece) p)
puts_front old new piece (Err fault) p = p

pub noted : {E : Type 0} (old new : Option (List ℕ)) (line : Option (List ℕ)) (r : Result (Unit {0}) E) → PutsLine old new line r → IsNoted old new line
noted old new None r p = p
noted old new (Some line) r p = puts_front old new line r p

-- where neither count rose, no fault came
pub whole : (old new : Option (List ℕ)) (line : Option (List ℕ)) (r : Result (Unit {0}) SinkFault) (faults faults' refused refused' : ℕ) → PutsLine old new line r
    → HasCause Failed faults faults' r → HasCause NoMemory refused refused' r → (Rose faults faults' → ⊥) → (Rose refused refused' → ⊥) → GrowsByLine old new line
whole old new None r faults faults' refused refused' p f m nf nm = p
whole old new (Some line) (Ok u) faults faults' refused refused' p f m nf nm = p
whole old new (Some line) (Err Failed) faults faults' refused refused' p f m nf nm = absurd (nf (f.cause refl))
whole old new (Some line) (Err NoMemory) faults faults' refused refused' p f m nf nm = absurd (nm (m.cause refl))

-- Writes in a row, and a flush, as one put.
use Rattle.std.proofs.Common.{ℕ, ◌+◌, ◌-◌, List, length, take, drop, Option, Some, None, Result, Ok, Err}
use Rattle.std.proofs.Math.Seq.{take-add, take-length}
use Rattle.std.proofs.lemmas.List.{take_rest}
use Rattle.std.specs.Io.KnownBytes.{Keeps}
use Rattle.cw_io.specs.Pieces.{Grows, Puts}
use Rattle.cw_io.proofs.TwoPuts.{grows_both}

-- the front of a piece, and then some of the rest
pub grows_more : (old mid new : Option (List ℕ)) (piece : List ℕ) (done count : ℕ) → Grows old mid (take done piece) → Grows mid new (take count (take (length piece - done) (drop done piece))) → Grows old new (take (done + count) piece)
grows_more old mid new piece done count p q =
    let more = rw (take_rest piece done) at q in
    rw (take-add done count piece) (grows_both old mid new (take done piece) (take count (drop done piece)) p more)

-- bytes that stay as they were
pub grows_kept : (old mid new : Option (List ℕ)) (bytes : List ℕ) → Grows old mid bytes → Keeps mid new → Grows old new bytes
grows_kept None mid new bytes p q = tt
grows_kept (Some old) None new bytes p q = cc
grows_kept (Some old) (Some xs) None bytes p q = absurd q
grows_kept (Some old) (Some xs) (Some ys) bytes p q = rw q p

-- a piece that was taken whole, and then a flush
pub puts_flushed : {E : Type 0} (old mid new : Option (List ℕ)) (piece : List ℕ) (r : Result (Unit {0}) E) → Grows old mid piece → Keeps mid new → Puts old new piece r
puts_flushed old mid new piece (Ok u) p q = grows_kept old mid new piece p q
puts_flushed old mid new piece (Err fault) p q = (length piece, rw (take-length piece) (grows_kept old mid new piece p q))

-- How a sink follows the text when a piece comes, and what it has taken at the end.
use Rattle.std.proofs.Common.{◌≡◌, ℕ, ◌+◌, ◌-◌, ◌<◌, ◌≤◌, ◌&&◌, Bool, true, false, not, eqb, ltb, refl, length, length-append, take, drop, List, [], ◌++◌, Option, Some, None, Result, Ok, Err, sym, ap, ◌∙◌, append_assoc, arith}
use Rattle.std.specs.Option.{is_some}
use Rattle.std.specs.Result.{result_err}
use Rattle.std.proofs.Math.Seq.{take-add, drop-append_seam}
use Rattle.std.proofs.lemmas.List.{append-nil, take_rest}
use Rattle.cw_core.specs.Numerals.{hexadecimal}
use Rattle.cw_core.specs.Ranges.{ranges, set_spelling}
use Rattle.cw_core.specs.StateSet.{IsBelow}
use Rattle.cw_core.proofs.SetTexts.{mask_length, runs_length, spelled_by}
use Rattle.cw_io.specs.Causes.{HasCause}
use Rattle.cw_io.specs.Pieces.{Puts}
use Rattle.cw_io.specs.declared.fault.SinkFault.{SinkFault}
use Rattle.cw_io.proofs.Counts.{then_rose}
use Rattle.cw_io.proofs.TwoPuts.{grows_both, puts_both, puts_first}
use Rattle.cw_io.specs.Written.{TookBut, answer_of}

-- after a fault the text goes on and the sink doesn't
pub took_front : (old new : Option (List ℕ)) (text waiting piece : List ℕ) (fault : Option SinkFault) → is_some fault ≡ true
    → TookBut old new text waiting fault → TookBut old new (text ++ piece) waiting fault
took_front old new text waiting piece None came took = cc
took_front old new text waiting piece (Some fault) came took = puts_first old new text piece fault fault took

-- a piece that there was room for, and the put of all that waits
pub took_waiting : (old mid new : Option (List ℕ)) (text waiting piece : List ℕ) (fault : Option SinkFault) (answer : Result (Unit {0}) SinkFault)
    → is_some fault ≡ false → TookBut old mid text waiting fault → Puts mid new (waiting ++ piece) answer → TookBut old new (text ++ piece) [] (result_err answer)
took_waiting old mid new text waiting piece (Some fault) answer none took put = cc
took_waiting old mid new text waiting piece None (Ok u) none (said, whole, grows) put = (
  said ++ (waiting ++ piece),
  ap (λ (z : List ℕ). z ++ piece) whole ∙ append_assoc said waiting piece ∙ sym (append-nil (said ++ (waiting ++ piece))),
  grows_both old mid new said (waiting ++ piece) grows put,
)
took_waiting old mid new text waiting piece None (Err fault) none (said, whole, grows) put =
    let all : text ++ piece ≡ said ++ (waiting ++ piece) = ap (λ (z : List ℕ). z ++ piece) whole ∙ append_assoc said waiting piece in
    rw all (puts_both old mid new said (waiting ++ piece) (Err fault) grows put)

-- a piece that there was room for, and no put
pub took_on : (old new : Option (List ℕ)) (text waiting piece : List ℕ) (fault : Option SinkFault) → is_some fault ≡ false
    → TookBut old new text waiting fault → TookBut old new (text ++ piece) (waiting ++ piece) fault
took_on old new text waiting piece None none (said, whole, grows) = (said, ap (λ (z : List ℕ). z ++ piece) whole ∙ append_assoc said waiting piece, grows)
took_on old new text waiting piece (Some fault) none took = cc

-- what stands behind what waited
pub last_piece : (waiting piece now all front : List ℕ) → now ≡ waiting ++ piece → all ≡ now → front ≡ waiting → take (length all - length front) (drop (length front) all) ≡ piece
last_piece waiting piece now all front e f g = rw (g, f, e) (take_rest (waiting ++ piece) (length waiting) ∙ drop-append_seam waiting piece)

-- a spelling for which there is more room than any needs
pub short_with : (waiting spelling : List ℕ) (most : ℕ) → length spelling ≤ most → length waiting + most < 1024 → length (waiting ++ spelling) < 1024
short_with waiting spelling most short more = let q = length-append waiting spelling in omega (arith, short, q, more)

-- the spelling of a set in format 2 is no longer than its hexadecimal may be
pub spelling_length : (set : ℕ) → IsBelow 1024 set → length (set_spelling set) ≤ 258
spelling_length set below = by_test (not (eqb set 0) && ltb (length (ranges set)) (length (hexadecimal set))) refl
  where
    by_test : (t : Bool) → t ≡ (not (eqb set 0) && ltb (length (ranges set)) (length (hexadecimal set))) → length (set_spelling set) ≤ 258
    by_test true is =
        let less = runs_length (not (eqb set 0)) (length (ranges set)) (length (hexadecimal set)) is in
        let mask = mask_length set below in
        rw (spelled_by set true (ranges set) (hexadecimal set) refl refl is) (omega (arith, less, mask))
    by_test false is = rw (spelled_by set false (ranges set) (hexadecimal set) refl refl is) (mask_length set below)

-- at the end: what the sink took, and the put of all that waits
pub took_last : (old mid new : Option (List ℕ)) (text waiting : List ℕ) (answer : Result (Unit {0}) SinkFault)
    → TookBut old mid text waiting None → Puts mid new waiting answer → Puts old new text answer
took_last old mid new text waiting answer (said, whole, grows) put = rw whole (puts_both old mid new said waiting answer grows put)

-- a count that didn't fall before a put, and the put: its fault stays
pub cause_kept : (fault : SinkFault) (before mid now : ℕ) (answer : Result (Unit {0}) SinkFault) → before ≤ mid → HasCause fault mid now answer
    → HasCause fault before now (answer_of (result_err answer))
cause_kept fault before mid now (Ok u) up put = record { later = omega (arith, up, put.later); cause = λ e. absurd (cc e) }
cause_kept fault before mid now (Err other) up put = record { later = omega (arith, up, put.later); cause = λ e. then_rose before mid now up (put.cause e) }

-- the text has gone on with the front of a piece, and goes on with some of the rest
pub text_on : (text now piece : List ℕ) (at to : ℕ) → at ≤ to → now ≡ text ++ take at piece → now ++ take (to - at) (drop at piece) ≡ text ++ take to piece
text_on text now piece at to up so_far =
    let sum : to ≡ at + (to - at) = omega (arith, up) in
    let front : take to piece ≡ take at piece ++ take (to - at) (drop at piece) = ap (λ (n : ℕ). take n piece) sum ∙ take-add at (to - at) piece in
    ap (λ (z : List ℕ). z ++ take (to - at) (drop at piece)) so_far ∙ append_assoc text (take at piece) (take (to - at) (drop at piece)) ∙ ap (λ (z : List ℕ). text ++ z) (sym front)

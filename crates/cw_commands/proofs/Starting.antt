-- How what is due begins to be put, for callers: a refusal puts nothing to the output, a text nothing to the note, and what is delivered began where it says.
use Rattle.std.proofs.Common.{◌≡◌, ◌⊎◌, ⊎_elim, ℕ, List, Option, Result, Ok, Err, refl}
use Rattle.std.specs.Prelude.{IfOk}
use Rattle.cw_core.specs.declared.quantity.Quantity.{Quantity}
use Rattle.cw_io.specs.Files.{FilesByName}
use Rattle.cw_commands.specs.declared.ending.Ending.{Ending}
use Rattle.cw_commands.specs.declared.ending.Ending.TheVariants.{Put, Refused as RefusedEnd, TooLong, Unread, Unwritten, Memory}
use Rattle.cw_commands.specs.declared.outcome.Outcome.{Outcome}
use Rattle.cw_commands.specs.declared.outcome.Outcome.TheVariants.{Told, Refused}
use Rattle.cw_commands.specs.Files.{IsUnread}
use Rattle.cw_commands.specs.Starts.{begun_of, noted_from, Begins, EndsLine, IsRefused, Starts}

module _ {O : Type 0} (taken : O → Option (List ℕ)) (faults refused : O → ℕ) where
  pub unput_one : {N : Type 0} (sink : O) (outcome : Outcome O N) → IsRefused outcome → Begins taken faults refused sink sink outcome
  unput_one sink (Told reply writer) h = absurd h
  unput_one sink (Refused cause line) h = refl

  pub unput : {N E : Type 0} (sink : O) (result : Result (Outcome O N) E) → IfOk result IsRefused → Starts taken faults refused sink sink result
  unput sink (Ok outcome) h = unput_one sink outcome h
  unput sink (Err fault) h = refl

  pub begun_is : {N : Type 0} (old new : O) (outcome : Outcome O N) → Begins taken faults refused old new outcome → begun_of new outcome ≡ old
  begun_is old new (Told reply writer) h = h.0
  begun_is old new (Refused cause line) h = h

module _ {N : Type 0} (taken : N → Option (List ℕ)) (faults refused : N → ℕ) where
  pub noted_is : (old new : N) (ending : Ending N) → EndsLine taken faults refused old new ending → noted_from new ending ≡ old
  noted_is old new (RefusedEnd cause line) h = h.0
  noted_is old new (Put reply) h = h
  noted_is old new (TooLong quantity) h = h
  noted_is old new (Unread name) h = h
  noted_is old new Unwritten h = h
  noted_is old new Memory h = h

  pub ends_line : (old new : N) (ending : Ending N) → EndsLine taken faults refused old new ending → EndsLine taken faults refused (noted_from new ending) new ending
  ends_line old new (RefusedEnd cause line) h = (refl, h.1)
  ends_line old new (Put reply) h = refl
  ends_line old new (TooLong quantity) h = refl
  ends_line old new (Unread name) h = refl
  ends_line old new Unwritten h = refl
  ends_line old new Memory h = refl

  -- a file that wasn't read leaves no line
  pub unread_line : (files : Option FilesByName) (counts counts' : List ℕ → ℕ) (quantities : List Quantity) (names : List (List ℕ)) (note : N) (ending : Ending N)
      → (ending ≡ Memory) ⊎ IsUnread files counts counts' quantities names ending → EndsLine taken faults refused note note ending
  unread_line files counts counts' quantities names note (RefusedEnd cause line) h = absurd (⊎_elim (λ e. other e) (λ u. u.fault) h)
    where
      other : (RefusedEnd cause line ≡ Memory) → ⊥
      other e = cc
  unread_line files counts counts' quantities names note (Put reply) h = refl
  unread_line files counts counts' quantities names note (TooLong quantity) h = refl
  unread_line files counts counts' quantities names note (Unread name) h = refl
  unread_line files counts counts' quantities names note Unwritten h = refl
  unread_line files counts counts' quantities names note Memory h = refl

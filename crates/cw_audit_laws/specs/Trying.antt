-- What an audit tells of the primitives that a woven program tries.
use Rattle.std.specs.Prelude.{◌≡◌, ◌↔◌, ℕ, ◌≤◌, List, [], length, None}
use Rattle.cw_certs.specs.Tables.{Table}
use Rattle.cw_certs.specs.declared.moves.Move.{Move}
use Rattle.cw_certs.specs.declared.moves.Move.TheVariants.{Try}
use Rattle.cw_model.specs.Boards.{Problem, Forced, start_board}
use Rattle.cw_model.specs.Runs.{State, WovenRun, WovenStep, reached, Sound, Lazy}
use Rattle.cw_audit_table.specs.Plays.{IsVerdict, IsViolating}

-- No woven run, of any length, tries a primitive.
abbrev pub NeverTries : Problem → Table → Type 0
NeverTries p t = (run : List State) (next : State) → WovenRun p t run → WovenStep p t (reached p t run) Try next → ⊥

-- A program meets its policy as it is exactly where none of its woven runs tries anything, with a table that is sound and lazy.
abbrev pub MeetsWhereNothingIsTried : Type 0
MeetsWhereNothingIsTried = (p : Problem) (t : Table) → Sound p t → Lazy p t → IsVerdict p None ↔ NeverTries p t

-- Without a row of tries nothing is tried. A lazy table may have rows that no run comes to: its rows are by function and promise, and not by call.
abbrev pub NoRowsTryNothing : Type 0
NoRowsTryNothing = (p : Problem) (t : Table) → t.tries ≡ [] → NeverTries p t

-- Where a violation can be forced from the start, a play in which the weaver always skips comes to one by no more moves.
abbrev pub ForcedIsViolated : Type 0
ForcedIsViolated = (p : Problem) (n : ℕ) → Forced p n (start_board p) → (ms : List Move) × IsViolating p ms × (length ms ≤ n)

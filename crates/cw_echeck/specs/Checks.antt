-- Working definitions: what the check in code asks of a row, as the conditions have it.
use Rattle.std.specs.Prelude.{ℕ, ◌<◌, List, [], Bool, false, ◌&&◌, ◌||◌, not, cond, Option, Some, None, map, nat_eq, slice_get, All}
use Rattle.cw_core.specs.declared.ids.StateId.{StateId}
use Rattle.cw_certs.specs.declared.moves.Move.{Move}
use Rattle.cw_certs.specs.declared.moves.Move.TheVariants.{Skip, Try}
use Rattle.cw_certs.specs.Strategies.{Strategy, Row}
use Rattle.cw_game.specs.Games.{Game, returned, leads_in, bad_in, weavers_in}
use Rattle.cw_game.specs.Pairs.{has, call_in, is_call_in, is_exit_in, kept_at}
use Rattle.cw_game.specs.Conditions.{RowFault, fault_in, is_exit, is_row_at, stands_after, enters, are_backs}
use Rattle.cw_echeck.specs.declared.check.BadEnvRow.{BadEnvRow}

-- the backs of the program's data
abbrev pub backs_of : List (StateId × ℕ) → List (ℕ × ℕ)
backs_of backs = map (λ b. (b.0.0, b.1)) backs

-- whether a back of the data is for this exit state
abbrev pub is_for : ℕ → StateId × ℕ → Bool
is_for exit b = nat_eq b.0.0 exit

abbrev pub AreExits : ℕ → List (StateId × ℕ) → Type 0
AreExits count backs = All (λ b. b.0.0 < count) backs

-- there is a pair, at which the row stands with this aim: `stands_after` of the numbers of a pair
abbrev pub stands_by : Strategy → ℕ → ℕ → Option (ℕ × ℕ) → Bool
stands_by s row e None = false
stands_by s row e (Some pair) = is_row_at pair.0 pair.1 e (slice_get s.rows row)

-- this condition fails where the test does
abbrev pub unless : ℕ → Bool → Option ℕ
unless condition holds = cond holds None (Some condition)

-- what conditions 3, 4 and 5 ask of a row that ends, that is the weaver's, and that goes on
abbrev pub ends_in : Game → Row → Bool
ends_in g r = is_exit g (slice_get g.spots r.pos) && has r.aim r.state

abbrev pub weaves_in : Game → Strategy → Row → ℕ → ℕ → Bool
weaves_in g s r skip tried =
    let spot = slice_get g.spots r.pos in
    weavers_in spot &&
    (stands_after s skip r.aim (leads_in g r.pos r.state [] spot Skip) && stands_after s tried r.aim (leads_in g r.pos r.state [] spot Try))

abbrev pub goes_in : Game → Strategy → Row → Move → ℕ → Bool
goes_in g s r by row =
    let spot = slice_get g.spots r.pos in
    not (weavers_in spot || (is_call_in spot || (is_exit_in spot || bad_in g r.state spot))) && stands_after s row r.aim
    (leads_in g r.pos r.state [] spot by)

-- the row of a back stands at the position after a call, with the state after the return and with the caller's aim
abbrev pub returns_by : Game → Strategy → Row → ℕ → Bool → ℕ → ℕ × ℕ → Bool
returns_by g s r aim split back b = has aim b.0 && is_row_at back (returned g.states (kept_at split r.state) b.0) r.aim (slice_get s.rows b.1)

-- what fails of a row that calls a function, of conditions 6 and 7
abbrev pub calls_in : Game → Strategy → Row → ℕ → List (ℕ × ℕ) → Option ℕ
calls_in g s r callee backs =
    let call = call_in (slice_get g.spots r.pos) in
    let row = slice_get s.rows callee in
    cond (enters g r.state call row) (unless 7 (are_backs g s r.state r.aim backs call row)) (Some 6)

-- what a value of the program tells
abbrev pub fault_of : BadEnvRow → RowFault
fault_of bad = fault_in bad.row bad.condition

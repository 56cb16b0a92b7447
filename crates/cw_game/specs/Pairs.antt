-- Pairs of a position and a state as the rows of a table and of a strategy speak of them.
use Rattle.std.specs.Prelude.{◌≡◌, ℕ, ◌-◌, ◌^◌, Bool, true, false, ◌&&◌, Option, Some, None, is_some, find, nat_eq, slice_get}
use Rattle.std.specs.Int.{bit_at}
use Rattle.cw_core.specs.declared.ids.MemId.{MemId}
use Rattle.cw_core.specs.declared.ids.StateId.{StateId}
use Rattle.cw_certs.specs.Tables.{Table}
use Rattle.cw_certs.specs.Strategies.{How, Strategy}
use Rattle.cw_game.specs.declared.spots.Spot.{Spot}
use Rattle.cw_game.specs.declared.spots.Spot.TheVariants.{Call, SplitCall, Exit}
use Rattle.cw_game.specs.Games.{Game}

-- the state is a member of the set
abbrev pub has : ℕ → ℕ → Bool
has set q = nat_eq (bit_at set q) 1

-- the set of all states, which is what `main` is promised
abbrev pub all_states : Game → ℕ
all_states g = 2 ^ g.states.count - 1

abbrev pub is_live : Table → ℕ → ℕ → Bool
is_live t p m = is_some (find (λ r. nat_eq r.0.0 p && nat_eq r.1.0 m) t.live)

-- the memory is there and means this state with this promise
abbrev pub means_it : Option (StateId × ℕ) → ℕ → ℕ → Bool
means_it None q e = false
means_it (Some r) q e = nat_eq r.0.0 q && nat_eq r.1 e

-- and is live at this position
abbrev pub leads : Table → ℕ → ℕ → ℕ → ℕ → Bool
leads t p m q e = means_it (slice_get t.mems m) q e && is_live t p m

abbrev pub leads_if : Table → ℕ → Option MemId → ℕ → ℕ → Bool
leads_if t p None q e = false
leads_if t p (Some m) q e = leads t p m.0 q e

-- A call: its seam, the function that it calls, the position to which it returns, and whether it is split.
pub record Called : Type 0 where
  pub seam : ℕ
  pub function : ℕ
  pub back : ℕ
  pub split : Bool

abbrev pub call_in : Option Spot → Option Called
call_in (Some (Call j f n)) = Some (record { seam = j; function = f; back = n; split = false })
call_in (Some (SplitCall j f n)) = Some (record { seam = j; function = f; back = n; split = true })
call_in _ = None

abbrev pub is_call_in : Option Spot → Bool
is_call_in (Some (Call j f n)) = true
is_call_in (Some (SplitCall j f n)) = true
is_call_in _ = false

abbrev pub is_exit_in : Option Spot → Bool
is_exit_in (Some (Exit f)) = true
is_exit_in _ = false

-- the spot of a call in a mode, and the state that it keeps for its return
abbrev pub call_spot : Bool → ℕ → ℕ → ℕ → Spot
call_spot true j f n = SplitCall j f n
call_spot false j f n = Call j f n

abbrev pub kept_at : Bool → ℕ → Option ℕ
kept_at true q = Some q
kept_at false q = None

-- a row of a strategy stands at this position with this state and aim
abbrev pub IsAt : Strategy → ℕ → ℕ → ℕ → ℕ → Type 0
IsAt s row p q aim = (how : How) × (slice_get s.rows row ≡ Some (record { pos = p; state = q; aim = aim; how = how }))

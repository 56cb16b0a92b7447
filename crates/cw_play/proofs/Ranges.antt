-- The rows of a good strategy have their numbers in range.
use Rattle.std.proofs.Common.{◌≡◌, ℕ, ◌+◌, ◌<◌, length, Some, None}
use Rattle.std.specs.Prelude.{slice_get}
use Rattle.std.proofs.lemmas.Bool.{ltb-true}
use Rattle.cw_certs.specs.Strategies.{Row, Strategy}
use Rattle.cw_game.specs.Games.{Game}
use Rattle.cw_game.specs.Conditions.{first_failing, is_position, is_state, is_row, row_conditions, IsGoodStrategy}
use Rattle.std.proofs.lemmas.Bool.{and_parts}
use Rattle.cw_game.proofs.Goods.{taken, rows_hold, parts}
use Rattle.cw_play.proofs.Held.{IsInRange}

module _ (g : Game) (s : Strategy) where
  abbrev InRange : Row → Type 0
  InRange r = (r.pos < length g.spots) × (r.state < g.states.count)

  row_in : (i : ℕ) (r : Row) → first_failing (row_conditions g s i r (slice_get g.spots r.pos)) ≡ None → InRange r
  row_in i r h =
      let k = taken (is_row g i r) _ 1 h in
      let a = and_parts (is_position g r.pos) _ k.0 in
      let b = and_parts (is_state g r.state) _ a.1 in
      (ltb-true r.pos (length g.spots) a.0, ltb-true r.state g.states.count b.0)

  pub in_range : IsGoodStrategy g s → IsInRange g s
  in_range h =
      let rows : (i : ℕ) (r : Row) → slice_get s.rows i ≡ Some r → InRange r = λ i r e. row_in (0 + i) r (rows_hold g s 0 s.rows (parts g s h).0 i r e) in
      record { pos = λ i r e. (rows i r e).0; state = λ i r e. (rows i r e).1 }

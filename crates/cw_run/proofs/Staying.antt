-- Where a step and a condition lead, by what stands at the position.
use Rattle.std.proofs.Common.{◌≡◌, ℕ, [], Option, Some, refl, sym, ap, ◌∙◌}
use Rattle.std.specs.Prelude.{slice_get, option_map, option_and_then}
use Rattle.cw_certs.specs.declared.moves.Move.{Move}
use Rattle.cw_certs.specs.declared.moves.Move.TheVariants.{Skip, Try, Grant, Refuse, On, Left, Right, Opened, Failed, Stop}
use Rattle.cw_certs.specs.Tables.{Table}
use Rattle.cw_game.specs.declared.spots.Spot.{Spot}
use Rattle.cw_game.specs.declared.spots.Spot.TheVariants.{Step, Branch}
use Rattle.cw_game.specs.Games.{Game}
use Rattle.cw_product.specs.Moves.{next_in}
use Rattle.cw_run.specs.Walks.{Here, Next, To, mem_after, next_of, landing, branched_to, stepped_to, to_if}

module _ (g : Game) (t : Table) (h : Here) where
  -- where a move leads where this stands
  abbrev next_with : Spot → Move → Option Spot → Option Next
  next_with s by o = option_map To (option_and_then (λ pair. option_map (landing pair) (mem_after t h.mem s by)) (next_in g h.pos h.state o by))

  step_moves : (n : ℕ) (by : Move) → next_with (Step n) by (Some (Step n)) ≡ to_if (stepped_to n h by)
  step_moves n Skip = refl
  step_moves n Try = refl
  step_moves n Grant = refl
  step_moves n Refuse = refl
  step_moves n On = refl
  step_moves n Left = refl
  step_moves n Right = refl
  step_moves n Opened = refl
  step_moves n Failed = refl
  step_moves n Stop = refl

  branch_moves : (l r : ℕ) (by : Move) → next_with (Branch l r) by (Some (Branch l r)) ≡ to_if (branched_to l r h by)
  branch_moves l r Skip = refl
  branch_moves l r Try = refl
  branch_moves l r Grant = refl
  branch_moves l r Refuse = refl
  branch_moves l r On = refl
  branch_moves l r Left = refl
  branch_moves l r Right = refl
  branch_moves l r Opened = refl
  branch_moves l r Failed = refl
  branch_moves l r Stop = refl

  pub step_is : (n : ℕ) (by : Move) → Some (Step n) ≡ slice_get g.spots h.pos → to_if (stepped_to n h by) ≡ next_of g t h [] (Step n) by
  step_is n by e = sym (step_moves n by) ∙ ap (next_with (Step n) by) e

  pub branch_is : (l r : ℕ) (by : Move) → Some (Branch l r) ≡ slice_get g.spots h.pos → to_if (branched_to l r h by) ≡ next_of g t h [] (Branch l r) by
  branch_is l r by e = sym (branch_moves l r by) ∙ ap (next_with (Branch l r) by) e

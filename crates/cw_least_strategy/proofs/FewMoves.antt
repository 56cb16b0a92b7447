-- Only the moves that there are where something stands lead anywhere.
use Rattle.std.proofs.Common.{◌≡◌, ℕ, List, [], ◌∷◌, Bool, true, false, cond, Option, Some, None, filter, refl, ap, ◌∙◌}
use Rattle.std.specs.Prelude.{slice_get, option_map}
use Rattle.std.specs.List.{cons_option}
use Rattle.cw_certs.specs.declared.moves.Move.{Move}
use Rattle.cw_game.specs.declared.spots.Spot.{Spot}
use Rattle.cw_game.specs.declared.spots.Spot.TheVariants.{Visit, Asked, Branch, Open}
use Rattle.cw_game.specs.Games.{Game}
use Rattle.cw_product.specs.Moves.{next_in}
use Rattle.cw_product.specs.MovesAt.{first_move, second_move}
use Rattle.cw_product.proofs.There.{is_move, no_move}
use Rattle.cw_least_strategy.specs.declared.key.Key.{Key}
use Rattle.cw_least_strategy.specs.declared.key.Way.{Way}
use Rattle.cw_least_strategy.specs.Strategies.{below, moves, way, sooner, best}

those_are : (s : Option Spot) → filter (is_move s) moves ≡ first_move s ∷ cons_option (second_move s) []
those_are (Some (Visit j i a)) = refl
those_are (Some (Asked j i a)) = refl
those_are (Some (Branch m n)) = refl
those_are (Some (Open j d n)) = refl
those_are s = refl

module _ (g : Game) (k : Key) where
  no_way : (s : Option Spot) → slice_get g.spots k.pos ≡ s → (by : Move) → is_move s by ≡ false → way g k by ≡ None
  no_way s es by out =
      let led = ap (λ (o : Option Spot). next_in g k.pos k.state o by) es ∙ no_move g k.pos k.state s by out in
      ap (option_map (λ (r : ℕ × ℕ). let w : Way = record { by = by; to = below g k r.0 r.1 k.aim } in w)) led

  thinner : (s : Option Spot) → slice_get g.spots k.pos ≡ s → (list : List Move) → best g k list ≡ best g k (filter (is_move s) list)
  thinner s es [] = refl
  thinner s es (by ∷ later) = by_test (is_move s by) refl (thinner s es later)
    where
      by_test : (b : Bool) → is_move s by ≡ b → best g k later ≡ best g k (filter (is_move s) later)
          → best g k (by ∷ later) ≡ best g k (cond b (by ∷ filter (is_move s) later) (filter (is_move s) later))
      by_test true there rest = ap (sooner (way g k by)) rest
      by_test false out rest = ap (λ (o : Option Way). sooner o (best g k later)) (no_way s es by out) ∙ rest

  pub few_moves : best g k moves ≡ best g k (first_move (slice_get g.spots k.pos) ∷ cons_option (second_move (slice_get g.spots k.pos)) [])
  few_moves = let s = slice_get g.spots k.pos in thinner s refl moves ∙ ap (best g k) (those_are s)

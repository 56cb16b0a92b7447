-- Only the moves that there are where something stands lead anywhere.
use Rattle.std.proofs.Common.{◌≡◌, ℕ, List, [], ◌∷◌, Bool, true, false, cond, Option, Some, None, ◌++◌, filter, filter_map, append_assoc, refl, sym, ap, ◌∙◌}
use Rattle.std.specs.Prelude.{slice_get, option_map}
use Rattle.std.specs.List.{cons_option}
use Rattle.cw_certs.specs.declared.moves.Move.{Move}
use Rattle.cw_game.specs.declared.spots.Spot.{Spot}
use Rattle.cw_game.specs.declared.spots.Spot.TheVariants.{Visit, Asked, Branch, Open}
use Rattle.cw_game.specs.Games.{Game, weavers_in}
use Rattle.cw_product.specs.declared.turn.Turn.TheVariants as turn
use Rattle.cw_product.specs.Moves.{next_in, turn_in}
use Rattle.cw_product.specs.MovesAt.{first_move, second_move}
use Rattle.cw_product.proofs.There.{is_move, no_move}
use Rattle.cw_lazy_table.specs.declared.key.Key.{Key}
use Rattle.cw_lazy_table.specs.Closing.{key, moves_on}
use Rattle.cw_lazy_table.specs.Following.{moved_by}

those_are : (s : Option Spot) → weavers_in s ≡ false → filter (is_move s) moves_on ≡ first_move s ∷ cons_option (second_move s) []
those_are (Some (Visit j i a)) e = cc
those_are (Some (Asked j i a)) e = refl
those_are (Some (Branch m n)) e = refl
those_are (Some (Open j d n)) e = refl
those_are s e = refl

-- who answers isn't the weaver
pub answers_not_weavers : (g : Game) (s : Option Spot) → Some turn.Environment ≡ option_map (turn_in g) s → weavers_in s ≡ false
answers_not_weavers g (Some (Visit j i a)) e = cc
answers_not_weavers g s e = refl

module _ (g : Game) (k : Key) where
  not_led : (s : Option Spot) → slice_get g.spots k.pos ≡ s → (by : Move) → is_move s by ≡ false → moved_by g k by ≡ None
  not_led s es by out = ap (option_map (λ (r : ℕ × ℕ). key r.0 r.1 k.promise)) (ap (λ (o : Option Spot). next_in g k.pos k.state o by) es ∙ no_move g k.pos k.state s by out)

  thinner : (s : Option Spot) → slice_get g.spots k.pos ≡ s → (list : List Move)
      → filter_map (moved_by g k) list ≡ filter_map (moved_by g k) (filter (is_move s) list)
  thinner s es [] = refl
  thinner s es (by ∷ later) = by_test (is_move s by) refl (thinner s es later)
    where
      by_test : (b : Bool) → is_move s by ≡ b → filter_map (moved_by g k) later ≡ filter_map (moved_by g k) (filter (is_move s) later)
          → filter_map (moved_by g k) (by ∷ later) ≡ filter_map (moved_by g k) (cond b (by ∷ filter (is_move s) later) (filter (is_move s) later))
      by_test true there rest = ap (cons_option (moved_by g k by)) rest
      by_test false out rest = ap (λ (o : Option Key). cons_option o (filter_map (moved_by g k) later)) (not_led s es by out) ∙ rest

  pub few_moves : weavers_in (slice_get g.spots k.pos) ≡ false
      → filter_map (moved_by g k) moves_on ≡ filter_map (moved_by g k) (first_move (slice_get g.spots k.pos) ∷ cons_option (second_move (slice_get g.spots k.pos)) [])
  few_moves w = let s = slice_get g.spots k.pos in thinner s refl moves_on ∙ ap (filter_map (moved_by g k)) (those_are s w)

  -- two moves, as they are put

  pub put_both : (old one new : List Key) (a b : Move) → a ≡ first_move (slice_get g.spots k.pos) → Some b ≡ second_move (slice_get g.spots k.pos) → weavers_in (slice_get g.spots k.pos) ≡ false
      → one ≡ old ++ cons_option (moved_by g k a) [] → new ≡ one ++ cons_option (moved_by g k b) [] → new ≡ old ++ filter_map (moved_by g k) moves_on
  put_both old one new a b f s w d e =
      e ∙ ap (λ (l : List Key). l ++ cons_option (moved_by g k b) []) d ∙ append_assoc old (cons_option (moved_by g k a) []) (cons_option (moved_by g k b) [])
      ∙ ap (λ (l : List Key). old ++ l)
      (joined (moved_by g k a) (cons_option (moved_by g k b) [])
      ∙ ap (λ (m : Move). cons_option (moved_by g k m) (cons_option (moved_by g k b) [])) f
      ∙ ap (λ (o : Option Move). filter_map (moved_by g k) (first_move (slice_get g.spots k.pos) ∷ cons_option o [])) s ∙ sym (few_moves w))
    where
      joined : (o : Option Key) (l : List Key) → cons_option o [] ++ l ≡ cons_option o l
      joined None l = refl
      joined (Some x) l = refl

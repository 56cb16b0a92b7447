-- Where the environment moves at a key it has a way, and where its move leads to a pair that is lost its own is lost.
use Rattle.std.proofs.Common.{◌≡◌, ℕ, ◌-◌, [], Bool, false, Option, Some, None, refl, ap, ◌∙◌, arith, inl, inr}
use Rattle.std.specs.Prelude.{slice_get, option_map}
use Rattle.std.specs.List.{Contains}
use Rattle.std.proofs.lemmas.Bool.{and_cases as one_fails, and_left as fails_left, and_right as fails_right}
use Rattle.std.proofs.lemmas.Option.{none-some}
use Rattle.cw_certs.specs.declared.moves.Move.{Move}
use Rattle.cw_certs.specs.declared.moves.Move.TheVariants.{Grant, Refuse, On, Left, Right, Opened, Failed}
use Rattle.cw_game.specs.declared.spots.Spot.{Spot}
use Rattle.cw_game.specs.declared.spots.Spot.TheVariants.{Visit, Asked, Step, Branch, Label, Open, Close, Call, SplitCall, Exit}
use Rattle.cw_game.specs.Games.{Game, Promise, Holds, leads_in, weavers_in}
use Rattle.cw_game.specs.Pairs.{has, call_in, is_call_in}
use Rattle.cw_lemmas.proofs.Options.{cond_none_some as left}
use Rattle.cw_product.specs.Moves.{pair_of, is_left_in, next_in}
use Rattle.cw_product.specs.Routed.{AreRouted}
use Rattle.cw_solve.specs.Asking.{holds_after, after, holds_by_moves}
use Rattle.cw_least_strategy.specs.declared.key.Key.{Key}
use Rattle.cw_least_strategy.specs.declared.key.Way.{Way}
use Rattle.cw_least_strategy.specs.Heights.{others}
use Rattle.cw_least_strategy.specs.Kept.{IsKey}
use Rattle.cw_least_strategy.specs.Strategies.{below, moves, best}
use Rattle.cw_least_strategy.proofs.Lowest as lowest
use Rattle.cw_least_strategy.proofs.Moving.{moved}
use Rattle.cw_least_strategy.proofs.Naming.{best_some}

-- a position with no call
pub no_call : (o : Option Spot) → call_in o ≡ None → is_call_in o ≡ false
no_call None e = refl
no_call (Some (Visit j x a)) e = refl
no_call (Some (Asked j x a)) e = refl
no_call (Some (Step m)) e = refl
no_call (Some (Branch l m)) e = refl
no_call (Some (Label j l m)) e = refl
no_call (Some (Open j d m)) e = refl
no_call (Some (Close j d m)) e = refl
no_call (Some (Exit f)) e = refl
no_call (Some (Call j f m)) e = cc
no_call (Some (SplitCall j f m)) e = cc

after_false : (h : ℕ → ℕ → Promise → Bool) (e : Promise) (o : Option (ℕ × ℕ)) → holds_after h e o ≡ false → (r : ℕ × ℕ) × (o ≡ Some r) × (h r.0 r.1 e ≡ false)
after_false h e None f = cc
after_false h e (Some r) f = (r, refl, f)

-- a move of the environment leads to a pair that is lost
pub led_lost : (g : Game) (h : ℕ → ℕ → Promise → Bool) (p q : ℕ) (e : Promise) (o : Option Spot) (by : Move) (r : ℕ × ℕ) → weavers_in o ≡ false → next_in g p q o by ≡ Some r → h r.0 r.1 e ≡ false
    → holds_by_moves g h p q e o ≡ false
led_lost g h p q e (Some (Visit j i a)) by r w is f = cc
led_lost g h p q e (Some (Asked j i a)) Grant r w is f = fails_left _ _ (ap (holds_after h e) is ∙ f)
led_lost g h p q e (Some (Asked j i a)) Refuse r w is f = fails_right (after g h p q e (Some (Asked j i a)) Grant) _ (ap (holds_after h e) is ∙ f)
led_lost g h p q e (Some (Branch m n)) Left r w is f = fails_left _ _ (ap (holds_after h e) is ∙ f)
led_lost g h p q e (Some (Branch m n)) Right r w is f = fails_right (after g h p q e (Some (Branch m n)) Left) _ (ap (holds_after h e) is ∙ f)
led_lost g h p q e (Some (Open j d n)) Opened r w is f = fails_left _ _ (ap (holds_after h e) is ∙ f)
led_lost g h p q e (Some (Open j d n)) Failed r w is f = fails_right (after g h p q e (Some (Open j d n)) Opened) _ (ap (holds_after h e) is ∙ f)
led_lost g h p q e (Some (Step n)) On r w is f = ap (holds_after h e) is ∙ f
led_lost g h p q e (Some (Label j l n)) On r w is f = ap (holds_after h e) is ∙ f
led_lost g h p q e (Some (Close j d n)) On r w is f = ap (holds_after h e) is ∙ f
led_lost g h p q e (Some (Call j f n)) by r w is l = absurd (none-some r is)
led_lost g h p q e (Some (SplitCall j f n)) by r w is l = absurd (none-some r is)
led_lost g h p q e (Some (Exit f)) by r w is l = absurd (none-some r is)
led_lost g h p q e o by r w is f = absurd (none-some r (left (is_left_in g q o) (option_map pair_of (leads_in g p q [] o by)) r is).1)

module _ (g : Game) (functions : ℕ) (routed : AreRouted g functions) (k : Key) (is : IsKey g functions k) where
  abbrev n : ℕ
  n = k.height - 1

  abbrev e : ℕ
  e = others g k.aim

  abbrev spot : Option Spot
  spot = slice_get g.spots k.pos

  -- the environment has a move, where the pair isn't bad
  abbrev pub HasWay : Type 0
  HasWay = (w : Way) × (best g k moves ≡ Some w)

  leads_on : (by : Move) → Contains moves by → after g (Holds g n) k.pos k.state (has e) spot by ≡ false → HasWay
  leads_on by c f =
      let r = after_false (Holds g n) (has e) (next_in g k.pos k.state spot by) f in
      let m = moved g routed.closed k.pos k.state by r.0 is.state r.1 in
      let h = lowest.found g functions routed r.0.0 r.0.1 e m.3.4 n r.2 in
      best_some g functions routed k is moves by (record { by = by; to = below g k r.0.0 r.0.1 k.aim }) c
      (ap (option_map (λ r. record { by = by; to = below g k r.0 r.1 k.aim })) r.1) h.2

  pub way_by : (o : Option Spot) → spot ≡ o → weavers_in o ≡ false → holds_by_moves g (Holds g n) k.pos k.state (has e) o ≡ false → HasWay
  way_by (Some (Visit j x a)) es w f = cc
  way_by (Some (Asked j x a)) es w f = elim (one_fails _ _ f) [
    | inl h ↦ leads_on Grant (2, omega arith, refl) (ap (λ o. after g (Holds g n) k.pos k.state (has e) o Grant) es ∙ h)
    | inr h ↦ leads_on Refuse (3, omega arith, refl) (ap (λ o. after g (Holds g n) k.pos k.state (has e) o Refuse) es ∙ h)
  ]
  way_by (Some (Branch l r)) es w f = elim (one_fails _ _ f) [
    | inl h ↦ leads_on Left (5, omega arith, refl) (ap (λ o. after g (Holds g n) k.pos k.state (has e) o Left) es ∙ h)
    | inr h ↦ leads_on Right (6, omega arith, refl) (ap (λ o. after g (Holds g n) k.pos k.state (has e) o Right) es ∙ h)
  ]
  way_by (Some (Open j d m)) es w f = elim (one_fails _ _ f) [
    | inl h ↦ leads_on Opened (7, omega arith, refl) (ap (λ o. after g (Holds g n) k.pos k.state (has e) o Opened) es ∙ h)
    | inr h ↦ leads_on Failed (8, omega arith, refl) (ap (λ o. after g (Holds g n) k.pos k.state (has e) o Failed) es ∙ h)
  ]
  way_by None es w f = leads_on On (4, omega arith, refl) (ap (λ o. after g (Holds g n) k.pos k.state (has e) o On) es ∙ f)
  way_by (Some (Step m)) es w f = leads_on On (4, omega arith, refl) (ap (λ o. after g (Holds g n) k.pos k.state (has e) o On) es ∙ f)
  way_by (Some (Label j l m)) es w f = leads_on On (4, omega arith, refl) (ap (λ o. after g (Holds g n) k.pos k.state (has e) o On) es ∙ f)
  way_by (Some (Close j d m)) es w f = leads_on On (4, omega arith, refl) (ap (λ o. after g (Holds g n) k.pos k.state (has e) o On) es ∙ f)
  way_by (Some (Call j x m)) es w f = leads_on On (4, omega arith, refl) (ap (λ o. after g (Holds g n) k.pos k.state (has e) o On) es ∙ f)
  way_by (Some (SplitCall j x m)) es w f = leads_on On (4, omega arith, refl) (ap (λ o. after g (Holds g n) k.pos k.state (has e) o On) es ∙ f)
  way_by (Some (Exit x)) es w f = leads_on On (4, omega arith, refl) (ap (λ o. after g (Holds g n) k.pos k.state (has e) o On) es ∙ f)

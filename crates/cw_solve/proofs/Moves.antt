-- What a pair asks of the pairs to which its moves lead.
use Rattle.std.proofs.Common.{◌≡◌, ℕ, Bool, true, false, cond, not, ◌&&◌, ◌||◌, Option, Some, None, refl, sym, ap₂}
use Rattle.std.specs.Prelude.{option_map}
use Rattle.cw_rights.specs.declared.capabilities.Primitive.TheVariants.{Limit, Enter, Split}
use Rattle.cw_game.specs.declared.spots.Spot.{Spot}
use Rattle.cw_game.specs.declared.spots.Spot.TheVariants.{Visit, Asked, Step, Branch, Label, Open, Close, Call, SplitCall, Exit}
use Rattle.cw_game.specs.Games.{Game, Config, refuses_in, bad_in, Promise, holds_in}
use Rattle.cw_game.specs.Pairs.{is_call_in, is_exit_in}
use Rattle.cw_product.specs.Moves.{pair_of}
use Rattle.cw_solve.specs.Asking.{holds_after, holds_by_moves}

-- where the choice is there it leads to this pair
chosen : (h : ℕ → ℕ → Promise → Bool) (e : Promise) (b : Bool) (c : Config) → (not b || h c.pos c.state e) ≡ holds_after h e (option_map pair_of (cond b (Some c) None))
chosen h e true c = refl
chosen h e false c = refl

-- What holds is read off the moves, where the pair isn't bad and there is no call and no exit.
pub by_moves : (g : Game) (h : ℕ → ℕ → Promise → Bool) (p q : ℕ) (e : Promise) (o : Option Spot) → bad_in g q o ≡ false → is_call_in o ≡ false → is_exit_in o ≡ false
    → holds_by_moves g h p q e o ≡ holds_in g h p q e o
by_moves g h p q e None b c x = refl
by_moves g h p q e (Some (Visit j i a)) b c x = refl
by_moves g h p q e (Some (Asked j i Split)) b c x = ap₂ (λ y z. y && z) (sym (chosen h e (g.states.may_grant q Split) _)) (sym (chosen h e (refuses_in g q Split) _))
by_moves g h p q e (Some (Asked j i Enter)) b c x = ap₂ (λ y z. y && z) (sym (chosen h e (g.states.may_grant q Enter) _)) (sym (chosen h e (refuses_in g q Enter) _))
by_moves g h p q e (Some (Asked j i (Limit l))) b c x = ap₂ (λ y z. y && z) (sym (chosen h e (g.states.may_grant q (Limit l)) _)) (sym (chosen h e (refuses_in g q (Limit l)) _))
by_moves g h p q e (Some (Step n)) b c x = refl
by_moves g h p q e (Some (Branch m n)) b c x = refl
by_moves g h p q e (Some (Label j l n)) b c x = rw b refl
by_moves g h p q e (Some (Open j d n)) b c x = refl
by_moves g h p q e (Some (Close j d n)) b c x = refl
by_moves g h p q e (Some (Call j f n)) b c x = cc
by_moves g h p q e (Some (SplitCall j f n)) b c x = cc
by_moves g h p q e (Some (Exit f)) b c x = cc

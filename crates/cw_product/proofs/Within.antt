-- What next, a resumption and a return give is in range.
use Rattle.std.proofs.Common.{ℕ, ◌+◌, Bool, true, false, cond, ◌||◌, [], Option, Some, None, option_map, arith}
use Rattle.std.specs.Prelude.{IfSome}
use Rattle.cw_core.specs.declared.ids.PosId.{PosId}
use Rattle.cw_core.specs.declared.ids.StateId.{StateId}
use Rattle.cw_rights.specs.declared.capabilities.Primitive.{Primitive}
use Rattle.cw_rights.specs.declared.capabilities.Primitive.TheVariants.{Limit, Enter, Split}
use Rattle.cw_certs.specs.declared.moves.Move.{Move}
use Rattle.cw_certs.specs.declared.moves.Move.TheVariants.{Skip, Try, Grant, Refuse, On, Left, Right, Opened, Failed}
use Rattle.cw_game.specs.declared.spots.Spot.{Spot}
use Rattle.cw_game.specs.declared.spots.Spot.TheVariants.{Visit, Asked, Step, Branch, Label, Open, Close, Call, SplitCall, Exit}
use Rattle.cw_game.specs.Games.{Game, at_pair, refuses_in, past_asked}
use Rattle.cw_states.specs.Below.{StayBelow}
use Rattle.cw_product.specs.Moves.{IsPosition, IsState, pair_of, numbers, next_in}
use Rattle.cw_product.specs.Product.{Held, game_of}
use Rattle.cw_product.specs.Kept.{IsFine, IsFollowed, IsWithin}

module _ (h : Held) (below : StayBelow (game_of h).states) where
  abbrev g : Game
  g = game_of h

  past : (p q : ℕ) (a : Primitive) → IsFollowed g p a → IsState g q → IsWithin g (Some (pair_of (past_asked g p q a [])))
  past p q Split f s = (f, s)
  past p q Enter f s = (f, below.granted q Enter s)
  past p q (Limit limit) f s = (f, below.granted q (Limit limit) s)

  granted_within : (p q : ℕ) (a : Primitive) (b : Bool) → IsFollowed g p a → IsState g q
      → IsWithin g (option_map pair_of (cond b (Some (past_asked g p q a [])) None))
  granted_within p q a true f s = past p q a f s
  granted_within p q a false f s = tt

  refused_within : (p q : ℕ) (b : Bool) → IsPosition g (p + 1) → IsState g q
      → IsWithin g (option_map pair_of (cond b (Some (at_pair (p + 1) q [])) None))
  refused_within p q true f s = (f, s)
  refused_within p q false f s = tt

  lettered_within : (q l n : ℕ) (b : Bool) (o : Option (ℕ × ℕ)) → IsWithin g o → IsWithin g (cond (b || (false || false)) None o)
  lettered_within q l n true o w = tt
  lettered_within q l n false o w = w

  pub next_within : (p q : ℕ) (s : Spot) (by : Move) → IsFine h p s → IsState g q → IsWithin g (next_in g p q (Some s) by)
  next_within p q (Visit j i a) Skip f s = (f, s)
  next_within p q (Visit j i a) Try f s = (omega arith, s)
  next_within p q (Visit j i a) _ f s = tt
  next_within p q (Asked j i a) Grant f s = granted_within p q a (g.states.may_grant q a) f.1 s
  next_within p q (Asked j i a) Refuse f s = refused_within p q (refuses_in g q a) f.0 s
  next_within p q (Asked j i a) _ f s = tt
  next_within p q (Step n) On f s = (f, s)
  next_within p q (Step n) _ f s = tt
  next_within p q (Branch m n) Left f s = (f.0, s)
  next_within p q (Branch m n) Right f s = (f.1, s)
  next_within p q (Branch m n) _ f s = tt
  next_within p q (Label j l n) On f s = lettered_within q l n (g.states.bad q l) _ (f.0, below.lettered q l s)
  next_within p q (Label j l n) _ f s = lettered_within q l n (g.states.bad q l) None tt
  next_within p q (Open j d n) Opened f s = (f.0, below.opened q d s)
  next_within p q (Open j d n) Failed f s = (f.0, below.closed q d s)
  next_within p q (Open j d n) _ f s = tt
  next_within p q (Close j d n) On f s = (f.0, below.closed q d s)
  next_within p q (Close j d n) _ f s = tt
  next_within p q (Call j f n) by w s = tt
  next_within p q (SplitCall j f n) by w s = tt
  next_within p q (Exit f) by w s = tt

-- what numbers are in range, it is
pub seen : (g : Game) (o : Option (PosId × StateId)) → IsWithin g (numbers o) → IfSome o (λ r. IsPosition g r.0.0 × IsState g r.1.0)
seen g None w = tt
seen g (Some r) w = w

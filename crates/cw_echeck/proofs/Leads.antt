-- Where the moves that a strategy names lead.
use Rattle.std.proofs.Common.{◌≡◌, ℕ, ◌+◌, List, [], ◌∷◌, Bool, true, false, cond, Option, Some, None, option_map, refl}
use Rattle.cw_rights.specs.declared.capabilities.Primitive.{Primitive}
use Rattle.cw_rights.specs.declared.capabilities.Primitive.TheVariants.{Split}
use Rattle.cw_certs.specs.declared.moves.Move.{Move}
use Rattle.cw_certs.specs.declared.moves.Move.TheVariants.{Skip, Try, Grant, Refuse, On, Left, Right, Opened, Failed, Stop}
use Rattle.cw_game.specs.declared.spots.Spot.{Spot}
use Rattle.cw_game.specs.declared.spots.Spot.TheVariants.{Visit as VisitSpot, Asked as AskedSpot, Call as CallSpot, SplitCall, Exit}
use Rattle.cw_game.specs.Games.{Game, refuses_in, Ret, Config, at_pair, past_asked, leads_in, bad_in, weavers_in}
use Rattle.cw_game.specs.Pairs.{is_call_in, is_exit_in}
use Rattle.cw_game.specs.Closed.{CallsIn}

module _ (g : Game) where
  -- what is neither a call nor an exit leads to the same pair over any returns
  if_over : (yes : Bool) (c : Config) (rets : List Ret) → option_map (λ (c : Config). at_pair c.pos c.state rets) (cond yes (Some c) None) ≡ cond yes (Some (at_pair c.pos c.state rets)) None
  if_over true c rets = refl
  if_over false c rets = refl

  granted_over : (p q : ℕ) (rets : List Ret) (a : Primitive)
      → option_map (λ (c : Config). at_pair c.pos c.state rets) (cond (g.states.may_grant q a) (Some (past_asked g p q a [])) None)
      ≡ cond (g.states.may_grant q a) (Some (past_asked g p q a rets)) None
  granted_over p q rets Split = if_over (g.states.may_grant q Split) (at_pair (p + 2) q []) rets
  granted_over p q rets a = if_over (g.states.may_grant q a) (at_pair (p + 1) (g.states.granted q a) []) rets

  pub local_over : (p q : ℕ) (rets : List Ret) (spot : Option Spot) (by : Move) → is_call_in spot ≡ false → is_exit_in spot ≡ false
      → option_map (λ (c : Config). at_pair c.pos c.state rets) (leads_in g p q [] spot by) ≡ leads_in g p q rets spot by
  local_over p q rets (Some (AskedSpot j i a)) Grant c e = granted_over p q rets a
  local_over p q rets (Some (AskedSpot j i a)) Refuse c e = if_over (refuses_in g q a) (at_pair (p + 1) q []) rets
  local_over p q rets (Some (CallSpot j f n)) by c e = cc
  local_over p q rets (Some (SplitCall j f n)) by c e = cc
  local_over p q rets (Some (Exit f)) by c e = cc
  local_over p q rets _ On c e = refl
  local_over p q rets _ Left c e = refl
  local_over p q rets _ Right c e = refl
  local_over p q rets _ Opened c e = refl
  local_over p q rets _ Failed c e = refl
  local_over p q rets _ Skip c e = refl
  local_over p q rets _ Try c e = refl
  local_over p q rets _ Grant c e = refl
  local_over p q rets _ Refuse c e = refl
  local_over p q rets _ Stop c e = refl

  -- a call leads to its callee
  pub calls_to : (p q f n : ℕ) (kept : Option ℕ) (rets : List Ret) (spot : Option Spot) → CallsIn q spot f n kept
      → (leads_in g p q rets spot On ≡ Some (at_pair (g.entry f) q (record { back = n; kept = kept } ∷ rets))) × (is_call_in spot ≡ true) × (bad_in g q spot ≡ false)
  calls_to p q f n kept rets (Some (CallSpot j f2 n2)) h = rw (h.0, h.1, h.2) (refl, refl, refl)
  calls_to p q f n kept rets (Some (SplitCall j f2 n2)) h = rw (h.0, h.1, h.2) (refl, refl, refl)
  calls_to p q f n kept rets _ h = absurd h

  pub weavers_to : (p q : ℕ) (rets : List Ret) (spot : Option Spot) → weavers_in spot ≡ true
      → (leads_in g p q rets spot Skip ≡ Some (at_pair (p + 2) q rets)) × (leads_in g p q rets spot Try ≡ Some (at_pair (p + 1) q rets)) × (bad_in g q spot ≡ false)
  weavers_to p q rets (Some (VisitSpot j i a)) e = (refl, refl, refl)
  weavers_to p q rets _ e = cc

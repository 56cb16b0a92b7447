-- What stands where it is whose turn it is.
use Rattle.std.proofs.Common.{◌≡◌, ℕ, true, false, Option, Some, None, refl, sym, ap, []}
use Rattle.std.specs.Prelude.{option_map, cond, ◌||◌}
use Rattle.std.proofs.lemmas.Option.{none-some, same_Some}
use Rattle.cw_core.specs.declared.ids.PosId.{PosId}
use Rattle.cw_core.specs.declared.ids.StateId.{StateId}
use Rattle.cw_certs.specs.declared.moves.Move.{Move}
use Rattle.cw_certs.specs.declared.moves.Move.TheVariants.{On, Left, Right, Opened, Failed}
use Rattle.cw_game.specs.declared.spots.Spot.{Spot}
use Rattle.cw_game.specs.declared.spots.Spot.TheVariants.{Visit, Asked, Step, Branch, Label, Open, Close, Call, SplitCall, Exit}
use Rattle.cw_game.specs.Games.{Game, Config, leads_in, bad_in}
use Rattle.cw_product.specs.declared.turn.Turn.TheVariants as turn
use Rattle.cw_product.specs.Moves.{next_in, pair_of}
use Rattle.cw_product.specs.MovesAt.{first_move, second_move}
use Rattle.cw_audit_table.specs.Runs.{is_step}
use Rattle.cw_audit_table.specs.Conditions.{is_inner}

module _ (g : Game) where
  -- within a function, at a pair that isn't bad, the answer is where the move leads
  pub next_leads : (p x : ℕ) (spot : Option Spot) (by : Move) → is_inner spot ≡ true → bad_in g x spot ≡ false
      → next_in g p x spot by ≡ option_map pair_of (leads_in g p x [] spot by)
  next_leads p x (Some (Step n)) by i b = refl
  next_leads p x (Some (Branch m n)) by i b = refl
  next_leads p x (Some (Label j l n)) by i b = ap (λ s. cond (s || false) None (option_map pair_of (leads_in g p x [] (Some (Label j l n)) by))) b
  next_leads p x (Some (Open j d n)) by i b = refl
  next_leads p x (Some (Close j d n)) by i b = refl
  next_leads p x (Some (Visit j i a)) by e b = cc
  next_leads p x (Some (Asked j i a)) by e b = cc
  next_leads p x (Some (Call j h k)) by e b = cc
  next_leads p x (Some (SplitCall j h k)) by e b = cc
  next_leads p x (Some (Exit h)) by e b = cc
  next_leads p x None by e b = cc

  -- each move that leads anywhere there is the first or the second
  pub two_moves : (P : Move → Type 0) (p x : ℕ) (spot : Option Spot) (by : Move) (c : Config) → is_inner spot ≡ true → is_step by ≡ true → leads_in g p x [] spot by ≡ Some c
      → P (first_move spot) → ((m : Move) → second_move spot ≡ Some m → P m) → P by
  two_moves P p x (Some (Step n)) On c i s l a b = a
  two_moves P p x (Some (Branch m n)) Left c i s l a b = a
  two_moves P p x (Some (Branch m n)) Right c i s l a b = b Right refl
  two_moves P p x (Some (Label j k n)) On c i s l a b = a
  two_moves P p x (Some (Open j d n)) Opened c i s l a b = a
  two_moves P p x (Some (Open j d n)) Failed c i s l a b = b Failed refl
  two_moves P p x (Some (Close j d n)) On c i s l a b = a
  two_moves P p x (Some (Step n)) _ c i s l a b = absurd (none-some c l)
  two_moves P p x (Some (Branch m n)) _ c i s l a b = absurd (none-some c l)
  two_moves P p x (Some (Label j k n)) _ c i s l a b = absurd (none-some c l)
  two_moves P p x (Some (Open j d n)) _ c i s l a b = absurd (none-some c l)
  two_moves P p x (Some (Close j d n)) _ c i s l a b = absurd (none-some c l)
  two_moves P p x _ by c i s l a b = cc

  -- both are steps
  pub first_step : (spot : Option Spot) → is_inner spot ≡ true → is_step (first_move spot) ≡ true
  first_step (Some (Step n)) i = refl
  first_step (Some (Branch m n)) i = refl
  first_step (Some (Label j l n)) i = refl
  first_step (Some (Open j d n)) i = refl
  first_step (Some (Close j d n)) i = refl
  first_step _ i = cc

  pub second_step : (spot : Option Spot) (by : Move) → is_inner spot ≡ true → second_move spot ≡ Some by → is_step by ≡ true
  second_step (Some (Branch m n)) by i e = sym (ap is_step (same_Some Right by e))
  second_step (Some (Open j d n)) by i e = sym (ap is_step (same_Some Failed by e))
  second_step (Some (Step n)) by i e = absurd (none-some by e)
  second_step (Some (Label j l n)) by i e = absurd (none-some by e)
  second_step (Some (Close j d n)) by i e = absurd (none-some by e)
  second_step _ by i e = cc

-- where the answer is a pair, the move leads there
pub leads_of : (o : Option Config) (r : PosId × StateId) → option_map pair_of o ≡ Some (r.0.0, r.1.0) → (c : Config) × (o ≡ Some c) × (c.pos ≡ r.0.0) × (c.state ≡ r.1.0)
leads_of None r e = absurd (none-some _ e)
leads_of (Some c) r e = let z = same_Some (pair_of c) (r.0.0, r.1.0) e in (c, refl, ap (λ (v : ℕ × ℕ). v.0) z, ap (λ (v : ℕ × ℕ). v.1) z)

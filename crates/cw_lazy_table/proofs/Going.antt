-- Where the environment's moves lead from a pair that isn't bad.
use Rattle.std.proofs.Common.{◌≡◌, ℕ, ◌+◌, [], Bool, true, false, cond, Option, Some, None, refl, subst}
use Rattle.std.specs.Prelude.{slice_get, Contains}
use Rattle.std.proofs.lemmas.Option.{none-some, same_Some, cond_some}
use Rattle.cw_rights.specs.declared.capabilities.Primitive.TheVariants.{Limit, Enter, Split}
use Rattle.cw_certs.specs.declared.moves.Move.{Move}
use Rattle.cw_certs.specs.declared.moves.Move.TheVariants.{Grant, Refuse, On, Left, Right, Opened, Failed}
use Rattle.cw_game.specs.declared.spots.Spot.{Spot}
use Rattle.cw_game.specs.declared.spots.Spot.TheVariants.{Visit, Asked, Step, Branch, Label, Open, Close, Call, SplitCall, Exit}
use Rattle.cw_game.specs.Games.{Game, Config, at_pair, past_asked, can_stop_in, refuses_in, resumed_in, leads_in, bad_in, weavers_in, Promise, holds_in}
use Rattle.cw_game.specs.Pairs.{is_call_in}
use Rattle.cw_game.proofs.Holding.{AreClosed}
use Rattle.cw_product.specs.Routed.{IsState, targets}
use Rattle.cw_solve.proofs.Still.{first_of_two, second_of_two, only}
use Rattle.cw_lemmas.proofs.Truths.{not_or as given}
use Rattle.std.proofs.lemmas.Bool.{and_left, and_right}

-- one of the position's targets, a state, and where what it leads to is lost so is the pair
pub record GoesTo (g : Game) (p q : ℕ) (o : Option Spot) (c : Config) : Type 0 where
  pub target : Contains (targets p o) c.pos
  pub state : IsState g q → IsState g c.state
  pub lost : (h : ℕ → ℕ → Promise → Bool) (e : Promise) → h c.pos c.state e ≡ false → holds_in g h p q e o ≡ false

module _ (g : Game) (closed : AreClosed g (IsState g)) (p q : ℕ) where
  pub goes_to : (o : Option Spot) (by : Move) (c : Config) → slice_get g.spots p ≡ o → bad_in g q o ≡ false → weavers_in o ≡ false → is_call_in o ≡ false
      → leads_in g p q [] o by ≡ Some c → GoesTo g p q o c
  goes_to None by c es b w k l = absurd (none-some c l)
  goes_to (Some (Visit j i a)) by c es b w k l = cc
  goes_to (Some (Asked j i Split)) Grant c es b w k l =
      let z = cond_some (g.states.may_grant q Split) (past_asked g p q Split []) c l in
      subst (GoesTo g p q (Some (Asked j i Split))) z.1
      (record { target = first_of_two (p + 2) (p + 1); state = λ s. s; lost = λ h e f. and_left _ _ (given (g.states.may_grant q Split) (h (p + 2) q e) z.0 f) })
  goes_to (Some (Asked j i Enter)) Grant c es b w k l =
      let z = cond_some (g.states.may_grant q Enter) (past_asked g p q Enter []) c l in
      subst (GoesTo g p q (Some (Asked j i Enter))) z.1 (record {
        target = only (p + 1);
        state = λ s. closed.granted p j i q Enter es z.0 s;
        lost =
            λ h e f. and_left _ _ (given (g.states.may_grant q Enter) (h (p + 1) (g.states.granted q Enter) e) z.0 f);
      })
  goes_to (Some (Asked j i (Limit n))) Grant c es b w k l =
      let z = cond_some (g.states.may_grant q (Limit n)) (past_asked g p q (Limit n) []) c l in
      subst (GoesTo g p q (Some (Asked j i (Limit n)))) z.1 (record {
        target = only (p + 1);
        state = λ s. closed.granted p j i q (Limit n) es z.0 s;
        lost =
            λ h e f. and_left _ _ (given (g.states.may_grant q (Limit n)) (h (p + 1) (g.states.granted q (Limit n)) e) z.0 f);
      })
  goes_to (Some (Asked j i Split)) Refuse c es b w k l =
      let z = cond_some (refuses_in g q Split) (at_pair (p + 1) q []) c l in
      subst (GoesTo g p q (Some (Asked j i Split))) z.1
      (record { target = second_of_two (p + 2) (p + 1); state = λ s. s; lost = λ h e f. and_right _ _ (given (refuses_in g q Split) (h (p + 1) q e) z.0 f) })
  goes_to (Some (Asked j i Enter)) Refuse c es b w k l =
      let z = cond_some (refuses_in g q Enter) (at_pair (p + 1) q []) c l in
      subst (GoesTo g p q (Some (Asked j i Enter))) z.1 (record { target = only (p + 1); state = λ s. s; lost = λ h e f. and_right _ _ (given (refuses_in g q Enter) (h (p + 1) q e) z.0 f) })
  goes_to (Some (Asked j i (Limit n))) Refuse c es b w k l =
      let z = cond_some (refuses_in g q (Limit n)) (at_pair (p + 1) q []) c l in
      subst (GoesTo g p q (Some (Asked j i (Limit n)))) z.1 (record { target = only (p + 1); state = λ s. s; lost = λ h e f. and_right _ _ (given (refuses_in g q (Limit n)) (h (p + 1) q e) z.0 f) })
  goes_to (Some (Asked j i a)) _ c es b w k l = absurd (none-some c l)
  goes_to (Some (Step n)) On c es b w k l = subst (GoesTo g p q (Some (Step n))) (same_Some _ c l) (record { target = only n; state = λ s. s; lost = λ h e f. f })
  goes_to (Some (Step n)) _ c es b w k l = absurd (none-some c l)
  goes_to (Some (Branch m n)) Left c es b w k l = subst (GoesTo g p q (Some (Branch m n))) (same_Some _ c l) (record { target = first_of_two m n; state = λ s. s; lost = λ h e f. and_left _ _ f })
  goes_to (Some (Branch m n)) Right c es b w k l = subst (GoesTo g p q (Some (Branch m n))) (same_Some _ c l) (record { target = second_of_two m n; state = λ s. s; lost = λ h e f. and_right _ _ f })
  goes_to (Some (Branch m n)) _ c es b w k l = absurd (none-some c l)
  goes_to (Some (Label j x n)) On c es b w k l = subst (GoesTo g p q (Some (Label j x n))) (same_Some _ c l)
      (record { target = only n; state = λ s. closed.lettered p j x n q es b s; lost = λ h e f. and_right _ _ f })
  goes_to (Some (Label j x n)) _ c es b w k l = absurd (none-some c l)
  goes_to (Some (Open j d n)) Opened c es b w k l = subst (GoesTo g p q (Some (Open j d n))) (same_Some _ c l)
      (record { target = only n; state = λ s. closed.opened p j d n q es s; lost = λ h e f. and_left _ _ f })
  goes_to (Some (Open j d n)) Failed c es b w k l = subst (GoesTo g p q (Some (Open j d n))) (same_Some _ c l)
      (record { target = only n; state = λ s. closed.failed p j d n q es s; lost = λ h e f. and_right _ _ f })
  goes_to (Some (Open j d n)) _ c es b w k l = absurd (none-some c l)
  goes_to (Some (Close j d n)) On c es b w k l = subst (GoesTo g p q (Some (Close j d n))) (same_Some _ c l) (record { target = only n; state = λ s. closed.closed p j d n q es s; lost = λ h e f. f })
  goes_to (Some (Close j d n)) _ c es b w k l = absurd (none-some c l)
  goes_to (Some (Call j f n)) by c es b w k l = cc
  goes_to (Some (SplitCall j f n)) by c es b w k l = cc
  goes_to (Some (Exit f)) _ c es b w k l = absurd (none-some c l)

  -- going on after a refusal arrives behind what was asked, in the same state
  pub resumes : (o : Option Spot) (pair : ℕ × ℕ) → resumed_in g p q o ≡ Some pair → Contains (targets p o) pair.0 × (pair.1 ≡ q) × (weavers_in o ≡ false)
  resumes (Some (Asked j i Split)) pair e = by (can_stop_in g q Split) e
    where
      by : (b : Bool) → cond b (Some (p + 1, q)) None ≡ Some pair → Contains (targets p (Some (Asked j i Split))) pair.0 × (pair.1 ≡ q) × (false ≡ false)
      by true e = let z = same_Some (p + 1, q) pair e in subst (λ y. Contains (targets p (Some (Asked j i Split))) y.0 × (y.1 ≡ q) × (false ≡ false)) z (second_of_two (p + 2) (p + 1), refl, refl)
      by false e = absurd (none-some pair e)
  resumes (Some (Asked j i Enter)) pair e = by (can_stop_in g q Enter) e
    where
      by : (b : Bool) → cond b (Some (p + 1, q)) None ≡ Some pair → Contains (targets p (Some (Asked j i Enter))) pair.0 × (pair.1 ≡ q) × (false ≡ false)
      by true e = let z = same_Some (p + 1, q) pair e in subst (λ y. Contains (targets p (Some (Asked j i Enter))) y.0 × (y.1 ≡ q) × (false ≡ false)) z (only (p + 1), refl, refl)
      by false e = absurd (none-some pair e)
  resumes (Some (Asked j i (Limit n))) pair e = by (can_stop_in g q (Limit n)) e
    where
      by : (b : Bool) → cond b (Some (p + 1, q)) None ≡ Some pair → Contains (targets p (Some (Asked j i (Limit n)))) pair.0 × (pair.1 ≡ q) × (false ≡ false)
      by true e = let z = same_Some (p + 1, q) pair e in subst (λ y. Contains (targets p (Some (Asked j i (Limit n)))) y.0 × (y.1 ≡ q) × (false ≡ false)) z (only (p + 1), refl, refl)
      by false e = absurd (none-some pair e)
  resumes _ pair e = absurd (none-some pair e)

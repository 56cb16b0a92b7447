-- Where a move leads: to a position of the same function, in a state.
use Rattle.std.proofs.Common.{◌≡◌, ℕ, ◌+◌, [], Bool, true, false, ◌||◌, Option, Some, refl, subst}
use Rattle.std.specs.Prelude.{slice_get, Contains, option_map}
use Rattle.std.proofs.lemmas.Option.{same_Some, none-some}
use Rattle.cw_rights.specs.declared.capabilities.Primitive.TheVariants.{Limit, Enter, Split}
use Rattle.cw_certs.specs.declared.moves.Move.{Move}
use Rattle.cw_certs.specs.declared.moves.Move.TheVariants.{Skip, Try, Grant, Refuse, On, Left, Right, Opened, Failed}
use Rattle.cw_game.specs.declared.spots.Spot.{Spot}
use Rattle.cw_game.specs.declared.spots.Spot.TheVariants.{Visit, Asked, Step, Branch, Label, Open, Close, Call, SplitCall}
use Rattle.cw_game.specs.Games.{Game, Config, at_pair, refuses_in, bad_in, leads_in}
use Rattle.cw_game.specs.Pairs.{is_call_in, is_exit_in}
use Rattle.cw_game.proofs.Holding.{AreClosed}
use Rattle.cw_product.specs.Moves.{pair_of, is_left_in, next_in}
use Rattle.cw_product.specs.Routed.{IsState, targets}
use Rattle.cw_solve.proofs.Still.{first_of_two, second_of_two, only}
use Rattle.cw_lemmas.proofs.Options.{cond_none_some as left, option_map_some as mapped}
use Rattle.std.proofs.lemmas.Option.{cond_some as chosen}

pub parts : (a b c : Bool) → (a || (b || c)) ≡ false → (a ≡ false) × (b ≡ false) × (c ≡ false)
parts true b c e = cc
parts false true c e = cc
parts false false true e = cc
parts false false false e = (refl, refl, refl)

module _ (g : Game) (closed : AreClosed g (IsState g)) where
  abbrev Lands : ℕ → Option Spot → Config → Type 0
  Lands p s c = Contains (targets p s) c.pos × IsState g c.state

  lands : (p q : ℕ) (s : Option Spot) (by : Move) (c : Config) → slice_get g.spots p ≡ s → IsState g q → bad_in g q s ≡ false → is_call_in s ≡ false → leads_in g p q [] s by ≡ Some c → Lands p s c
  lands p q (Some (Visit j i a)) Skip c es t b k e = subst (Lands p (Some (Visit j i a))) (same_Some _ c e) (first_of_two (p + 2) (p + 1), t)
  lands p q (Some (Visit j i a)) Try c es t b k e = subst (Lands p (Some (Visit j i a))) (same_Some _ c e) (second_of_two (p + 2) (p + 1), t)
  lands p q (Some (Asked j i Split)) Grant c es t b k e = subst (Lands p (Some (Asked j i Split))) (chosen (g.states.may_grant q Split) _ c e).1 (first_of_two (p + 2) (p + 1), t)
  lands p q (Some (Asked j i Enter)) Grant c es t b k e =
      let h = chosen (g.states.may_grant q Enter) (at_pair (p + 1) (g.states.granted q Enter) []) c e in
      subst (Lands p (Some (Asked j i Enter))) h.1 (only (p + 1), closed.granted p j i q Enter es h.0 t)
  lands p q (Some (Asked j i (Limit l))) Grant c es t b k e =
      let h = chosen (g.states.may_grant q (Limit l)) (at_pair (p + 1) (g.states.granted q (Limit l)) []) c e in
      subst (Lands p (Some (Asked j i (Limit l)))) h.1 (only (p + 1), closed.granted p j i q (Limit l) es h.0 t)
  lands p q (Some (Asked j i Split)) Refuse c es t b k e = subst (Lands p (Some (Asked j i Split))) (chosen (refuses_in g q Split) _ c e).1 (second_of_two (p + 2) (p + 1), t)
  lands p q (Some (Asked j i Enter)) Refuse c es t b k e = subst (Lands p (Some (Asked j i Enter))) (chosen (refuses_in g q Enter) _ c e).1 (only (p + 1), t)
  lands p q (Some (Asked j i (Limit l))) Refuse c es t b k e = subst (Lands p (Some (Asked j i (Limit l)))) (chosen (refuses_in g q (Limit l)) _ c e).1 (only (p + 1), t)
  lands p q (Some (Step n)) On c es t b k e = subst (Lands p (Some (Step n))) (same_Some _ c e) (only n, t)
  lands p q (Some (Branch m n)) Left c es t b k e = subst (Lands p (Some (Branch m n))) (same_Some _ c e) (first_of_two m n, t)
  lands p q (Some (Branch m n)) Right c es t b k e = subst (Lands p (Some (Branch m n))) (same_Some _ c e) (second_of_two m n, t)
  lands p q (Some (Label j l n)) On c es t b k e = subst (Lands p (Some (Label j l n))) (same_Some _ c e) (only n, closed.lettered p j l n q es b t)
  lands p q (Some (Open j d n)) Opened c es t b k e = subst (Lands p (Some (Open j d n))) (same_Some _ c e) (only n, closed.opened p j d n q es t)
  lands p q (Some (Open j d n)) Failed c es t b k e = subst (Lands p (Some (Open j d n))) (same_Some _ c e) (only n, closed.failed p j d n q es t)
  lands p q (Some (Close j d n)) On c es t b k e = subst (Lands p (Some (Close j d n))) (same_Some _ c e) (only n, closed.closed p j d n q es t)
  lands p q (Some (Call j f n)) by c es t b k e = cc
  lands p q (Some (SplitCall j f n)) by c es t b k e = cc
  lands p q s by c es t b k e = absurd (none-some c e)

  -- the pair to which a move leads, and that there is such a move
  pub moved : (p q : ℕ) (by : Move) (r : ℕ × ℕ) → IsState g q → next_in g p q (slice_get g.spots p) by ≡ Some r
      → (bad_in g q (slice_get g.spots p) ≡ false) × (is_call_in (slice_get g.spots p) ≡ false) × (is_exit_in (slice_get g.spots p) ≡ false)
      × ((c : Config) × (leads_in g p q [] (slice_get g.spots p) by ≡ Some c) × (pair_of c ≡ r) × Contains (targets p (slice_get g.spots p)) r.0 × IsState g r.1)
  moved p q by r t e =
      let s = slice_get g.spots p in
      let l = left (is_left_in g q s) (option_map pair_of (leads_in g p q [] s by)) r e in
      let n = parts (bad_in g q s) (is_call_in s) (is_exit_in s) l.0 in
      let m = mapped pair_of (leads_in g p q [] s by) r l.1 in
      let at = lands p q s by m.0 refl t n.0 n.1 m.1 in
      (n.0, n.1, n.2, (m.0, m.1, m.2, subst (λ (y : ℕ × ℕ). Contains (targets p s) y.0) m.2 at.0, subst (λ (y : ℕ × ℕ). IsState g y.1) m.2 at.1))

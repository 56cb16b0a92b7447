-- What holds at a position that is no call, read off the pairs to which its moves lead.
use Rattle.std.proofs.Common.{◌≡◌, ℕ, ◌<◌, List, [], Bool, true, false, Option, Some, None, refl, sym, ◌∙◌, subst, inl, inr}
use Rattle.std.specs.Prelude.{slice_get, option_map}
use Rattle.std.proofs.lemmas.Option.{same_Some, none-some}
use Rattle.cw_rights.specs.declared.capabilities.Primitive.TheVariants.{Limit, Enter, Split}
use Rattle.cw_certs.specs.declared.moves.Move.{Move}
use Rattle.cw_certs.specs.declared.moves.Move.TheVariants.{Skip, Try, Grant, Refuse, On, Left, Right, Opened, Failed}
use Rattle.cw_game.specs.declared.spots.Spot.{Spot}
use Rattle.cw_game.specs.declared.spots.Spot.TheVariants.{Visit, Asked, Step, Branch, Label, Open, Close, Call, SplitCall, Exit}
use Rattle.cw_game.specs.Games.{Game, Config, refuses_in, bad_in, leads_in, Promise, holds_in}
use Rattle.cw_game.specs.Pairs.{is_call_in, is_exit_in}
use Rattle.cw_game.proofs.Holding.{Gives, gives_or, gives_and, bad_fails}
use Rattle.cw_product.specs.Moves.{pair_of, is_left_in, next_in, next_at}
use Rattle.cw_solve.specs.declared.contexts.Context.{Context}
use Rattle.cw_solve.specs.Asking.{holds_after, holds_by_moves}
use Rattle.cw_product.specs.Routed.{IsState, AreRouted}
use Rattle.cw_solve.specs.Rounds.{IsCell}
use Rattle.cw_solve.proofs.Calling.{next_target}
use Rattle.cw_solve.proofs.Moves.{by_moves}
use Rattle.cw_linked.specs.Steps.{IsMoveIn}
use Rattle.cw_lemmas.proofs.Truths.{or_first as neither, or_middle}
use Rattle.cw_lemmas.proofs.Options.{cond_none_some as not_left, option_map_some as mapped}
use Rattle.std.proofs.lemmas.Option.{cond_some as made}
use Rattle.std.specs.Cmp.{both_ways as same_bools}

module _ (g : Game) where
  module _ (h h' : ℕ → ℕ → Promise → Bool) (e : Promise) where
    after_gives : (o : Option (ℕ × ℕ)) → ((r : ℕ × ℕ) → o ≡ Some r → Gives (h r.0 r.1 e) (h' r.0 r.1 e)) → Gives (holds_after h e o) (holds_after h' e o)
    after_gives None f k = refl
    after_gives (Some r) f k = f r refl k

    abbrev Follows : ℕ → ℕ → Option Spot → Type 0
    Follows p q o = (by : Move) (r : ℕ × ℕ) → IsMoveIn o by → next_in g p q o by ≡ Some r → Gives (h r.0 r.1 e) (h' r.0 r.1 e)

    moves_give : (p q : ℕ) (o : Option Spot) → Follows p q o → Gives (holds_by_moves g h p q e o) (holds_by_moves g h' p q e o)
    moves_give p q (Some (Visit j i a)) f =
        gives_or _ _ _ _ (after_gives (next_in g p q (Some (Visit j i a)) Skip) (λ r. f Skip r (inl refl)))
        (after_gives (next_in g p q (Some (Visit j i a)) Try) (λ r. f Try r (inr refl)))
    moves_give p q (Some (Asked j i a)) f =
        gives_and _ _ _ _ (after_gives (next_in g p q (Some (Asked j i a)) Grant) (λ r. f Grant r (inl refl)))
        (after_gives (next_in g p q (Some (Asked j i a)) Refuse) (λ r. f Refuse r (inr refl)))
    moves_give p q (Some (Branch m n)) f =
        gives_and _ _ _ _ (after_gives (next_in g p q (Some (Branch m n)) Left) (λ r. f Left r (inl refl)))
        (after_gives (next_in g p q (Some (Branch m n)) Right) (λ r. f Right r (inr refl)))
    moves_give p q (Some (Open j d n)) f =
        gives_and _ _ _ _ (after_gives (next_in g p q (Some (Open j d n)) Opened) (λ r. f Opened r (inl refl)))
        (after_gives (next_in g p q (Some (Open j d n)) Failed) (λ r. f Failed r (inr refl)))
    moves_give p q (Some (Step n)) f = after_gives (next_in g p q (Some (Step n)) On) (λ r. f On r (inl refl))
    moves_give p q (Some (Label j l n)) f = after_gives (next_in g p q (Some (Label j l n)) On) (λ r. f On r (inl refl))
    moves_give p q (Some (Close j d n)) f = after_gives (next_in g p q (Some (Close j d n)) On) (λ r. f On r (inl refl))
    moves_give p q (Some (Call j d n)) f = after_gives (next_in g p q (Some (Call j d n)) On) (λ r. f On r (inl refl))
    moves_give p q (Some (SplitCall j d n)) f = after_gives (next_in g p q (Some (SplitCall j d n)) On) (λ r. f On r (inl refl))
    moves_give p q (Some (Exit d)) f = after_gives (next_in g p q (Some (Exit d)) On) (λ r. f On r (inl refl))
    moves_give p q None f = after_gives (next_in g p q None On) (λ r. f On r (inl refl))

    exit_same : (p q : ℕ) (o : Option Spot) → is_exit_in o ≡ true → holds_in g h p q e o ≡ holds_in g h' p q e o
    exit_same p q (Some (Exit f)) k = refl
    exit_same p q None k = cc
    exit_same p q (Some _) k = cc

    -- what holds later at the pairs to which the moves lead gives what holds here
    pub in_gives : (p q : ℕ) (o : Option Spot) → is_call_in o ≡ false → Follows p q o → Gives (holds_in g h p q e o) (holds_in g h' p q e o)
    in_gives p q o plain f = by (bad_in g q o) refl (is_exit_in o) refl
      where
        by : (b : Bool) → bad_in g q o ≡ b → (x : Bool) → is_exit_in o ≡ x → Gives (holds_in g h p q e o) (holds_in g h' p q e o)
        by true b x k y = let z : true ≡ false = sym y ∙ bad_fails g h p q e o b in cc
        by false b true k y = sym (exit_same p q o k) ∙ y
        by false b false k y = sym (by_moves g h' p q e o b plain k) ∙ moves_give p q o f (by_moves g h p q e o b plain k ∙ y)

  -- .. and the same where that is the same
  pub in_same : (h h' : ℕ → ℕ → Promise → Bool) (p q : ℕ) (e : Promise) (o : Option Spot) → is_call_in o ≡ false
      → ((by : Move) (r : ℕ × ℕ) → IsMoveIn o by → next_in g p q o by ≡ Some r → h r.0 r.1 e ≡ h' r.0 r.1 e) → holds_in g h p q e o ≡ holds_in g h' p q e o
  in_same h h' p q e o plain f =
      same_bools (holds_in g h p q e o) (holds_in g h' p q e o) (in_gives h h' e p q o plain (λ by r is k y. sym (f by r is k) ∙ y)) (in_gives h' h e p q o plain (λ by r is k y. f by r is k ∙ y))

module _ (g : Game) (functions : ℕ) (routed : AreRouted g functions) where
  leads_state : (p q : ℕ) (o : Option Spot) (by : Move) (c : Config) → slice_get g.spots p ≡ o → bad_in g q o ≡ false → is_call_in o ≡ false → IsState g q → leads_in g p q [] o by ≡ Some c
      → IsState g c.state
  leads_state p q (Some (Visit j i a)) Skip c o b n s e = subst (λ (y : Config). IsState g y.state) (same_Some _ c e) s
  leads_state p q (Some (Visit j i a)) Try c o b n s e = subst (λ (y : Config). IsState g y.state) (same_Some _ c e) s
  leads_state p q (Some (Asked j i Split)) Grant c o b n s e = subst (λ (y : Config). IsState g y.state) (made (g.states.may_grant q Split) _ c e).1 s
  leads_state p q (Some (Asked j i Enter)) Grant c o b n s e =
      let m = made (g.states.may_grant q Enter) _ c e in subst (λ (y : Config). IsState g y.state) m.1 (routed.closed.granted p j i q Enter o m.0 s)
  leads_state p q (Some (Asked j i (Limit l))) Grant c o b n s e =
      let m = made (g.states.may_grant q (Limit l)) _ c e in subst (λ (y : Config). IsState g y.state) m.1 (routed.closed.granted p j i q (Limit l) o m.0 s)
  leads_state p q (Some (Asked j i a)) Refuse c o b n s e = subst (λ (y : Config). IsState g y.state) (made (refuses_in g q a) _ c e).1 s
  leads_state p q (Some (Step m)) On c o b n s e = subst (λ (y : Config). IsState g y.state) (same_Some _ c e) s
  leads_state p q (Some (Branch l m)) Left c o b n s e = subst (λ (y : Config). IsState g y.state) (same_Some _ c e) s
  leads_state p q (Some (Branch l m)) Right c o b n s e = subst (λ (y : Config). IsState g y.state) (same_Some _ c e) s
  leads_state p q (Some (Label j l m)) On c o b n s e = subst (λ (y : Config). IsState g y.state) (same_Some _ c e) (routed.closed.lettered p j l m q o b s)
  leads_state p q (Some (Open j d m)) Opened c o b n s e = subst (λ (y : Config). IsState g y.state) (same_Some _ c e) (routed.closed.opened p j d m q o s)
  leads_state p q (Some (Open j d m)) Failed c o b n s e = subst (λ (y : Config). IsState g y.state) (same_Some _ c e) (routed.closed.failed p j d m q o s)
  leads_state p q (Some (Close j d m)) On c o b n s e = subst (λ (y : Config). IsState g y.state) (same_Some _ c e) (routed.closed.closed p j d m q o s)
  leads_state p q (Some (Call j f m)) by c o b n s e = cc
  leads_state p q (Some (SplitCall j f m)) by c o b n s e = cc
  leads_state p q x by c o b n s e = absurd (none-some c e)

  -- a move leads to a cell of the same context
  pub next_cell : (contexts : List Context) (i : ℕ) (c : Context) (p q : ℕ) (by : Move) (r : ℕ × ℕ) → c.function < functions → IsCell g contexts i c p q → next_at g p q by ≡ Some r
      → IsCell g contexts i c r.0 r.1
  next_cell contexts i c p q by r below is e =
      let l = not_left (is_left_in g q (slice_get g.spots p)) (option_map pair_of (leads_in g p q [] (slice_get g.spots p) by)) r e in
      let m = mapped pair_of (leads_in g p q [] (slice_get g.spots p) by) r l.1 in
      let other = or_middle (bad_in g q (slice_get g.spots p)) (is_call_in (slice_get g.spots p)) (is_exit_in (slice_get g.spots p)) l.0 in
      let state : IsState g r.1 = subst (λ (y : ℕ × ℕ). IsState g y.1) m.2 (leads_state p q (slice_get g.spots p) by m.0 refl (neither (bad_in g q (slice_get g.spots p)) _ l.0) other is.state m.1) in
      record { at = is.at; of = routed.stays c.function p r.0 below is.of (next_target g p q (slice_get g.spots p) by r e); state = state }

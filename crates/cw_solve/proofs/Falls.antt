-- Holding falls with the number of moves, and looks at the states of a promise alone.
use Rattle.std.proofs.Common.{◌≡◌, ℕ, ◌<◌, ◌≤◌, Bool, true, false, ◌&&◌, Option, Some, None, refl, sym, ◌∙◌, subst, arith, tests}
use Rattle.std.specs.Prelude.{slice_get, nat_lt, Contains}
use Rattle.std.proofs.lemmas.Bool.{lt-ltb}
use Rattle.std.proofs.lemmas.Option.{same_Some}
use Rattle.std.specs.Cmp.{both_ways as same_bools}
use Rattle.cw_game.specs.declared.spots.Spot.{Spot}
use Rattle.cw_core.proofs.Sets.{same_from_members}
use Rattle.cw_core.specs.StateSet.{has as has_member}
use Rattle.cw_game.specs.declared.spots.Spot.TheVariants.{Call, SplitCall}
use Rattle.cw_game.specs.Games.{Game, returned, Promise, Holds}
use Rattle.cw_game.specs.Pairs.{has, Called, call_in, call_spot, kept_at}
use Rattle.cw_game.proofs.Holding.{holds_rises, lost_rises}
use Rattle.cw_product.specs.Routed.{IsState, targets, AreRouted, IsOf}
use Rattle.cw_solve.specs.Contexts.{IsSetOf}

-- what stands where there is a call
pub call_is : (o : Option Spot) (call : Called) → call_in o ≡ Some call → o ≡ Some (call_spot call.split call.seam call.function call.back)
call_is (Some (Call j f n)) call e = let h : record { seam = j; function = f; back = n; split = false } ≡ call = same_Some _ _ e in
    subst (λ (c : Called). Some (Call j f n) ≡ Some (call_spot c.split c.seam c.function c.back)) h refl
call_is (Some (SplitCall j f n)) call e = let h : record { seam = j; function = f; back = n; split = true } ≡ call = same_Some _ _ e in
    subst (λ (c : Called). Some (SplitCall j f n) ≡ Some (call_spot c.split c.seam c.function c.back)) h refl
call_is None call e = cc
call_is (Some _) call e = cc

-- on the states
abbrev pub AreSame : Game → Promise → Promise → Type 0
AreSame g e e' = (x : ℕ) → IsState g x → e x ≡ e' x

module _ (g : Game) (functions : ℕ) (routed : AreRouted g functions) where
  pub sooner : (m n p q : ℕ) (e : Promise) → m ≤ n → IsState g q → Holds g n p q e ≡ true → Holds g m p q e ≡ true
  sooner m n p q e le s h = holds_rises g (IsState g) routed.closed m n p q e e le s (λ x t y. y) h

  pub later : (m n p q : ℕ) (e : Promise) → m ≤ n → IsState g q → Holds g m p q e ≡ false → Holds g n p q e ≡ false
  later m n p q e le s h = lost_rises g (IsState g) routed.closed m n p q e e le s (λ x t y. y) h

  -- only the states of a promise count
  pub holds_same : (n p q : ℕ) (e e' : Promise) → IsState g q → AreSame g e e' → Holds g n p q e ≡ Holds g n p q e'
  holds_same n p q e e' s w =
      same_bools (Holds g n p q e) (Holds g n p q e')
      (holds_rises g (IsState g) routed.closed n n p q e e' (omega arith) s (λ x t y. sym (w x t) ∙ y))
      (holds_rises g (IsState g) routed.closed n n p q e' e (omega arith) s (λ x t y. w x t ∙ y))

  -- the state after a return
  pub return_state : (p x q : ℕ) (call : Called) → call_in (slice_get g.spots p) ≡ Some call → IsState g x → IsState g q → IsState g (returned g.states (kept_at call.split q) x)
  return_state p x q call es s t = by call.split (call_is (slice_get g.spots p) call es)
    where
      by : (split : Bool) → slice_get g.spots p ≡ Some (call_spot split call.seam call.function call.back) → IsState g (returned g.states (kept_at split q) x)
      by true o = routed.closed.returned p call.seam call.function call.back x q o s t
      by false o = s

  -- where a call returns is a position of its function
  pub back_stays : (f p : ℕ) (call : Called) → f < functions → IsOf g f p → call_in (slice_get g.spots p) ≡ Some call → IsOf g f call.back
  back_stays f p call below is es = routed.stays f p call.back below is (by call.split (call_is (slice_get g.spots p) call es))
    where
      by : (split : Bool) → slice_get g.spots p ≡ Some (call_spot split call.seam call.function call.back) → Contains (targets p (slice_get g.spots p)) call.back
      by true o = rw o (0, omega arith, refl)
      by false o = rw o (0, omega arith, refl)

-- a member of the number of a promise is a state that is promised
pub member_is : (g : Game) (set : ℕ) (e : Promise) → IsSetOf g set e → (x : ℕ) → IsState g x → has set x ≡ e x
member_is g set e is x s = let lt : nat_lt x g.states.count ≡ true = lt-ltb x g.states.count s in is x ∙ rw lt refl

-- promises that are the same on the states have the same number
pub set_as : (g : Game) (set : ℕ) (e e' : Promise) → IsSetOf g set e → AreSame g e e' → IsSetOf g set e'
set_as g set e e' is w x = is x ∙ by (nat_lt x g.states.count) refl
  where
    by : (lt : Bool) → nat_lt x g.states.count ≡ lt → (lt && e x) ≡ (lt && e' x)
    by true h = w x (search (tests, h))
    by false h = refl

-- two numbers of one promise are one
pub set_is : (g : Game) (a b : ℕ) (e e' : Promise) → IsSetOf g a e → IsSetOf g b e' → AreSame g e e' → a ≡ b
unfolding has_member
set_is g a b e e' s t w = same_from_members a b (λ x. set_as g a e e' s w x ∙ sym (t x))

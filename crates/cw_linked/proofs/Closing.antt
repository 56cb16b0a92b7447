-- What is left to do is done: a cell or a link that was asked for at what is known of it waits as it should.
use Rattle.std.proofs.Common.{◌≡◌, ℕ, zero, suc, ◌+◌, ◌*◌, ◌<◌, ◌≤◌, List, Bool, true, false, Some, refl, sym, ap, ◌∙◌, subst, arith, inl, inr}
use Rattle.std.specs.Prelude.{◌⊎◌, slice_get, nat_eq, nat_lt}
use Rattle.std.proofs.lemmas.Bool.{cases_lt, le-ltb, ne_eqb, or_from}
use Rattle.std.proofs.lemmas.Option.{same_Some}
use Rattle.cw_game.specs.Games.{Game, returned, Holds}
use Rattle.cw_game.specs.Pairs.{has, Called, call_in, is_call_in, kept_at}
use Rattle.cw_solve.specs.declared.contexts.Context.{Context}
use Rattle.cw_solve.specs.Contexts.{promise_at}
use Rattle.cw_product.specs.Routed.{AreRouted}
use Rattle.cw_solve.specs.Rounds.{IsCell, holds_by}
use Rattle.cw_solve.proofs.Falls.{member_is}
use Rattle.cw_lemmas.proofs.Truths.{not_both}
use Rattle.cw_linked.specs.Founds.{Found, class_of, AreAlike, IsLink, IsTied, height_back, GoesTo, AreRight, Waits, IsClosed, IsCalled, IsStanding}
use Rattle.cw_linked.specs.Steps.{IsBound}
use Rattle.cw_linked.proofs.Least.{tells_none, tells_above}
use Rattle.cw_linked.proofs.Losing.{implied_lost}

-- a bound that tells that a pair is lost is there, and no higher
pub bound_within : (n b : ℕ) → holds_by n b ≡ false → (0 < b) × (b ≤ n)
bound_within n b lost =
    elim (cases_lt 0 b) [
      | inr z ↦ absurd (not_both (holds_by n b) (tells_none n b (omega (arith, z))) lost)
      | inl some ↦ elim (cases_lt n b) [
        | inl above ↦ absurd (not_both (holds_by n b) (tells_above n b above) lost)
        | inr le ↦ (some, le)
      ]
    ]

pub bound_lost : (n b : ℕ) → 0 < b → b ≤ n → holds_by n b ≡ false
bound_lost n zero some le = absurd (omega (arith, some))
bound_lost n (suc b) some le = or_from (nat_eq (suc b) 0) (nat_lt n (suc b)) (ne_eqb (suc b) 0 (λ e. omega (arith, e))) (le-ltb n (suc b) le)

module _ (g : Game) (functions : ℕ) (routed : AreRouted g functions) (alike : AreAlike g) (contexts : List Context)
    (below : (i : ℕ) (c : Context) → slice_get contexts i ≡ Some c → c.function < functions) (s : Found) where
  -- where the taken heights tell nothing, nothing is left to do
  pub closed_untold : (i : ℕ) (c : Context) (p q : ℕ) → IsBound g s.height i p q c.promise 0 → IsClosed g s i c p q
  closed_untold i c p q is none plain n lost =
      let w = bound_within (suc n) 0 (is n ∙ lost) in absurd (omega (arith, w.0))

  -- and where they tell a bound, the cell is asked for
  pub closed_asked : (i : ℕ) (c : Context) (p q b : ℕ) → IsBound g s.height i p q c.promise b → (s.height i p q ≡ 0 → Waits (s.asked i p q) (2 * b)) → IsClosed g s i c p q
  closed_asked i c p q b is asked none plain n lost =
      let w = bound_within (suc n) b (is n ∙ lost) in
      let a = asked none in
      (a.0, omega (arith, a.1, w.1))

  -- which is right
  pub bound_is_lost : AreRight g contexts s → (i : ℕ) (c : Context) (p q b : ℕ) → IsCell g contexts i c p q → is_call_in (slice_get g.spots p) ≡ false → IsBound g s.height i p q c.promise b → 0 < b
      → Holds g b p q (has c.promise) ≡ false
  bound_is_lost right i c p q zero is plain bound some = absurd (omega (arith, some))
  bound_is_lost right i c p q (suc b) is plain bound some =
      implied_lost g functions routed alike contexts below s right b i c p q is plain (sym (bound b) ∙ bound_lost (suc b) (suc b) some (omega arith))

  -- a call whose callee's height and whose link's number of moves are within a number is asked for
  pub called_asked : (i : ℕ) (c : Context) (p q : ℕ) (call : Called) (most : ℕ) → call_in (slice_get g.spots p) ≡ Some call
      → (s.wave i p (class_of g call.split q) ≡ most) ⊎ (s.height (s.to i p (class_of g call.split q)) (g.entry call.function) q ≡ most)
      → (s.height i p q ≡ 0 → Waits (s.asked i p q) (2 * (most + 1))) → IsCalled g s i p q
  called_asked i c p q call most es is asked other fs =
      subst (λ (y : Called). IsTied s i p (class_of g y.split q) → s.height i p q ≡ 0
      → (m : ℕ) → s.wave i p (class_of g y.split q) ≤ m → 0 < s.height (s.to i p (class_of g y.split q)) (g.entry y.function) q
      → s.height (s.to i p (class_of g y.split q)) (g.entry y.function) q ≤ m → Waits (s.asked i p q) (2 * m + 2)) (same_Some call other (sym es ∙ fs))
      (λ tied none m wave some within. let a = asked none in elim is [
        | inl e ↦ (a.0, omega (arith, a.1, e, wave))
        | inr e ↦ (a.0, omega (arith, a.1, e, within))
      ])

  -- a call whose callee isn't lost isn't asked for
  pub called_none : (i : ℕ) (p q : ℕ) (call : Called) → call_in (slice_get g.spots p) ≡ Some call → s.height (s.to i p (class_of g call.split q)) (g.entry call.function) q ≡ 0 → IsCalled g s i p q
  called_none i p q call es none other fs =
      subst (λ (y : Called). IsTied s i p (class_of g y.split q) → s.height i p q ≡ 0
      → (m : ℕ) → s.wave i p (class_of g y.split q) ≤ m → 0 < s.height (s.to i p (class_of g y.split q)) (g.entry y.function) q
      → s.height (s.to i p (class_of g y.split q)) (g.entry y.function) q ≤ m → Waits (s.asked i p q) (2 * m + 2)) (same_Some call other (sym es ∙ fs))
      (λ tied zero_is m wave some within. absurd (omega (arith, some, none)))

  -- The states that return to one pair are in a promise together.
  pub returns_alike : AreRight g contexts s → (i : ℕ) (c : Context) (p k : ℕ) (call : Called) → IsLink g contexts i c p k call → IsTied s i p k → (set : ℕ) → GoesTo contexts s i p k call set
      → (x y : ℕ) → x < g.states.count → y < g.states.count → returned g.states (kept_at call.split k) x ≡ returned g.states (kept_at call.split k) y → has set x ≡ has set y
  returns_alike right i c p k call is t set goes x y lx ly same =
      let l = right.linked i c p k call is t in
      let e : l.0 ≡ set = ap (λ (d : Context). d.promise) (same_Some _ _ (sym l.1 ∙ goes)) in
      let promise = promise_at g (s.wave i p k) call.back (kept_at call.split k) c.promise in
      subst (λ (z : ℕ). has z x ≡ has z y) e
      (member_is g l.0 promise l.2 x lx ∙ ap (λ (z : ℕ). Holds g (s.wave i p k) call.back z (has c.promise)) same ∙ sym (member_is g l.0 promise l.2 y ly))

  -- The link of a call that returns to a pair from a state is that of the pair's own state, which returns there itself.
  pub own_link : (split : Bool) (k x q : ℕ) → x < g.states.count → k < g.states.count → q < g.states.count → class_of g split k ≡ k → returned g.states (kept_at split k) x ≡ q
      → (class_of g split q ≡ k) × (returned g.states (kept_at split k) q ≡ q)
  own_link false k x q lx lk lq class e = (class, refl)
  own_link true k x q lx lk lq class e =
      let mine : g.states.with_rights 0 q ≡ k = ap (λ (y : ℕ). g.states.with_rights 0 y) (sym e) ∙ alike.same 0 x k routed.some lx lk ∙ class in
      (mine, ap (λ (y : ℕ). g.states.with_rights q y) (sym mine) ∙ alike.same q 0 q lq routed.some lq ∙ alike.own q lq)

  -- A link that was asked for at the pair to which its states return stands, and so does one whose promise hasn't the pair's own state.
  pub standing_asked : AreRight g contexts s → (i : ℕ) (c : Context) (p k : ℕ) (call : Called) → IsLink g contexts i c p k call → (q n : ℕ) → q < g.states.count → s.height i call.back q ≡ n
      → ((set : ℕ) → IsTied s i p k → GoesTo contexts s i p k call set → has set q ≡ true → Waits (s.due i p k) (2 * n + 1))
      → (x : ℕ) → x < g.states.count → returned g.states (kept_at call.split k) x ≡ q → IsStanding g contexts s i p k call x
  standing_asked right i c p k call is q n lq height asked x lx returns tied set goes member some =
      let own = own_link call.split k x q lx is.cell.state lq is.class returns in
      let same = returns_alike right i c p k call is tied set goes x q lx lq (returns ∙ sym own.1) in
      let e : height_back g s i call k x ≡ n = ap (λ (y : ℕ). s.height i call.back y) returns ∙ height in
      let w = asked set tied goes (sym same ∙ member) in
      (w.0, omega (arith, w.1, e))

-- Where a round changes nothing and asks for nothing new, no later one would: so what is written are the heights, and the tabled contexts are all that
-- are needed.
use Rattle.std.proofs.Common.{◌≡◌, ℕ, zero, suc, ◌+◌, ◌-◌, ◌<◌, ◌≤◌, List, [], ◌∷◌, Bool, true, false, not, ◌&&◌, ◌||◌, Option, Some, None, refl, sym, ap, ap₂, ◌∙◌, subst, arith, inl, inr}
use Rattle.std.specs.Prelude.{slice_get, Contains}
use Rattle.std.proofs.lemmas.Bool.{cases_lt}
use Rattle.std.proofs.lemmas.Option.{slice_get-get_or}
use Rattle.cw_rights.specs.declared.capabilities.Primitive.TheVariants.{Split}
use Rattle.cw_game.specs.declared.spots.Spot.{Spot}
use Rattle.cw_game.specs.declared.spots.Spot.TheVariants.{Visit, Asked, Step, Branch, Label, Open, Close, Call, SplitCall, Exit}
use Rattle.cw_game.specs.Games.{Game, refuses_in, returned, Promise, holds_in, Holds}
use Rattle.cw_game.specs.Pairs.{has, all_states, Called, call_in, is_call_in, call_spot, kept_at}
use Rattle.cw_solve.specs.declared.contexts.Context.{Context}
use Rattle.cw_solve.specs.Contexts.{context, promise_at, IsNeeded, of_main, of_call}
use Rattle.cw_product.specs.Routed.{IsState, targets, AreRouted}
use Rattle.cw_solve.specs.Rounds.{IsCell, IsAsked, WereAsked}
use Rattle.cw_solve.proofs.Falls.{call_is, holds_same, return_state, back_stays, member_is, set_as, set_is}

same_where : (yes a b : Bool) → (yes ≡ true → a ≡ b) → (not yes || a) ≡ (not yes || b)
same_where true a b f = f refl
same_where false a b f = refl

same_unless : (yes a b : Bool) → (yes ≡ false → a ≡ b) → (not yes && a) ≡ (not yes && b)
same_unless true a b f = refl
same_unless false a b f = f refl

pub first_of_two : (a b : ℕ) → Contains (a ∷ b ∷ []) a
first_of_two a b = (0, omega arith, refl)

pub second_of_two : (a b : ℕ) → Contains (a ∷ b ∷ []) b
second_of_two a b = (1, omega arith, refl)

pub only : (a : ℕ) → Contains (a ∷ []) a
only a = (0, omega arith, refl)

-- a context that is tabled has a number
pub number_of : (contexts : List Context) (c : Context) → Contains contexts c → (i : ℕ) × (slice_get contexts i ≡ Some c)
number_of contexts c h = (h.0, slice_get-get_or contexts h.0 c h.1 ∙ ap (λ y. Some y) h.2)

-- where what a call promises for any number of moves is tabled, each needed context is
module _ (g : Game) (contexts : List Context) (asked : (m i : ℕ) (c : Context) (p q : ℕ) → IsCell g contexts i c p q → IsAsked g contexts m p q c.promise)
    (main : Contains contexts (context g.main (all_states g))) where
  pub needed_tabled : (c : Context) → IsNeeded g c → Contains contexts c
  needed_tabled _ of_main = main
  needed_tabled _ (of_call c m p q set call need of s es is) =
      let i = number_of contexts c (needed_tabled c need) in
      let a = asked m i.0 c p q (record { at = i.1; of = of; state = s }) call es in
      let e : a.0 ≡ set = set_is g a.0 set (promise_at g m call.back (kept_at call.split q) c.promise) (promise_at g m call.back (kept_at call.split q) c.promise) a.2 is (λ x u. refl) in
      subst (λ (y : ℕ). Contains contexts (context call.function y)) e a.1

module _ (g : Game) (functions : ℕ) (routed : AreRouted g functions) where
  abbrev Agree : (ℕ → ℕ → Promise → Bool) → (ℕ → ℕ → Promise → Bool) → List ℕ → Promise → Type 0
  Agree h h' to e = (r x : ℕ) → Contains to r → IsState g x → h r x e ≡ h' r x e

  -- what holds where no call is depends on the pairs of the same function alone
  pub same_in : (h h' : ℕ → ℕ → Promise → Bool) (p q : ℕ) (e : Promise) → IsState g q → (o : Option Spot) → slice_get g.spots p ≡ o → is_call_in o ≡ false → Agree h h' (targets p o) e
      → holds_in g h p q e o ≡ holds_in g h' p q e o
  same_in h h' p q e s None es k to = refl
  same_in h h' p q e s (Some (Visit j i a)) es k to = ap₂ (λ y z. y || z) (to (p + 2) q (first_of_two (p + 2) (p + 1)) s) (to (p + 1) q (second_of_two (p + 2) (p + 1)) s)
  same_in h h' p q e s (Some (Asked j i Split)) es k to =
      ap₂ (λ y z. y && z) (ap (λ y. not (g.states.may_grant q Split) || y) (to (p + 2) q (first_of_two (p + 2) (p + 1)) s))
      (ap (λ y. not (refuses_in g q Split) || y) (to (p + 1) q (second_of_two (p + 2) (p + 1)) s))
  same_in h h' p q e s (Some (Asked j i a)) es k to =
      ap₂ (λ y z. y && z)
      (same_where (g.states.may_grant q a) (h (p + 1) (g.states.granted q a) e) (h' (p + 1) (g.states.granted q a) e)
      (λ y. to (p + 1) (g.states.granted q a) (only (p + 1)) (routed.closed.granted p j i q a es y s)))
      (ap (λ y. not (refuses_in g q a) || y) (to (p + 1) q (only (p + 1)) s))
  same_in h h' p q e s (Some (Step n)) es k to = to n q (only n) s
  same_in h h' p q e s (Some (Branch m n)) es k to = ap₂ (λ y z. y && z) (to m q (first_of_two m n) s) (to n q (second_of_two m n) s)
  same_in h h' p q e s (Some (Label j l n)) es k to =
      same_unless (g.states.bad q l) (h n (g.states.lettered q l) e) (h' n (g.states.lettered q l) e) (λ y. to n (g.states.lettered q l) (only n) (routed.closed.lettered p j l n q es y s))
  same_in h h' p q e s (Some (Open j d n)) es k to =
      ap₂ (λ y z. y && z) (to n (g.states.opened q d) (only n) (routed.closed.opened p j d n q es s)) (to n (g.states.closed q d) (only n) (routed.closed.failed p j d n q es s))
  same_in h h' p q e s (Some (Close j d n)) es k to = to n (g.states.closed q d) (only n) (routed.closed.closed p j d n q es s)
  same_in h h' p q e s (Some (Call j f n)) es k to = cc
  same_in h h' p q e s (Some (SplitCall j f n)) es k to = cc
  same_in h h' p q e s (Some (Exit f)) es k to = refl

  -- what holds at a call
  pub holds_call : (h : ℕ → ℕ → Promise → Bool) (p q : ℕ) (e : Promise) (call : Called) → call_in (slice_get g.spots p) ≡ Some call
      → holds_in g h p q e (slice_get g.spots p) ≡ h (g.entry call.function) q (λ x. h call.back (returned g.states (kept_at call.split q) x) e)
  holds_call h p q e call es = by call.split (call_is (slice_get g.spots p) call es)
    where
      by : (split : Bool) → slice_get g.spots p ≡ Some (call_spot split call.seam call.function call.back)
          → holds_in g h p q e (slice_get g.spots p) ≡ h (g.entry call.function) q (λ x. h call.back (returned g.states (kept_at split q) x) e)
      by true o = ap (holds_in g h p q e) o
      by false o = ap (holds_in g h p q e) o

  -- the position is a call or isn't
  pub call_or_not : {P : Type 0} (o : Option Spot) → ((call : Called) → call_in o ≡ Some call → P) → (is_call_in o ≡ false → P) → P
  call_or_not (Some (Call j f n)) here other = here (record { seam = j; function = f; back = n; split = false }) refl
  call_or_not (Some (SplitCall j f n)) here other = here (record { seam = j; function = f; back = n; split = true }) refl
  call_or_not None here other = other refl
  call_or_not (Some (Visit j i a)) here other = other refl
  call_or_not (Some (Asked j i a)) here other = other refl
  call_or_not (Some (Step n)) here other = other refl
  call_or_not (Some (Branch m n)) here other = other refl
  call_or_not (Some (Label j l n)) here other = other refl
  call_or_not (Some (Open j d n)) here other = other refl
  call_or_not (Some (Close j d n)) here other = other refl
  call_or_not (Some (Exit f)) here other = other refl

  -- a cell of the called function where it begins
  pub entry_cell : (contexts : List Context) (p q set : ℕ) (call : Called) → call_in (slice_get g.spots p) ≡ Some call → IsState g q → (i : ℕ) → slice_get contexts i ≡ Some (context call.function set)
      → IsCell g contexts i (context call.function set) (g.entry call.function) q
  entry_cell contexts p q set call es s i at = record { at = at; of = (omega arith, (routed.called p call es).begins); state = s }

  module _ (contexts : List Context) (n : ℕ) (below : (i : ℕ) (c : Context) → slice_get contexts i ≡ Some c → c.function < functions)
      (stands : (i : ℕ) (c : Context) (p q : ℕ) → IsCell g contexts i c p q → Holds g (suc n) p q (has c.promise) ≡ Holds g n p q (has c.promise))
      (asked : (i : ℕ) (c : Context) (p q : ℕ) → IsCell g contexts i c p q → IsAsked g contexts n p q c.promise) where
    abbrev IsStill : ℕ → Type 0
    IsStill d = (i : ℕ) (c : Context) (p q : ℕ) → IsCell g contexts i c p q → Holds g (n + d) p q (has c.promise) ≡ Holds g n p q (has c.promise)

    -- one round more, where a call is
    at_call : (d : ℕ) → IsStill d → (i : ℕ) (c : Context) (p q : ℕ) → IsCell g contexts i c p q → (call : Called) → call_in (slice_get g.spots p) ≡ Some call
        → Holds g (suc (n + d)) p q (has c.promise) ≡ Holds g (suc n) p q (has c.promise)
    at_call d ih i c p q is call es =
        let a = asked i c p q is call es in
        let j = number_of contexts (context call.function a.0) a.1 in
        let there = entry_cell contexts p q a.0 call es is.state j.0 j.1 in
        let promised : ℕ → Promise = λ m. promise_at g m call.back (kept_at call.split q) c.promise in
        let back : (x : ℕ) → IsState g x → promised (n + d) x ≡ promised n x
        = λ x s. ih i c call.back (returned g.states (kept_at call.split q) x) (record {
          at = is.at;
          of = back_stays g functions routed c.function p call
              (below i c is.at) is.of es;
          state = return_state g functions routed p x q call es s is.state;
        }) in
        let set : (x : ℕ) → IsState g x → promised n x ≡ has a.0 x = λ x s. sym (member_is g a.0 (promised n) a.2 x s) in
        holds_call (Holds g (n + d)) p q (has c.promise) call es
        ∙ holds_same g functions routed (n + d) (g.entry call.function) q (promised (n + d)) (has a.0) is.state (λ x s. back x s ∙ set x s)
        ∙ ih j.0 (context call.function a.0) (g.entry call.function) q there
        ∙ holds_same g functions routed n (g.entry call.function) q (has a.0) (promised n) is.state (λ x s. sym (set x s))
        ∙ sym (holds_call (Holds g n) p q (has c.promise) call es)

    elsewhere : (d : ℕ) → IsStill d → (i : ℕ) (c : Context) (p q : ℕ) → IsCell g contexts i c p q → is_call_in (slice_get g.spots p) ≡ false
        → Holds g (suc (n + d)) p q (has c.promise) ≡ Holds g (suc n) p q (has c.promise)
    elsewhere d ih i c p q is k =
        same_in (Holds g (n + d)) (Holds g n) p q (has c.promise) is.state (slice_get g.spots p) refl k
        (λ r x to s. ih i c r x (record { at = is.at; of = routed.stays c.function p r (below i c is.at) is.of to; state = s }))

    pub still : (d : ℕ) → IsStill d
    still zero i c p q is = let e : n + 0 ≡ n = omega arith in rw e refl
    still (suc d) i c p q is =
        let e : n + suc d ≡ suc (n + d) = omega arith in
        rw e (call_or_not (slice_get g.spots p) (λ call es. at_call d (still d) i c p q is call es) (λ k. elsewhere d (still d) i c p q is k) ∙ stands i c p q is)

    pub still_at : (m : ℕ) → n ≤ m → (i : ℕ) (c : Context) (p q : ℕ) → IsCell g contexts i c p q → Holds g m p q (has c.promise) ≡ Holds g n p q (has c.promise)
    still_at m le i c p q is = let e : m ≡ n + (m - n) = omega (arith, le) in rw e (still (m - n) i c p q is)

    -- what a call promises for any number of moves is tabled
    pub always_asked : WereAsked g contexts n → (m i : ℕ) (c : Context) (p q : ℕ) → IsCell g contexts i c p q → IsAsked g contexts m p q c.promise
    always_asked were m i c p q is call es =
        elim (cases_lt m n) [
          | inl lt ↦ were.each m i c p q lt is call es
          | inr le ↦
              let a = asked i c p q is call es in (
                a.0,
                a.1,
                set_as g a.0 (promise_at g n call.back (kept_at call.split q) c.promise) (promise_at g m call.back (kept_at call.split q) c.promise) a.2
                    (λ x s. sym (still_at m le i c call.back (returned g.states (kept_at call.split q) x)
                    (record { at = is.at; of = back_stays g functions routed c.function p call (below i c is.at) is.of es; state = return_state g functions routed p x q call es s is.state }))),
              )
        ]

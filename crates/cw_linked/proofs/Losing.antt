-- What is asked for is lost: what taken heights tell of a cell is so.
use Rattle.std.proofs.Common.{◌≡◌, ℕ, suc, ◌<◌, ◌≤◌, List, true, false, Some, ◌∙◌, arith, inl, inr}
use Rattle.std.specs.Prelude.{slice_get}
use Rattle.std.proofs.lemmas.Bool.{cases_lt}
use Rattle.cw_game.specs.Games.{Game, returned, holds_in, Holds}
use Rattle.cw_game.specs.Pairs.{has, Called, call_in, is_call_in, kept_at}
use Rattle.cw_game.proofs.Holding.{lost_rises}
use Rattle.cw_solve.specs.declared.contexts.Context.{Context}
use Rattle.cw_solve.specs.Contexts.{context, promise_at}
use Rattle.cw_product.specs.Routed.{IsState, AreRouted}
use Rattle.cw_solve.specs.Rounds.{IsCell, holds_by}
use Rattle.cw_solve.proofs.Falls.{sooner, member_is}
use Rattle.cw_lemmas.proofs.Truths.{not_both}
use Rattle.cw_solve.proofs.Still.{entry_cell}
use Rattle.cw_linked.specs.Founds.{Found, class_of, AreAlike, IsTied, AreRight, tells}
use Rattle.cw_linked.proofs.Leading.{in_gives, next_cell}
use Rattle.cw_linked.proofs.Least.{tells_none, link_of, back_of, call_holds, taken_reads}
use Rattle.std.proofs.lemmas.Bool.{false_from_ne_true as false_of}

module _ (g : Game) (functions : ℕ) (routed : AreRouted g functions) (alike : AreAlike g) (contexts : List Context)
    (below : (i : ℕ) (c : Context) → slice_get contexts i ≡ Some c → c.function < functions) (s : Found) (right : AreRight g contexts s) where
  -- a pair that holds isn't told to be lost
  tells_of : (n i : ℕ) (c : Context) (p q : ℕ) → IsCell g contexts i c p q → Holds g n p q (has c.promise) ≡ true → holds_by n (s.height i p q) ≡ true
  tells_of n i c p q is holds =
      elim (cases_lt 0 (s.height i p q)) [
        | inl some ↦ taken_reads g functions routed alike contexts below s right n i c p q is some ∙ holds
        | inr z ↦ tells_none n (s.height i p q) (omega (arith, z))
      ]

  -- where no call is
  pub implied_lost : (n i : ℕ) (c : Context) (p q : ℕ) → IsCell g contexts i c p q → is_call_in (slice_get g.spots p) ≡ false
      → holds_in g (tells s i n) p q (has c.promise) (slice_get g.spots p) ≡ false → Holds g (suc n) p q (has c.promise) ≡ false
  implied_lost n i c p q is plain lost =
      false_of (Holds g (suc n) p q (has c.promise)) (λ holds.
      not_both (holds_in g (tells s i n) p q (has c.promise) (slice_get g.spots p))
      (in_gives g (Holds g n) (tells s i n) (has c.promise) p q (slice_get g.spots p) plain
      (λ by r m e y. tells_of n i c r.0 r.1 (next_cell g functions routed contexts i c p q by r (below i c is.at) is e) y) holds)
      lost)

  -- where a call is whose callee is lost
  pub call_lost : (n i : ℕ) (c : Context) (p q : ℕ) (call : Called) → IsCell g contexts i c p q → call_in (slice_get g.spots p) ≡ Some call → IsTied s i p (class_of g call.split q)
      → s.wave i p (class_of g call.split q) ≤ n → 0 < s.height (s.to i p (class_of g call.split q)) (g.entry call.function) q
      → s.height (s.to i p (class_of g call.split q)) (g.entry call.function) q ≤ n → Holds g (suc n) p q (has c.promise) ≡ false
  call_lost n i c p q call is es t wave some within =
      let k = class_of g call.split q in
      let link = link_of g functions routed alike contexts below i c p q call is es in
      let l = right.linked i c p k call link t in
      let entry = entry_cell g functions routed contexts p q l.0 call es is.state (s.to i p k) l.1 in
      let high = right.taken (s.to i p k) (context call.function l.0) (g.entry call.function) q entry some in
      call_holds g functions routed alike contexts below n i c p q call is es
      ∙ lost_rises g (IsState g) routed.closed (s.height (s.to i p k) (g.entry call.function) q) n (g.entry call.function) q
      (promise_at g n call.back (kept_at call.split k) c.promise) (has l.0) within is.state
      (λ x u y. member_is g l.0 (promise_at g (s.wave i p k) call.back (kept_at call.split k) c.promise) l.2 x u
      ∙ sooner g functions routed (s.wave i p k) n call.back (returned g.states (kept_at call.split k) x) (has c.promise) wave
      (back_of g functions routed alike contexts below i c p k call x link u).state y)
      high.lost

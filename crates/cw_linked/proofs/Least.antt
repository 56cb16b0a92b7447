-- The one lemma: where nothing waits under a key below some number, the taken heights tell what holds for half as many moves.
use Rattle.std.proofs.Common.{◌≡◌, ℕ, zero, suc, ◌+◌, ◌*◌, ◌<◌, List, Bool, true, false, Some, refl, sym, ap, ◌∙◌, arith, inl, inr}
use Rattle.std.specs.Prelude.{◌⊎◌, slice_get, nat_lt, nat_eq}
use Rattle.std.proofs.lemmas.Bool.{cases_lt, lt-ltb, or_right}
use Rattle.cw_game.specs.Games.{Game, returned, holds_in, Holds}
use Rattle.cw_game.specs.Pairs.{has, Called, call_in, is_call_in, kept_at}
use Rattle.cw_game.proofs.Holding.{holds_rises}
use Rattle.cw_solve.specs.declared.contexts.Context.{Context}
use Rattle.cw_solve.specs.Contexts.{context, promise_at}
use Rattle.cw_product.specs.Routed.{IsState, AreRouted}
use Rattle.cw_solve.specs.Rounds.{IsCell, holds_by}
use Rattle.cw_solve.proofs.Falls.{sooner, holds_same, return_state, back_stays}
use Rattle.cw_solve.proofs.Still.{holds_call, call_or_not, entry_cell}
use Rattle.cw_solve.proofs.Written.{reads}
use Rattle.cw_linked.specs.Founds.{Found, class_of, AreAlike, IsLink, IsTied, height_back, GoesTo, AreRight, tells, IsClosed, IsCalled, AreFound, AreAbove}
use Rattle.cw_linked.proofs.Leading.{in_same, next_cell}
use Rattle.std.proofs.lemmas.Bool.{true_from_ne_false as true_of}

-- what stands where nothing is left to do
pub all_of : (A : Type 0) → A ⊎ ⊥ → A
all_of A (inl a) = a
all_of A (inr n) = absurd n

-- no height, or one above, says that the pair holds
pub tells_none : (n k : ℕ) → k ≡ 0 → holds_by n k ≡ true
tells_none n k e = rw e refl

pub tells_above : (n k : ℕ) → n < k → holds_by n k ≡ true
tells_above n k lt = or_right (nat_eq k 0) (nat_lt n k) (lt-ltb n k lt)

module _ (g : Game) (functions : ℕ) (routed : AreRouted g functions) (alike : AreAlike g) where
  -- the class of a state is a state, its own class, and returns as the state does
  pub class_state : (p q : ℕ) (call : Called) → call_in (slice_get g.spots p) ≡ Some call → IsState g q → IsState g (class_of g call.split q)
  class_state p q call es s = return_state g functions routed p 0 q call es routed.some s

  class_returns : (split : Bool) (q x : ℕ) → IsState g q → IsState g x → returned g.states (kept_at split (class_of g split q)) x ≡ returned g.states (kept_at split q) x
  class_returns true q x s t = alike.same x 0 q t routed.some s
  class_returns false q x s t = refl

  pub class_is : (split : Bool) (q : ℕ) → IsState g q → class_of g split (class_of g split q) ≡ class_of g split q
  class_is split q s = class_returns split q 0 s routed.some

  pub same_promise : (n back q : ℕ) (split : Bool) (e : ℕ) → IsState g q → (x : ℕ) → IsState g x
      → promise_at g n back (kept_at split (class_of g split q)) e x ≡ promise_at g n back (kept_at split q) e x
  same_promise n back q split e s x t = ap (λ y. Holds g n back y (has e)) (class_returns split q x s t)

  module _ (contexts : List Context) (below : (i : ℕ) (c : Context) → slice_get contexts i ≡ Some c → c.function < functions) where
    -- the link of a call's cell
    pub link_of : (i : ℕ) (c : Context) (p q : ℕ) (call : Called) → IsCell g contexts i c p q → call_in (slice_get g.spots p) ≡ Some call → IsLink g contexts i c p (class_of g call.split q) call
    link_of i c p q call is es = record {
      cell = record { at = is.at; of = is.of; state = class_state p q call es is.state };
      calls = es;
      class = class_is call.split q is.state;
    }

    -- the cell to which a link's call returns
    pub back_of : (i : ℕ) (c : Context) (p k : ℕ) (call : Called) (x : ℕ) → IsLink g contexts i c p k call → IsState g x
        → IsCell g contexts i c call.back (returned g.states (kept_at call.split k) x)
    back_of i c p k call x is s = record {
      at = is.cell.at;
      of = back_stays g functions routed c.function p call (below i c is.cell.at) is.cell.of is.calls;
      state = return_state g functions routed p x k call is.calls s is.cell.state;
    }

    -- what a call's cell holds for: its callee, under what its link promises
    pub call_holds : (n : ℕ) (i : ℕ) (c : Context) (p q : ℕ) (call : Called) → IsCell g contexts i c p q → call_in (slice_get g.spots p) ≡ Some call
        → Holds g (suc n) p q (has c.promise) ≡ Holds g n (g.entry call.function) q (promise_at g n call.back (kept_at call.split (class_of g call.split q)) c.promise)
    call_holds n i c p q call is es =
        holds_call g functions routed (Holds g n) p q (has c.promise) call es
        ∙ holds_same g functions routed n (g.entry call.function) q (promise_at g n call.back (kept_at call.split q) c.promise)
        (promise_at g n call.back (kept_at call.split (class_of g call.split q)) c.promise) is.state (λ x t. sym (same_promise n call.back q call.split c.promise is.state x t))

    -- a height that is taken tells what holds
    pub taken_reads : (s : Found) → AreRight g contexts s → (n i : ℕ) (c : Context) (p q : ℕ) → IsCell g contexts i c p q → 0 < s.height i p q
        → holds_by n (s.height i p q) ≡ Holds g n p q (has c.promise)
    taken_reads s right n i c p q is lt = reads g functions routed n (s.height i p q) p q c.promise (s.height i p q) is.state (inr (omega arith, right.taken i c p q is lt))

    module _ (s : Found) (found : AreFound g contexts s) (key : ℕ) (above : AreAbove g contexts s key) where
      abbrev pub AreRead : ℕ → Type 0
      AreRead n = (i : ℕ) (c : Context) (p q : ℕ) → IsCell g contexts i c p q → holds_by n (s.height i p q) ≡ Holds g n p q (has c.promise)

      -- each link is tied, where more than 1 is below
      pub tied : 1 < key → (i : ℕ) (c : Context) (p k : ℕ) (call : Called) → IsLink g contexts i c p k call → IsTied s i p k
      tied lt i c p k call is =
          true_of (s.tied i p k) (λ free.
          let w = (all_of _ (found.standing i c p k call is)).0 free in
          let a = above.links i c p k call is w.0 in
          omega (arith, a, lt, w.1))

      -- where no call is
      elsewhere : (n : ℕ) → 2 * suc n < key → AreRead n → (i : ℕ) (c : Context) (p q : ℕ) → IsCell g contexts i c p q → s.height i p q ≡ 0 → is_call_in (slice_get g.spots p) ≡ false
          → Holds g (suc n) p q (has c.promise) ≡ true
      elsewhere n lt read i c p q is none plain =
          true_of (Holds g (suc n) p q (has c.promise)) (λ lost.
          let same : holds_in g (tells s i n) p q (has c.promise) (slice_get g.spots p) ≡ Holds g (suc n) p q (has c.promise)
          = in_same g (tells s i n) (Holds g n) p q (has c.promise) (slice_get g.spots p) plain
          (λ by r among e. read i c r.0 r.1 (next_cell g functions routed contexts i c p q by r (below i c is.at) is e)) in
          let w = all_of (IsClosed g s i c p q) (found.closed i c p q is) none plain n (same ∙ lost) in
          let a = above.cells i c p q is w.0 in
          omega (arith, w.1, a, lt))

      -- what a link promises is within what its call promises for more moves, where no state of it returns to a pair that is taken for so many
      pub promised : (n : ℕ) → 2 * n + 1 < key → AreRead n → (i : ℕ) (c : Context) (p k : ℕ) (call : Called) (set : ℕ) → IsLink g contexts i c p k call → GoesTo contexts s i p k call set
          → (x : ℕ) → IsState g x → has set x ≡ true → promise_at g n call.back (kept_at call.split k) c.promise x ≡ true
      promised n lt read i c p k call set is goes x t member =
          let back = back_of i c p k call x is t in
          sym (read i c call.back (returned g.states (kept_at call.split k) x) back)
          ∙ elim (cases_lt n (height_back g s i call k x)) [
            | inl over ↦ tells_above n (height_back g s i call k x) over
            | inr le ↦ elim (cases_lt 0 (height_back g s i call k x)) [
              | inl some ↦
                  let w = (all_of _ (found.standing i c p k call is)).1 x t (tied (omega (arith, lt)) i c p k call is) set goes member some in
                  let a = above.links i c p k call is w.0 in
                  absurd (omega (arith, w.1, a, lt, le))
              | inr z ↦ tells_none n (height_back g s i call k x) (omega (arith, z))
            ]
          ]

      -- where a call is
      at_call : (n : ℕ) → 2 * suc n < key → AreRead n → (i : ℕ) (c : Context) (p q : ℕ) → IsCell g contexts i c p q → s.height i p q ≡ 0
          → (call : Called) → call_in (slice_get g.spots p) ≡ Some call → Holds g (suc n) p q (has c.promise) ≡ true
      at_call n lt read i c p q is none call es =
          let k = class_of g call.split q in
          let link = link_of i c p q call is es in
          let t = tied (omega (arith, lt)) i c p k call link in
          let later : Holds g (s.wave i p k) p q (has c.promise) ≡ true = found.right.later i c p q call is es t none in
          elim (cases_lt n (s.wave i p k)) [
            | inl over ↦ sooner g functions routed (suc n) (s.wave i p k) p q (has c.promise) (omega (arith, over)) is.state later
            | inr le ↦
                let l = found.right.linked i c p k call link t in
                let entry = entry_cell g functions routed contexts p q l.0 call es is.state (s.to i p k) l.1 in
                let here = read (s.to i p k) (context call.function l.0) (g.entry call.function) q entry in
                call_holds n i c p q call is es
                ∙ holds_rises g (IsState g) routed.closed n n (g.entry call.function) q (has l.0) (promise_at g n call.back (kept_at call.split k) c.promise) (omega arith) is.state
                (promised n (omega (arith, lt)) read i c p k call l.0 link l.1)
                (sym here ∙ elim (cases_lt n (s.height (s.to i p k) (g.entry call.function) q)) [
                  | inl more ↦ tells_above n (s.height (s.to i p k) (g.entry call.function) q) more
                  | inr within ↦ elim (cases_lt 0 (s.height (s.to i p k) (g.entry call.function) q)) [
                    | inl some ↦
                        let w = all_of (IsCalled g s i p q) (found.called i c p q is) call es t none n le some within in
                        let a = above.cells i c p q is w.0 in
                        absurd (omega (arith, w.1, a, lt))
                    | inr z ↦ tells_none n (s.height (s.to i p k) (g.entry call.function) q) (omega (arith, z))
                  ]
                ])
          ]

      pub least : (n : ℕ) → 2 * n < key → AreRead n
      least n lt i c p q is =
          elim (cases_lt 0 (s.height i p q)) [
            | inl some ↦ taken_reads s found.right n i c p q is some
            | inr z ↦ let none : s.height i p q ≡ 0 = omega (arith, z) in tells_none n (s.height i p q) none ∙ sym (holds n lt i c p q is none)
          ]
        where
          holds : (n : ℕ) → 2 * n < key → (i : ℕ) (c : Context) (p q : ℕ) → IsCell g contexts i c p q → s.height i p q ≡ 0 → Holds g n p q (has c.promise) ≡ true
          holds zero lt i c p q is none = refl
          holds (suc n) lt i c p q is none =
              let read : AreRead n = λ i c p q is. elim (cases_lt 0 (s.height i p q)) [
                | inl some ↦ taken_reads s found.right n i c p q is some
                | inr z ↦ let zero_is : s.height i p q ≡ 0 = omega (arith, z) in tells_none n (s.height i p q) zero_is ∙ sym (holds n (omega (arith, lt)) i c p q is zero_is)
              ] in
              call_or_not g functions routed (slice_get g.spots p) (λ call es. at_call n lt read i c p q is none call es) (λ plain. elsewhere n lt read i c p q is none plain)

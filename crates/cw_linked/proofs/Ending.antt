-- Nothing waits: what is taken are the heights, and the contexts are all that are needed.
use Rattle.std.proofs.Common.{◌≡◌, ℕ, zero, suc, ◌+◌, ◌*◌, ◌<◌, List, Some, refl, sym, ◌∙◌, subst, arith, inl, inr}
use Rattle.std.specs.Prelude.{slice_get, Contains}
use Rattle.std.proofs.lemmas.Bool.{cases_lt}
use Rattle.cw_lemmas.proofs.Lists.{get_contains}
use Rattle.cw_game.specs.Games.{Game, Holds}
use Rattle.cw_game.specs.Pairs.{has, all_states, kept_at}
use Rattle.cw_solve.specs.declared.contexts.Context.{Context}
use Rattle.cw_solve.specs.Contexts.{context, HeightIs, IsHeight, promise_at, IsSetOf, IsNeeded}
use Rattle.cw_product.specs.Routed.{AreRouted}
use Rattle.cw_solve.specs.Rounds.{IsCell, IsAsked, holds_by, height_by}
use Rattle.cw_solve.proofs.Falls.{set_as}
use Rattle.cw_solve.proofs.Still.{needed_tabled}
use Rattle.cw_linked.specs.Founds.{Found, class_of, AreAlike, IsLink, IsTied, AreFound, AreAbove}
use Rattle.cw_linked.proofs.Least.{least, tied, tells_none, same_promise, link_of}
use Rattle.cw_linked.proofs.Tying.{promise_stays}

module _ (g : Game) (functions : ℕ) (routed : AreRouted g functions) (alike : AreAlike g) (contexts : List Context)
    (below : (i : ℕ) (c : Context) → slice_get contexts i ≡ Some c → c.function < functions)
    (s : Found) (found : AreFound g contexts s) (above : (key : ℕ) → AreAbove g contexts s key) where
  reads : (n i : ℕ) (c : Context) (p q : ℕ) → IsCell g contexts i c p q → holds_by n (s.height i p q) ≡ Holds g n p q (has c.promise)
  reads n = least g functions routed alike contexts below s found (2 * n + 1) (above (2 * n + 1)) n (omega arith)

  height_of : (i : ℕ) (c : Context) (p q : ℕ) → IsCell g contexts i c p q → (k : ℕ) → s.height i p q ≡ k → HeightIs g p q c.promise (height_by k)
  height_of i c p q is zero e = λ n. sym (reads n i c p q is) ∙ tells_none n (s.height i p q) e
  height_of i c p q is (suc k) e = subst (λ (y : ℕ). IsHeight g p q c.promise y) e (found.right.taken i c p q is (omega (arith, e)))

  pub heights_are : (i : ℕ) (c : Context) (p q : ℕ) → IsCell g contexts i c p q → HeightIs g p q c.promise (height_by (s.height i p q))
  heights_are i c p q is = height_of i c p q is (s.height i p q) refl

  -- what a call promises for any number of moves is tabled
  asked : (n i : ℕ) (c : Context) (p q : ℕ) → IsCell g contexts i c p q → IsAsked g contexts n p q c.promise
  asked n i c p q is call es =
      let k = class_of g call.split q in
      let link = link_of g functions routed alike contexts below i c p q call is es in
      let t = tied g functions routed alike contexts below s found 2 (above 2) (omega arith) i c p k call link in
      let a = at_link k link t in (
        a.0,
        a.1,
        set_as g a.0 (promise_at g n call.back (kept_at call.split k) c.promise) (promise_at g n call.back (kept_at call.split q) c.promise) a.2
            (λ x u. same_promise g functions routed alike n call.back q call.split c.promise is.state x u),
      )
    where
      at_link : (k : ℕ) → IsLink g contexts i c p k call → IsTied s i p k → (set : ℕ) × Contains contexts (context call.function set)
          × IsSetOf g set (promise_at g n call.back (kept_at call.split k) c.promise)
      at_link k link t =
          elim (cases_lt (s.wave i p k) n) [
            | inr before ↦ found.right.past i c p k call link t n before call es
            | inl after ↦
                let l = found.right.linked i c p k call link t in (
                  l.0,
                  get_contains contexts (s.to i p k) (context call.function l.0) l.1,
                  promise_stays g functions routed alike contexts below s found (2 * n + 2) (above (2 * n + 2)) i c p k call l.0 link l.1 l.2 n (omega (arith, after)) (omega arith),
                )
          ]

  -- each needed context is tabled
  pub all_tabled : Contains contexts (context g.main (all_states g)) → (c : Context) → IsNeeded g c → Contains contexts c
  all_tabled main c need = needed_tabled g contexts asked main c need

-- A link of the least key is taken: what stays true, and what is left to do.
use Rattle.std.proofs.Common.{◌≡◌, ℕ, ◌+◌, ◌*◌, ◌<◌, ◌≤◌, List, Bool, true, Some, refl, sym, ap, ◌∙◌, subst, arith, inl, inr}
use Rattle.std.specs.Prelude.{slice_get, Contains}
use Rattle.std.proofs.lemmas.Bool.{cases_lt}
use Rattle.cw_game.specs.Games.{Game, returned, Holds}
use Rattle.cw_game.specs.Pairs.{has, Called, is_call_in, kept_at}
use Rattle.cw_solve.specs.declared.contexts.Context.{Context}
use Rattle.cw_solve.specs.Contexts.{context, promise_at, IsSetOf}
use Rattle.cw_product.specs.Routed.{AreRouted}
use Rattle.cw_solve.specs.Rounds.{IsCell, IsAsked, holds_by}
use Rattle.cw_solve.proofs.Falls.{sooner, member_is, set_as}
use Rattle.cw_lemmas.proofs.Lists.{get_contains}
use Rattle.cw_lemmas.proofs.Truths.{not_both}
use Rattle.cw_solve.proofs.Still.{call_or_not}
use Rattle.cw_linked.specs.Founds.{Found, class_of, AreAlike, IsLink, IsTied, height_back, GoesTo, IsShrinking, AreRight, Waits, IsCalled, Nothing, AllCalled, AllStanding, AreFound, AreAbove}
use Rattle.cw_linked.specs.Steps.{IsSame, IsOther, with_keys, Frees, IsReady, with_links, Ties, CallsBy, IsIt}
use Rattle.cw_linked.proofs.Least.{all_of, least, promised, tells_none, link_of, back_of}
use Rattle.std.proofs.lemmas.Bool.{true_from_ne_false as true_of}
use Rattle.std.specs.Cmp.{both_ways as same_bools}
use Rattle.cw_linked.proofs.Lowering.{link_is}
use Rattle.cw_linked.proofs.Taking.{same_or_other, is_a_call, one_call}

module _ (g : Game) (functions : ℕ) (routed : AreRouted g functions) (alike : AreAlike g) (contexts : List Context)
    (below : (i : ℕ) (c : Context) → slice_get contexts i ≡ Some c → c.function < functions) where
  -- What a link promises is what its call promises for more moves, as long as none of its states returns to a pair that is taken for so many.
  pub promise_stays : (s : Found) → AreFound g contexts s → (key : ℕ) → AreAbove g contexts s key → (i : ℕ) (c : Context) (p k : ℕ) (call : Called) (set : ℕ) → IsLink g contexts i c p k call
      → GoesTo contexts s i p k call set → IsSetOf g set (promise_at g (s.wave i p k) call.back (kept_at call.split k) c.promise)
      → (n : ℕ) → s.wave i p k ≤ n → 2 * n + 1 < key → IsSetOf g set (promise_at g n call.back (kept_at call.split k) c.promise)
  promise_stays s found key above i c p k call set is goes promise n le lt =
      set_as g set (promise_at g (s.wave i p k) call.back (kept_at call.split k) c.promise) (promise_at g n call.back (kept_at call.split k) c.promise) promise
      (λ x t. same_bools _ _
      (λ y. promised g functions routed alike contexts below s found key above n lt (least g functions routed alike contexts below s found key above n (omega (arith, lt))) i c p k call set is goes x t
      (member_is g set (promise_at g (s.wave i p k) call.back (kept_at call.split k) c.promise) promise x t ∙ y))
      (sooner g functions routed (s.wave i p k) n call.back (returned g.states (kept_at call.split k) x) (has c.promise) le
      (back_of g functions routed alike contexts below i c p k call x is t).state))

  -- A link of the least key is ready for the promise that the taken heights tell.
  module _ (s : Found) (found : AreFound g contexts s) (n : ℕ) (above : AreAbove g contexts s (2 * n + 1))
      (j : ℕ) (d : Context) (r x : ℕ) (call : Called) (link : IsLink g contexts j d r x call) (key : s.due j r x ≡ 2 * n + 1) (set : ℕ)
      (read : IsSetOf g set (λ y. holds_by n (height_back g s j call x y))) where
    reads : (m : ℕ) → m ≤ n → (i : ℕ) (c : Context) (p q : ℕ) → IsCell g contexts i c p q → holds_by m (s.height i p q) ≡ Holds g m p q (has c.promise)
    reads m le = least g functions routed alike contexts below s found (2 * n + 1) above m (omega (arith, le))

    is_promise : IsSetOf g set (promise_at g n call.back (kept_at call.split x) d.promise)
    is_promise =
        set_as g set (λ y. holds_by n (height_back g s j call x y)) (promise_at g n call.back (kept_at call.split x) d.promise) read
        (λ y t. reads n (omega arith) j d call.back (returned g.states (kept_at call.split x) y) (back_of g functions routed alike contexts below j d r x call y link t))

    -- a link that isn't tied waits under 1
    tied_before : (m : ℕ) → m < n → IsTied s j r x
    tied_before m less = true_of (s.tied j r x) (λ free. let w = (all_of _ (found.standing j d r x call link)).0 free in omega (arith, w.1, key, less))

    asked_before : (m : ℕ) → m < n → IsAsked g contexts m r x d.promise
    asked_before m less other es =
        subst (λ (y : Called). (set : ℕ) × Contains contexts (context y.function set) × IsSetOf g set (promise_at g m y.back (kept_at y.split x) d.promise))
        (one_call (slice_get g.spots r) call other link.calls es)
        (let tied = tied_before m less in
        elim (cases_lt (s.wave j r x) m) [
          | inr before ↦ found.right.past j d r x call link tied m before call link.calls
          | inl after ↦
              let l = found.right.linked j d r x call link tied in (
                l.0,
                get_contains contexts (s.to j r x) (context call.function l.0) l.1,
                promise_stays s found (2 * n + 1) above j d r x call l.0 link l.1 l.2 m (omega (arith, after)) (omega (arith, less)),
              )
        ])

    pub ready : IsReady g contexts s j d r x call n set
    ready = record {
      promise = is_promise;
      later = λ q lt e none.
          let cell : IsCell g contexts j d r q = record { at = link.cell.at; of = link.cell.of; state = lt } in
          sym (reads n (omega arith) j d r q cell) ∙ tells_none n (s.height j r q) none;
      past = asked_before;
    }

  -- The link waits no more.
  module _ (s : Found) (found : AreFound g contexts s) (j : ℕ) (d : Context) (r x : ℕ) (call : Called) (link : IsLink g contexts j d r x call) (due : ℕ → ℕ → ℕ → ℕ)
      (frees : Frees g contexts s due j r x) where
    pub freed_right : AreRight g contexts (with_keys s s.asked due)
    freed_right = record {
      taken = found.right.taken;
      lost = found.right.lost;
      linked = found.right.linked;
      later = found.right.later;
      past = found.right.past;
      due = λ i c p k other is. elim (same_or_other i p k j r x) [
        | inl e ↦ link_is g contexts j d r x call link i c p k other is e (λ i c p k other. 0 < due i p k → (m : ℕ) × (due i p k ≡ 2 * m + 1) × (0 < m → IsShrinking g contexts s i p k other m))
            (λ lt. absurd (omega (arith, lt, frees.done)))
        | inr o ↦ λ lt. let same = frees.others i c p k other is o in let l = found.right.due i c p k other is (omega (arith, lt, same)) in (l.0, same ∙ l.1, l.2)
      ];
    }

    pub freed_standing : AllStanding g contexts (with_keys s s.asked due) (IsIt j r x)
    freed_standing i c p k other is =
        elim (same_or_other i p k j r x) [
          | inl e ↦ inr e
          | inr o ↦
              let h = all_of _ (found.standing i c p k other is) in
              let e = frees.others i c p k other is o in
              inl (
                λ free. let w = h.0 free in (omega (arith, w.0, e), omega (arith, w.1, e)),
                λ y t tied set goes member some. let w = h.1 y t tied set goes member some in (omega (arith, w.0, e), omega (arith, w.1, e)),
              )
        ]

  -- A link that is ready is tied.
  module _ (s : Found) (right : AreRight g contexts s) (j : ℕ) (d : Context) (r x : ℕ) (call : Called) (link : IsLink g contexts j d r x call) (free : s.due j r x ≡ 0) (n set : ℕ)
      (ready : IsReady g contexts s j d r x call n set) (callee : ℕ) (at : slice_get contexts callee ≡ Some (context call.function set))
      (to wave : ℕ → ℕ → ℕ → ℕ) (tied : ℕ → ℕ → ℕ → Bool) (ties : Ties g contexts s to wave tied j r x callee n) where
    abbrev After : Found
    After = with_links s to wave tied

    at_link : (i : ℕ) (c : Context) (p k : ℕ) (other : Called) → IsLink g contexts i c p k other → IsSame i p k j r x → (F : ℕ → Context → ℕ → ℕ → Called → Type 0) → F j d r x call → F i c p k other
    at_link = link_is g contexts j d r x call link

    -- another link was tied where it is
    was_tied : (i : ℕ) (c : Context) (p k : ℕ) (other : Called) → IsLink g contexts i c p k other → IsOther i p k j r x → IsTied After i p k → IsTied s i p k
    was_tied i c p k other is o t = sym (ties.tieds i c p k other is o) ∙ t

    asked_by : (m : ℕ) → m ≤ n → IsAsked g contexts m r x d.promise
    asked_by m le =
        elim (cases_lt m n) [
          | inl less ↦ ready.past m less
          | inr more ↦ λ other es.
              let e : n ≡ m = omega (arith, le, more) in
              subst (λ (y : Called). (set : ℕ) × Contains contexts (context y.function set) × IsSetOf g set (promise_at g m y.back (kept_at y.split x) d.promise))
              (one_call (slice_get g.spots r) call other link.calls es)
              (set, get_contains contexts callee (context call.function set) at, subst (λ (y : ℕ). IsSetOf g set (promise_at g y call.back (kept_at call.split x) d.promise)) e ready.promise)
        ]

    pub tied_right : AreRight g contexts After
    tied_right = record {
      taken = right.taken;
      lost = right.lost;
      linked = λ i c p k other is t. elim (same_or_other i p k j r x) [
        | inl e ↦ at_link i c p k other is e (λ i c p k other. (set : ℕ) × GoesTo contexts After i p k other set
            × IsSetOf g set (promise_at g (wave i p k) other.back (kept_at other.split k) c.promise))
            (set, ap (slice_get contexts) ties.here ∙ at, subst (λ (y : ℕ). IsSetOf g set (promise_at g y call.back (kept_at call.split x) d.promise)) (sym ties.now) ready.promise)
        | inr o ↦
            let l = right.linked i c p k other is (was_tied i c p k other is o t) in (
              l.0,
              ap (slice_get contexts) (ties.tos i c p k other is o) ∙ l.1,
              subst (λ (y : ℕ). IsSetOf g l.0 (promise_at g y other.back (kept_at other.split k) c.promise)) (sym (ties.waves i c p k other is o)) l.2,
            )
      ];
      later = λ i c p q other is es t none.
          let k = class_of g other.split q in
          let here = link_of g functions routed alike contexts below i c p q other is es in
          elim (same_or_other i p k j r x) [
            | inl e ↦
                let waves : wave i p k ≡ n = at_link i c p k other here e (λ i c p k other. wave i p k ≡ n) ties.now in
                subst (λ (y : ℕ). Holds g y p q (has c.promise) ≡ true) (sym waves)
                (at_link i c p k other here e (λ i c p k other. class_of g other.split q ≡ k → s.height i p q ≡ 0 → Holds g n p q (has c.promise) ≡ true) (ready.later q is.state) refl none)
            | inr o ↦
                subst (λ (y : ℕ). Holds g y p q (has c.promise) ≡ true) (sym (ties.waves i c p k other here o)) (right.later i c p q other is es (was_tied i c p k other here o t) none)
          ];
      past = λ i c p k other is t. elim (same_or_other i p k j r x) [
        | inl e ↦ at_link i c p k other is e (λ i c p k other. (m : ℕ) → m ≤ wave i p k → IsAsked g contexts m p k c.promise) (λ m le. asked_by m (omega (arith, le, ties.now)))
        | inr o ↦ λ m le. right.past i c p k other is (was_tied i c p k other is o t) m (omega (arith, le, ties.waves i c p k other is o))
      ];
      due = λ i c p k other is. elim (same_or_other i p k j r x) [
        | inl e ↦ at_link i c p k other is e (λ i c p k other. 0 < s.due i p k → (m : ℕ) × (s.due i p k ≡ 2 * m + 1) × (0 < m → IsShrinking g contexts After i p k other m))
            (λ lt. absurd (omega (arith, lt, free)))
        | inr o ↦ λ lt.
            let l = right.due i c p k other is lt in
            (l.0, l.1, λ more. let a = l.2 more in (a.0, a.1, ap (slice_get contexts) (ties.tos i c p k other is o) ∙ a.2, a.3, a.4, a.5))
      ];
    }

    pub tied_called : AllCalled g contexts s Nothing → AllCalled g contexts After (CallsBy g j r x)
    tied_called called i c p q is =
        call_or_not g functions routed (slice_get g.spots p)
        (λ other es. elim (same_or_other i p (class_of g other.split q) j r x) [
          | inl e ↦ inr (other, es, e)
          | inr o ↦ inl (λ third fs. subst (λ (y : Called). IsTied After i p (class_of g y.split q) → s.height i p q ≡ 0
              → (m : ℕ) → wave i p (class_of g y.split q) ≤ m → 0 < s.height (to i p (class_of g y.split q)) (g.entry y.function) q
              → s.height (to i p (class_of g y.split q)) (g.entry y.function) q ≤ m → Waits (s.asked i p q) (2 * m + 2)) (one_call (slice_get g.spots p) other third es fs)
              (λ t none m le some within.
              let k = class_of g other.split q in
              let here = link_of g functions routed alike contexts below i c p q other is es in
              let tos = ap (λ (y : ℕ). s.height y (g.entry other.function) q) (ties.tos i c p k other here o) in
              all_of (IsCalled g s i p q) (called i c p q is) other es (was_tied i c p k other here o t) none m (omega (arith, le, ties.waves i c p k other here o)) (omega (arith, some, tos))
              (omega (arith, within, tos))))
        ])
        (λ plain. inl (λ other es. absurd (not_both (is_call_in (slice_get g.spots p)) (is_a_call (slice_get g.spots p) other es) plain)))

    pub tied_standing : AllStanding g contexts s (IsIt j r x) → AllStanding g contexts After (IsIt j r x)
    tied_standing stands i c p k other is =
        elim (same_or_other i p k j r x) [
          | inl e ↦ inr e
          | inr o ↦ elim (stands i c p k other is) [
            | inr e ↦ inr e
            | inl h ↦ inl (
              λ free. h.0 (sym (ties.tieds i c p k other is o) ∙ free),
              λ y t tied set goes member some. h.1 y t (was_tied i c p k other is o tied) set (ap (slice_get contexts) (sym (ties.tos i c p k other is o)) ∙ goes) member some,
            )
          ]
        ]

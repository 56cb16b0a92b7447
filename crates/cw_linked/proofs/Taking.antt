-- A cell of the least key is taken: what stays true, and what is left to do.
use Rattle.std.proofs.Common.{◌≡◌, ℕ, ◌+◌, ◌*◌, ◌<◌, ◌≤◌, List, true, false, Option, Some, None, refl, sym, ap, ◌∙◌, subst, arith, inl, inr}
use Rattle.std.specs.Prelude.{◌⊎◌, slice_get}
use Rattle.std.proofs.lemmas.Bool.{cases_eq}
use Rattle.std.proofs.lemmas.Option.{same_Some, none-some}
use Rattle.cw_certs.specs.declared.moves.Move.{Move}
use Rattle.cw_game.specs.declared.spots.Spot.{Spot}
use Rattle.cw_game.specs.declared.spots.Spot.TheVariants.{Call, SplitCall}
use Rattle.cw_game.specs.Games.{Game, returned, holds_in, Holds}
use Rattle.cw_game.specs.Pairs.{has, Called, call_in, is_call_in, kept_at}
use Rattle.cw_product.specs.Moves.{next_at}
use Rattle.cw_product.specs.MovesAt.{first_move, second_move}
use Rattle.cw_solve.specs.declared.contexts.Context.{Context}
use Rattle.cw_solve.specs.Contexts.{context, IsHeight}
use Rattle.cw_product.specs.Routed.{AreRouted}
use Rattle.cw_solve.specs.Rounds.{IsCell, holds_by}
use Rattle.cw_lemmas.proofs.Truths.{not_both}
use Rattle.cw_solve.proofs.Still.{call_or_not, entry_cell}
use Rattle.cw_linked.specs.Founds.{Found, class_of, AreAlike, IsTied, AreRight, tells, Waits, IsClosed, IsCalled, IsStanding, IsFresh, AllClosed, AllCalled, AllStanding, AreFound, AreAbove}
use Rattle.cw_linked.specs.Steps.{IsSame, IsOther, with_heights, Takes, IsMoveIn, Leads, WaitsFor, CallsThere, ReturnsThere}
use Rattle.cw_linked.proofs.Leading.{in_same, next_cell}
use Rattle.cw_linked.proofs.Least.{all_of, least, link_of, back_of}

pub same_or_other : (i p q j r x : ℕ) → IsSame i p q j r x ⊎ IsOther i p q j r x
same_or_other i p q j r x =
    elim (cases_eq i j) [
      | inr ne ↦ inr (λ h. ne h.0)
      | inl a ↦ elim (cases_eq p r) [
        | inr ne ↦ inr (λ h. ne h.1)
        | inl b ↦ elim (cases_eq q x) [
          | inr ne ↦ inr (λ h. ne h.2)
          | inl d ↦ inl (a, b, d)
        ]
      ]
    ]

-- a call stands where there is one
pub is_a_call : (o : Option Spot) (call : Called) → call_in o ≡ Some call → is_call_in o ≡ true
is_a_call (Some (Call j f n)) call e = refl
is_a_call (Some (SplitCall j f n)) call e = refl
is_a_call None call e = absurd (none-some call e)
is_a_call (Some _) call e = absurd (none-some call e)

-- one call stands at a position
pub one_call : (o : Option Spot) (a b : Called) → call_in o ≡ Some a → call_in o ≡ Some b → a ≡ b
one_call o a b e f = same_Some a b (sym e ∙ f)

-- what is true of a cell is true of the same one
pub at_same : (g : Game) (contexts : List Context) (i : ℕ) (c : Context) (p q j : ℕ) (d : Context) (r x : ℕ) → IsCell g contexts i c p q → IsCell g contexts j d r x → IsSame i p q j r x
    → (F : ℕ → Context → ℕ → ℕ → Type 0) → F j d r x → F i c p q
at_same g contexts i c p q j d r x is are e F h =
    let same : d ≡ c = same_Some d c (sym are.at ∙ ap (slice_get contexts) (sym e.0) ∙ is.at) in
    subst (λ (y : ℕ). F y c p q) (sym e.0) (subst (λ (y : Context). F j y p q) same (subst (λ (y : ℕ). F j d y q) (sym e.1) (subst (λ (y : ℕ). F j d r y) (sym e.2) h)))

-- a pair is the one or isn't
is_pair : (o : Option (ℕ × ℕ)) (r x : ℕ) → (o ≡ Some (r, x)) ⊎ (o ≡ Some (r, x) → ⊥)
is_pair None r x = inr (λ e. none-some (r, x) e)
is_pair (Some y) r x =
    elim (cases_eq y.0 r) [
      | inr ne ↦ inr (λ e. ne (ap (λ (z : ℕ × ℕ). z.0) (same_Some y (r, x) e)))
      | inl a ↦ elim (cases_eq y.1 x) [
        | inr ne ↦ inr (λ e. ne (ap (λ (z : ℕ × ℕ). z.1) (same_Some y (r, x) e)))
        | inl b ↦ inl (subst (λ (z : ℕ). Some y ≡ Some (r, z)) b (subst (λ (z : ℕ). Some y ≡ Some (z, y.1)) a refl))
      ]
    ]

-- another move does, or none
another : (m : Option Move) (P : Move → Type 0) → ((by : Move) → P by ⊎ (P by → ⊥)) → ((by : Move) × (m ≡ Some by) × P by) ⊎ ((by : Move) → m ≡ Some by → P by → ⊥)
another None P f = inr (λ by e h. none-some by e)
another (Some m) P f =
    elim (f m) [
      | inl h ↦ inl (m, refl, h)
      | inr isnt ↦ inr (λ by e h. isnt (subst P (sym (same_Some m by e)) h))
    ]

pub leads_or_not : (g : Game) (p q r x : ℕ) → Leads g p q r x ⊎ (Leads g p q r x → ⊥)
leads_or_not g p q r x =
    let o = slice_get g.spots p in
    elim (is_pair (next_at g p q (first_move o)) r x) [
      | inl h ↦ inl (first_move o, inl refl, h)
      | inr first ↦ elim (another (second_move o) (λ by. next_at g p q by ≡ Some (r, x)) (λ by. is_pair (next_at g p q by) r x)) [
        | inl h ↦ inl (h.0, inr h.1, h.2)
        | inr second ↦ inr (λ h. elim h.1 [
          | inl e ↦ first (subst (λ (by : Move). next_at g p q by ≡ Some (r, x)) (sym e) h.2)
          | inr e ↦ second h.0 e h.2
        ])
      ]
    ]

module _ (g : Game) (functions : ℕ) (routed : AreRouted g functions) (alike : AreAlike g) (contexts : List Context)
    (below : (i : ℕ) (c : Context) → slice_get contexts i ≡ Some c → c.function < functions) where
  module _ (s : Found) (found : AreFound g contexts s) (n : ℕ) (some : 0 < n) (above : AreAbove g contexts s (2 * n))
      (j : ℕ) (d : Context) (r x : ℕ) (cell : IsCell g contexts j d r x) (key : s.asked j r x ≡ 2 * n)
      (height asked : ℕ → ℕ → ℕ → ℕ) (takes : Takes g contexts s height asked j r x n) where
    abbrev After : Found
    After = with_heights s height asked

    waited : (s.height j r x ≡ 0) × ((m : ℕ) × (s.asked j r x ≡ 2 * m) × (Holds g m r x (has d.promise) ≡ false))
    waited = found.right.lost j d r x cell (omega (arith, some, key))

    is_height : IsHeight g r x d.promise n
    is_height = record {
      lost = let same : waited.1.0 ≡ n = omega (arith, waited.1.1, key) in subst (λ (y : ℕ). Holds g y r x (has d.promise) ≡ false) same waited.1.2;
      least = λ m lt.
          let twice : 2 * m < 2 * n = omega (arith, lt) in
          let read : holds_by m (s.height j r x) ≡ Holds g m r x (has d.promise) = least g functions routed alike contexts below s found (2 * n) above m twice j d r x cell in
          sym (subst (λ (y : ℕ). holds_by m y ≡ Holds g m r x (has d.promise)) waited.0 read);
    }

    -- a cell without a height is another
    other_after : (i p q : ℕ) → height i p q ≡ 0 → IsOther i p q j r x
    other_after i p q none e =
        let same : height i p q ≡ height j r x = subst (λ (y : ℕ). height y p q ≡ height j r x) (sym e.0)
        (subst (λ (y : ℕ). height j y q ≡ height j r x) (sym e.1) (subst (λ (y : ℕ). height j r y ≡ height j r x) (sym e.2) refl)) in
        omega (arith, none, same, takes.here, some)

    -- and one with a height was another before
    other_before : (i p q : ℕ) → 0 < s.height i p q → IsOther i p q j r x
    other_before i p q lt e =
        let same : s.height i p q ≡ s.height j r x = subst (λ (y : ℕ). s.height y p q ≡ s.height j r x) (sym e.0)
        (subst (λ (y : ℕ). s.height j y q ≡ s.height j r x) (sym e.1) (subst (λ (y : ℕ). s.height j r y ≡ s.height j r x) (sym e.2) refl)) in
        omega (arith, lt, same, waited.0)

    pub taken_right : AreRight g contexts After
    taken_right = record {
      taken = λ i c p q is lt. elim (same_or_other i p q j r x) [
        | inl e ↦ at_same g contexts i c p q j d r x is cell e (λ i c p q. IsHeight g p q c.promise (height i p q)) (subst (λ (y : ℕ). IsHeight g r x d.promise y) (sym takes.here) is_height)
        | inr o ↦ let same = takes.heights i c p q is o in
            subst (λ (y : ℕ). IsHeight g p q c.promise y) (sym same) (found.right.taken i c p q is (omega (arith, lt, same)))
      ];
      lost = λ i c p q is lt. elim (same_or_other i p q j r x) [
        | inl e ↦ let z : asked i p q ≡ 0 = at_same g contexts i c p q j d r x is cell e (λ i c p q. asked i p q ≡ 0) takes.done in absurd (omega (arith, z, lt))
        | inr o ↦
            let same = takes.askeds i c p q is o in
            let l = found.right.lost i c p q is (omega (arith, lt, same)) in
            (takes.heights i c p q is o ∙ l.0, (l.1.0, same ∙ l.1.1, l.1.2))
      ];
      linked = found.right.linked;
      later = λ i c p q call is es t none. found.right.later i c p q call is es t (sym (takes.heights i c p q is (other_after i p q none)) ∙ none);
      past = found.right.past;
      due = λ i c p k call is lt.
          let due = found.right.due i c p k call is lt in (
            due.0,
            due.1,
            λ more.
                let a = due.2 more in
                let cell = back_of g functions routed alike contexts below i c p k call a.1 is a.3 in
                let o = other_before i call.back (returned g.states (kept_at call.split k) a.1) (omega (arith, more, a.5)) in
                (a.0, a.1, a.2, a.3, a.4, takes.heights i c call.back (returned g.states (kept_at call.split k) a.1) cell o ∙ a.5),
          );
    }

    pub taken_closed : AllClosed g contexts After (WaitsFor g j r x)
    taken_closed i c p q is =
        elim (leads_or_not g p q r x) [
          | inr plain ↦ inl (stays (λ by y is e. λ h. plain (by, is, subst (λ (z : ℕ). next_at g p q by ≡ Some (z, x)) h.1 (subst (λ (z : ℕ). next_at g p q by ≡ Some (y.0, z)) h.2 e))))
          | inl leads ↦ elim (cases_eq i j) [
            | inl e ↦ inr (e, leads)
            | inr ne ↦ inl (stays (λ by y is e h. ne h.0))
          ]
        ]
      where
        stays : ((by : Move) (y : ℕ × ℕ) → IsMoveIn (slice_get g.spots p) by → next_at g p q by ≡ Some y → IsOther i y.0 y.1 j r x) → IsClosed g After i c p q
        stays apart none plain m lost =
            let o = other_after i p q none in
            let same : holds_in g (tells After i m) p q (has c.promise) (slice_get g.spots p) ≡ holds_in g (tells s i m) p q (has c.promise) (slice_get g.spots p)
            = in_same g (tells After i m) (tells s i m) p q (has c.promise) (slice_get g.spots p) plain
            (λ by y among e. ap (holds_by m) (takes.heights i c y.0 y.1 (next_cell g functions routed contexts i c p q by y (below i c is.at) is e) (apart by y among e))) in
            let w = all_of (IsClosed g s i c p q) (found.closed i c p q is) (sym (takes.heights i c p q is o) ∙ none) plain m (sym same ∙ lost) in
            let e = takes.askeds i c p q is o in
            (omega (arith, w.0, e), omega (arith, w.1, e))

    pub taken_called : AllCalled g contexts After (CallsThere g s j r x)
    taken_called i c p q is =
        call_or_not g functions routed (slice_get g.spots p)
        (λ call es. elim (same_or_other (s.to i p (class_of g call.split q)) (g.entry call.function) q j r x) [
          | inl e ↦ inr (call, es, e)
          | inr o ↦ inl (λ other fs. subst (λ (y : Called). IsTied s i p (class_of g y.split q) → height i p q ≡ 0
              → (m : ℕ) → s.wave i p (class_of g y.split q) ≤ m → 0 < height (s.to i p (class_of g y.split q)) (g.entry y.function) q
              → height (s.to i p (class_of g y.split q)) (g.entry y.function) q ≤ m → Waits (asked i p q) (2 * m + 2)) (one_call (slice_get g.spots p) call other es fs) (stays call es o))
        ])
        (λ plain. inl (λ call es. absurd (not_both (is_call_in (slice_get g.spots p)) (is_a_call (slice_get g.spots p) call es) plain)))
      where
        stays : (call : Called) → call_in (slice_get g.spots p) ≡ Some call → IsOther (s.to i p (class_of g call.split q)) (g.entry call.function) q j r x
            → IsTied s i p (class_of g call.split q) → height i p q ≡ 0
            → (m : ℕ) → s.wave i p (class_of g call.split q) ≤ m → 0 < height (s.to i p (class_of g call.split q)) (g.entry call.function) q
            → height (s.to i p (class_of g call.split q)) (g.entry call.function) q ≤ m → Waits (asked i p q) (2 * m + 2)
        stays call es o t none m le lt within =
            let k = class_of g call.split q in
            let link = link_of g functions routed alike contexts below i c p q call is es in
            let l = found.right.linked i c p k call link t in
            let entry = entry_cell g functions routed contexts p q l.0 call es is.state (s.to i p k) l.1 in
            let same = takes.heights (s.to i p k) (context call.function l.0) (g.entry call.function) q entry o in
            let here = other_after i p q none in
            let w = all_of (IsCalled g s i p q) (found.called i c p q is) call es t (sym (takes.heights i c p q is here) ∙ none) m le (omega (arith, lt, same)) (omega (arith, within, same)) in
            let e = takes.askeds i c p q is here in
            (omega (arith, w.0, e), omega (arith, w.1, e))

    pub taken_standing : AllStanding g contexts After (ReturnsThere g contexts After j r x)
    taken_standing i c p k call is =
        elim (cases_eq i j) [
          | inr ne ↦ inl (fresh, λ y t. stays y (λ e. ne e.0) t)
          | inl e ↦ elim (cases_eq call.back r) [
            | inr ne ↦ inl (fresh, λ y t. stays y (λ e. ne e.1) t)
            | inl back ↦ inr (call, is.calls, e, back, fresh, λ y t apart. stays y (λ same. apart same.2) t)
          ]
        ]
      where
        fresh : IsFresh After i p k
        fresh free = (all_of _ (found.standing i c p k call is)).0 free

        stays : (y : ℕ) → IsOther i call.back (returned g.states (kept_at call.split k) y) j r x → y < g.states.count → IsStanding g contexts After i p k call y
        stays y apart t tied set goes member some =
            let cell = back_of g functions routed alike contexts below i c p k call y is t in
            let same = takes.heights i c call.back (returned g.states (kept_at call.split k) y) cell apart in
            let w = (all_of _ (found.standing i c p k call is)).1 y t tied set goes member (omega (arith, some, same)) in
            (w.0, omega (arith, w.1, same))

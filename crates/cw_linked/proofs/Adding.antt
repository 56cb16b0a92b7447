-- A context is added: what stays true, and what is left to do.
use Rattle.std.proofs.Common.{◌≡◌, ℕ, zero, suc, ◌<◌, List, [], ◌∷◌, ◌++◌, true, false, Some, length, refl, sym, ap, ◌∙◌, subst, arith, inl, inr}
use Rattle.std.specs.Prelude.{◌⊎◌, slice_get}
use Rattle.std.proofs.lemmas.Option.{same_Some, none-some}
use Rattle.std.proofs.lemmas.List.Elements.{Contains-append_left}
use Rattle.cw_lemmas.proofs.Lists.{get_front}
use Rattle.cw_game.specs.Games.{Game, returned, holds_in, Holds}
use Rattle.cw_game.specs.Pairs.{has, Called, kept_at}
use Rattle.cw_solve.specs.declared.contexts.Context.{Context}
use Rattle.cw_solve.specs.Contexts.{context, IsHeight, promise_at, IsSetOf}
use Rattle.cw_product.specs.Routed.{AreRouted}
use Rattle.cw_solve.specs.Rounds.{IsCell, holds_by}
use Rattle.cw_lemmas.proofs.Truths.{not_both}
use Rattle.cw_solve.proofs.Still.{entry_cell}
use Rattle.cw_linked.specs.Founds.{Found, class_of, AreAlike, IsLink, IsTied, height_back, GoesTo, AreRight, tells, IsClosed, IsCalled, IsStanding, Nothing, AllClosed, AllCalled, AllStanding}
use Rattle.cw_linked.specs.Steps.{IsReady, Adds, IsNew}
use Rattle.cw_linked.proofs.Leading.{in_same, next_cell}
use Rattle.cw_linked.proofs.Least.{all_of, link_of, back_of}

-- what stands in a longer list
pub push_cases : {X : Type 0} (xs : List X) (y : X) (i : ℕ) (x : X) → slice_get (xs ++ y ∷ []) i ≡ Some x → (slice_get xs i ≡ Some x) ⊎ ((i ≡ length xs) × (y ≡ x))
push_cases [] y zero x e = inr (refl, same_Some y x e)
push_cases [] y (suc i) x e = absurd (none-some x e)
push_cases (z ∷ xs) y zero x e = inl e
push_cases (z ∷ xs) y (suc i) x e = elim (push_cases xs y i x e) [ inl h ↦ inl h | inr h ↦ inr (ap suc h.0, h.1) ]

module _ (g : Game) (functions : ℕ) (routed : AreRouted g functions) (alike : AreAlike g) (contexts : List Context) (new : Context)
    (below : (i : ℕ) (c : Context) → slice_get (contexts ++ new ∷ []) i ≡ Some c → c.function < functions) (s t : Found) (adds : Adds g contexts new s t) where
  abbrev Longer : List Context
  Longer = contexts ++ new ∷ []

  below_before : (i : ℕ) (c : Context) → slice_get contexts i ≡ Some c → c.function < functions
  below_before i c at = below i c (get_front contexts (new ∷ []) i c at)

  -- a cell is of a context that was there, or of the new one
  cell_before : (i : ℕ) (c : Context) (p q : ℕ) → IsCell g Longer i c p q → slice_get contexts i ≡ Some c → IsCell g contexts i c p q
  cell_before i c p q is at = record { at = at; of = is.of; state = is.state }

  link_before : (i : ℕ) (c : Context) (p k : ℕ) (call : Called) → IsLink g Longer i c p k call → slice_get contexts i ≡ Some c → IsLink g contexts i c p k call
  link_before i c p k call is at = record { cell = cell_before i c p k is.cell at; calls = is.calls; class = is.class }

  -- what is true of the new context's cells
  at_new : (i : ℕ) (c : Context) (p q : ℕ) → IsCell g Longer i c p q → (i ≡ length contexts) × (new ≡ c) → (F : ℕ → ℕ → ℕ → Type 0)
      → (IsCell g Longer (length contexts) new p q → F (length contexts) p q) → F i p q
  at_new i c p q is e F h =
      subst (λ (y : ℕ). F y p q) (sym e.0)
      (h (subst (λ (y : Context). IsCell g Longer (length contexts) y p q) (sym e.1) (subst (λ (y : ℕ). IsCell g Longer y c p q) e.0 is)))

  height_new : (i : ℕ) (c : Context) (p q : ℕ) → IsCell g Longer i c p q → (i ≡ length contexts) × (new ≡ c) → t.height i p q ≡ 0
  height_new i c p q is e = at_new i c p q is e (λ i p q. t.height i p q ≡ 0) (adds.new_heights p q)

  asked_new : (i : ℕ) (c : Context) (p q : ℕ) → IsCell g Longer i c p q → (i ≡ length contexts) × (new ≡ c) → t.asked i p q ≡ 0
  asked_new i c p q is e = at_new i c p q is e (λ i p q. t.asked i p q ≡ 0) (adds.new_askeds p q)

  due_new : (i : ℕ) (c : Context) (p k : ℕ) (call : Called) → IsLink g Longer i c p k call → (i ≡ length contexts) × (new ≡ c) → t.due i p k ≡ 1
  due_new i c p k call is e = at_new i c p k is.cell e (λ i p k. t.due i p k ≡ 1) (λ cell. adds.new_dues p k call (record { cell = cell; calls = is.calls; class = is.class }))

  free_new : (i : ℕ) (c : Context) (p k : ℕ) (call : Called) → IsLink g Longer i c p k call → (i ≡ length contexts) × (new ≡ c) → t.tied i p k ≡ false
  free_new i c p k call is e = at_new i c p k is.cell e (λ i p k. t.tied i p k ≡ false) (λ cell. adds.new_tieds p k call (record { cell = cell; calls = is.calls; class = is.class }))

  goes_on : (i : ℕ) (c : Context) (p k : ℕ) (call : Called) (set : ℕ) → IsLink g contexts i c p k call → GoesTo contexts s i p k call set → GoesTo Longer t i p k call set
  goes_on i c p k call set is goes = ap (slice_get Longer) (adds.tos i c p k call is) ∙ get_front contexts (new ∷ []) (s.to i p k) (context call.function set) goes

  was_tied : (i : ℕ) (c : Context) (p k : ℕ) (call : Called) → IsLink g contexts i c p k call → IsTied t i p k → IsTied s i p k
  was_tied i c p k call is tied = sym (adds.tieds i c p k call is) ∙ tied

  height_back_before : (i : ℕ) (c : Context) (p k : ℕ) (call : Called) (x : ℕ) → IsLink g contexts i c p k call → x < g.states.count → height_back g t i call k x ≡ height_back g s i call k x
  height_back_before i c p k call x is lt =
      adds.heights i c call.back (returned g.states (kept_at call.split k) x) (back_of g functions routed alike contexts below_before i c p k call x is lt)

  pub added_right : AreRight g contexts s → AreRight g Longer t
  added_right right = record {
    taken = λ i c p q is lt. elim (push_cases contexts new i c is.at) [
      | inr e ↦ absurd (let z = height_new i c p q is e in omega (arith, z, lt))
      | inl at ↦
          let cell = cell_before i c p q is at in
          let same = adds.heights i c p q cell in
          subst (λ (y : ℕ). IsHeight g p q c.promise y) (sym same) (right.taken i c p q cell (omega (arith, lt, same)))
    ];
    lost = λ i c p q is lt. elim (push_cases contexts new i c is.at) [
      | inr e ↦ absurd (let z = asked_new i c p q is e in omega (arith, z, lt))
      | inl at ↦
          let cell = cell_before i c p q is at in
          let same = adds.askeds i c p q cell in
          let l = right.lost i c p q cell (omega (arith, lt, same)) in
          (adds.heights i c p q cell ∙ l.0, (l.1.0, same ∙ l.1.1, l.1.2))
    ];
    linked = λ i c p k call is tied. elim (push_cases contexts new i c is.cell.at) [
      | inr e ↦ absurd (not_both (t.tied i p k) tied (free_new i c p k call is e))
      | inl at ↦
          let link = link_before i c p k call is at in
          let l = right.linked i c p k call link (was_tied i c p k call link tied) in
          (l.0, goes_on i c p k call l.0 link l.1, subst (λ (y : ℕ). IsSetOf g l.0 (promise_at g y call.back (kept_at call.split k) c.promise)) (sym (adds.waves i c p k call link)) l.2)
    ];
    later = λ i c p q call is es tied none. elim (push_cases contexts new i c is.at) [
      | inr e ↦ absurd (not_both (t.tied i p (class_of g call.split q)) tied (free_new i c p (class_of g call.split q) call (link_of g functions routed alike Longer below i c p q call is es) e))
      | inl at ↦
          let cell = cell_before i c p q is at in
          let link = link_of g functions routed alike contexts below_before i c p q call cell es in
          subst (λ (y : ℕ). Holds g y p q (has c.promise) ≡ true) (sym (adds.waves i c p (class_of g call.split q) call link))
          (right.later i c p q call cell es (was_tied i c p (class_of g call.split q) call link tied) (sym (adds.heights i c p q cell) ∙ none))
    ];
    past = λ i c p k call is tied n le. elim (push_cases contexts new i c is.cell.at) [
      | inr e ↦ absurd (not_both (t.tied i p k) tied (free_new i c p k call is e))
      | inl at ↦
          let link = link_before i c p k call is at in
          λ other es.
          let a = right.past i c p k call link (was_tied i c p k call link tied) n (omega (arith, le, adds.waves i c p k call link)) other es in
          (a.0, Contains-append_left contexts (new ∷ []) (context other.function a.0) a.1, a.2)
    ];
    due = λ i c p k call is lt. elim (push_cases contexts new i c is.cell.at) [
      | inr e ↦ (0, due_new i c p k call is e, λ more. absurd (omega (arith, more)))
      | inl at ↦
          let link = link_before i c p k call is at in
          let same = adds.dues i c p k call link in
          let l = right.due i c p k call link (omega (arith, lt, same)) in
          (l.0, same ∙ l.1, λ more. let a = l.2 more in (a.0, a.1, goes_on i c p k call a.0 link a.2, a.3, a.4, height_back_before i c p k call a.1 link a.3 ∙ a.5))
    ];
  }

  pub added_closed : AllClosed g contexts s Nothing → AllClosed g Longer t (IsNew contexts)
  added_closed closed i c p q is =
      elim (push_cases contexts new i c is.at) [
        | inr e ↦ inr e.0
        | inl at ↦ inl (λ none plain n lost.
            let cell = cell_before i c p q is at in
            let same : holds_in g (tells t i n) p q (has c.promise) (slice_get g.spots p) ≡ holds_in g (tells s i n) p q (has c.promise) (slice_get g.spots p)
            = in_same g (tells t i n) (tells s i n) p q (has c.promise) (slice_get g.spots p) plain
            (λ by y among e. ap (holds_by n) (adds.heights i c y.0 y.1 (next_cell g functions routed contexts i c p q by y (below_before i c at) cell e))) in
            let w = all_of (IsClosed g s i c p q) (closed i c p q cell) (sym (adds.heights i c p q cell) ∙ none) plain n (sym same ∙ lost) in
            let e = adds.askeds i c p q cell in
            (omega (arith, w.0, e), omega (arith, w.1, e)))
      ]

  pub added_called : AreRight g contexts s → AllCalled g contexts s Nothing → AllCalled g Longer t Nothing
  added_called right called i c p q is = inl (λ call es tied none n le some within. elim (push_cases contexts new i c is.at) [
    | inr e ↦ absurd (not_both (t.tied i p (class_of g call.split q)) tied (free_new i c p (class_of g call.split q) call (link_of g functions routed alike Longer below i c p q call is es) e))
    | inl at ↦
        let k = class_of g call.split q in
        let cell = cell_before i c p q is at in
        let link = link_of g functions routed alike contexts below_before i c p q call cell es in
        let was = was_tied i c p k call link tied in
        let l = right.linked i c p k call link was in
        let tos = adds.tos i c p k call link in
        let there : t.height (t.to i p k) (g.entry call.function) q ≡ s.height (s.to i p k) (g.entry call.function) q = ap (λ (y : ℕ). t.height y (g.entry call.function) q) tos
        ∙ adds.heights (s.to i p k) (context call.function l.0) (g.entry call.function) q (entry_cell g functions routed contexts p q l.0 call es is.state (s.to i p k) l.1) in
        let w = all_of (IsCalled g s i p q) (called i c p q cell) call es was (sym (adds.heights i c p q cell) ∙ none) n (omega (arith, le, adds.waves i c p k call link))
        (omega (arith, some, there)) (omega (arith, within, there)) in
        let e = adds.askeds i c p q cell in
        (omega (arith, w.0, e), omega (arith, w.1, e))
  ])

  pub added_standing : (Rest : ℕ → ℕ → ℕ → Type 0) → AreRight g contexts s → AllStanding g contexts s Rest → AllStanding g Longer t Rest
  added_standing Rest right stands i c p k call is =
      elim (push_cases contexts new i c is.cell.at) [
        | inr e ↦ inl (
          λ free. let one = due_new i c p k call is e in (omega (arith, one), omega (arith, one)),
          λ x lt tied. absurd (not_both (t.tied i p k) tied (free_new i c p k call is e)),
        )
        | inl at ↦
            let link = link_before i c p k call is at in
            elim (stands i c p k call link) [
              | inr rest ↦ inr rest
              | inl h ↦
                  let e = adds.dues i c p k call link in
                  inl (λ free. let w = h.0 (sym (adds.tieds i c p k call link) ∙ free) in (omega (arith, w.0, e), omega (arith, w.1, e)), standing i c p k call at link h.1)
            ]
      ]
    where
      standing : (i : ℕ) (c : Context) (p k : ℕ) (call : Called) → slice_get contexts i ≡ Some c → IsLink g contexts i c p k call
          → ((x : ℕ) → x < g.states.count → IsStanding g contexts s i p k call x) → (x : ℕ) → x < g.states.count → IsStanding g Longer t i p k call x
      standing i c p k call at link h x lt tied set goes member some =
          let was = was_tied i c p k call link tied in
          let l = right.linked i c p k call link was in
          let same : context call.function l.0 ≡ context call.function set = same_Some _ _ (sym (goes_on i c p k call l.0 link l.1) ∙ goes) in
          let there = height_back_before i c p k call x link lt in
          let w = h x lt was l.0 l.1 (ap (λ (y : Context). has y.promise x) same ∙ member) (omega (arith, some, there)) in
          let e = adds.dues i c p k call link in
          (omega (arith, w.0, e), omega (arith, w.1, e, there))

  -- and a link that is ready is
  pub added_ready : (j : ℕ) (d : Context) (r x : ℕ) (call : Called) → IsLink g contexts j d r x call → (n set : ℕ) → IsReady g contexts s j d r x call n set → IsReady g Longer t j d r x call n set
  added_ready j d r x call link n set ready = record {
    promise = ready.promise;
    later = λ q lt e none. ready.later q lt e (sym (adds.heights j d r q (record { at = link.cell.at; of = link.cell.of; state = lt })) ∙ none);
    past = λ m lt other es. let a = ready.past m lt other es in (a.0, Contains-append_left contexts (new ∷ []) (context other.function a.0) a.1, a.2);
  }

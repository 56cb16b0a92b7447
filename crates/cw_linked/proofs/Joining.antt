-- A context is added, and its links and cells are asked for: what the solver keeps then.
use Rattle.std.proofs.Common.{◌≡◌, ℕ, ◌+◌, ◌-◌, ◌*◌, ◌<◌, ◌≤◌, List, [], ◌∷◌, ◌++◌, not, Some, length, replicate, refl, sym, ap, ◌∙◌, subst, arith, inl, inr}
use Rattle.std.specs.Prelude.{◌⊎◌, slice_get, slice_index, nat_eq}
use Rattle.std.proofs.lemmas.Bool.{eq-eqb}
use Rattle.std.proofs.lemmas.Option.{same_Some, slice_get_within}
use Rattle.cw_lemmas.proofs.Lists.{get_last}
use Rattle.cw_game.specs.Games.{Game}
use Rattle.cw_game.specs.Pairs.{Called}
use Rattle.cw_solve.specs.declared.contexts.Context.{Context}
use Rattle.cw_product.specs.Routed.{AreRouted, IsOf}
use Rattle.cw_solve.specs.Contexts.{size}
use Rattle.cw_solve.specs.Rounds.{IsCell}
use Rattle.cw_solve.specs.Tables.{AreTabled}
use Rattle.cw_solve.proofs.Slots.{same_slot}
use Rattle.cw_solve.proofs.Tabling.{there_at}
use Rattle.cw_linked.specs.declared.work.Work.{Work}
use Rattle.cw_linked.specs.Added.{Pushes, IsLinkOf, Each, FreesLinks, HasNoHeights, AsksCells, IsOpen, AddsContext}
use Rattle.cw_linked.specs.Founds.{AreAlike, IsLink, AreRight, IsClosed, Nothing, AllClosed, AllCalled, AllStanding}
use Rattle.cw_linked.specs.Queues.{found_of, AreLong, AreHigh, IsLinkAt, AreFlagged, AreDue}
use Rattle.cw_linked.specs.Steps.{Adds, IsIt}
use Rattle.cw_linked.specs.Works.{Known, known_of, IsKnown, AreUpTo, index_at, value_at}
use Rattle.cw_linked.proofs.Adding.{added_right, added_closed, added_called, added_standing}
use Rattle.cw_linked.proofs.Askings.{stays_closed}
use Rattle.cw_linked.proofs.Bounding.{index_is}
use Rattle.cw_linked.proofs.Finishing.{next_known, next_callers, next_flagged, next_right, next_called}
use Rattle.cw_linked.proofs.Freeing.{frees_long}
use Rattle.cw_linked.proofs.Lengthening.{grown_length, grown_before, grown_after}
use Rattle.cw_linked.proofs.Pushing.{base_end, cell_on, value_on, value_new, pushed_known, pushed_long, pushed_high, pushed_dues, pushed_flagged, pushed_callers}
use Rattle.cw_linked.proofs.Staying.{callers_on, flagged_on}
use Rattle.cw_linked.proofs.Telling.{still_standing}

module _ (g : Game) (functions : ℕ) (routed : AreRouted g functions) (alike : AreAlike g) (old pushed : Work) (c : Context) (kept : IsOpen g old)
    (tabled : AreTabled g (old.blocks.contexts.items ++ c ∷ []))
    (pushes : Pushes g old pushed c (size g c.function)) where
  abbrev Contexts : List Context
  Contexts = old.blocks.contexts.items

  abbrev More : List Context
  More = Contexts ++ c ∷ []

  abbrev number : ℕ
  number = length Contexts

  abbrev none : List ℕ
  none = replicate (size g c.function) 0

  pub is_pushed_known : IsKnown g (known_of pushed)
  is_pushed_known = pushed_known g old pushed c kept.laid pushes tabled

  pub is_pushed_long : AreLong pushed
  is_pushed_long = pushed_long g old pushed c kept.laid pushes kept.long

  pub is_pushed_flagged : AreFlagged g pushed
  is_pushed_flagged = pushed_flagged g old pushed c kept.laid pushes kept.long kept.flagged

  pub pushed_there : slice_get pushed.blocks.contexts.items number ≡ Some c
  pushed_there = ap (λ (cs : List Context). slice_get cs number) pushes.contexts ∙ get_last Contexts c

  functions_below : (i : ℕ) (d : Context) → slice_get More i ≡ Some d → d.function < functions
  functions_below i d at = (there_at g functions routed pushed.blocks is_pushed_known.blocks i d (ap (λ (cs : List Context). slice_get cs i) pushes.contexts ∙ at)).below

  -- the indices of the new context are behind all others
  new_index : (p q : ℕ) → IsCell g More number c p q → length old.store.heights ≤ index_at g More number p q
  new_index p q is =
      let at = index_is g More number c p q is.at in
      let s = base_end g Contexts c in
      omega (arith, at, s, kept.laid.cells)

  -- and no link of the new context is at the index of another
  apart : (i : ℕ) (d : Context) (p k : ℕ) → IsCell g Contexts i d p k → IsLinkOf g More number c (index_at g More i p k) → ⊥
  apart i d p k is l =
      let on = cell_on g Contexts c i d p k is in
      let s = same_slot g More i number d c p l.0 k l.1 on l.3.cell (sym (index_is g More i d p k on.at) ∙ l.4 ∙ index_is g More number c l.0 l.1 l.3.cell.at) in
      let lt = slice_get_within Contexts i d is.at in
      omega (arith, s.number, lt)

  module _ (freed : Work) (frees : FreesLinks g pushed freed number c Each) where
    freed_contexts : freed.blocks.contexts.items ≡ More
    freed_contexts = ap (λ (t : Known). t.blocks.contexts.items) frees.others.known ∙ pushes.contexts

    freed_heights : freed.store.heights ≡ old.store.heights ++ none
    freed_heights = ap (λ (t : Known). t.heights) frees.others.known ∙ pushes.indices.heights

    freed_to : freed.store.to ≡ old.store.to ++ none
    freed_to = frees.others.to ∙ pushes.indices.to

    pub is_freed_known : IsKnown g (known_of freed)
    is_freed_known = subst (IsKnown g) (sym frees.others.known) is_pushed_known

    pub is_freed_long : AreLong freed
    is_freed_long = frees_long g number c pushed freed Each frees is_pushed_long

    pub freed_there : slice_get freed.blocks.contexts.items number ≡ Some c
    freed_there = ap (λ (cs : List Context). slice_get cs number) freed_contexts ∙ get_last Contexts c

    links : (p x : ℕ) (call : Called) → IsLink g More number c p x call → slice_index freed.store.due (index_at g More number p x) ≡ 1
    links p x call = subst (λ (cs : List Context). IsLink g cs number c p x call → slice_index freed.store.due (index_at g cs number p x) ≡ 1) pushes.contexts (λ is. frees.links p x call is tt)

    rest : (k : ℕ) → (slice_index freed.store.due k ≡ slice_index pushed.store.due k) ⊎ (IsLinkOf g More number c k × (slice_index freed.store.due k ≡ 1))
    rest = subst (λ (cs : List Context). (k : ℕ) → (slice_index freed.store.due k ≡ slice_index pushed.store.due k) ⊎ (IsLinkOf g cs number c k × (slice_index freed.store.due k ≡ 1)))
        pushes.contexts frees.rest

    -- what the lists say of a cell that was there, and of a new one
    module _ (now before : List ℕ) (long : length before ≡ length old.store.heights) (is_now : now ≡ before ++ none) where
      read : (i p q : ℕ) → value_at g freed.blocks.contexts.items now i p q ≡ value_at g More (before ++ none) i p q
      read i p q = ap (λ (cs : List Context). value_at g cs now i p q) freed_contexts ∙ ap (λ (ys : List ℕ). value_at g More ys i p q) is_now

      value_before : (i : ℕ) (d : Context) (p q : ℕ) → IsCell g Contexts i d p q → value_at g freed.blocks.contexts.items now i p q ≡ value_at g Contexts before i p q
      value_before i d p q is = read i p q ∙ value_on g Contexts c before none (long ∙ kept.laid.cells) i d p q is

      value_none : (p q : ℕ) → IsCell g More number c p q → value_at g freed.blocks.contexts.items now number p q ≡ 0
      value_none p q is = read number p q ∙ value_new g Contexts c before 0 (long ∙ kept.laid.cells) p q is

    -- of a new cell no height is taken
    pub is_freed_fresh : HasNoHeights g (known_of freed) (record { number = number; context = c })
    is_freed_fresh p q is = value_none freed.store.heights old.store.heights refl freed_heights p q (subst (λ (cs : List Context). IsCell g cs number c p q) freed_contexts is)

    due_before : (i : ℕ) (d : Context) (p k : ℕ) → IsCell g Contexts i d p k → value_at g freed.blocks.contexts.items freed.store.due i p k ≡ value_at g Contexts old.store.due i p k
    due_before i d p k is =
        ap (λ (cs : List Context). value_at g cs freed.store.due i p k) freed_contexts
        ∙ elim (rest (index_at g More i p k)) [
          | inl same ↦ same ∙ ap (λ (ys : List ℕ). value_at g More ys i p k) pushes.indices.due ∙ value_on g Contexts c old.store.due none (kept.long.due ∙ kept.laid.cells) i d p k is
          | inr l ↦ absurd (apart i d p k is l.0)
        ]

    due_new : (p k : ℕ) (call : Called) → IsLink g More number c p k call → value_at g freed.blocks.contexts.items freed.store.due number p k ≡ 1
    due_new p k call is =
        ap (λ (cs : List Context). value_at g cs freed.store.due number p k) freed_contexts ∙ links p k call is

    adds : Adds g Contexts c (found_of g old) (found_of g freed)
    adds = record {
      heights = λ i d p q is. value_before freed.store.heights old.store.heights refl freed_heights i d p q is;
      askeds = λ i d p q is. value_before freed.store.asked old.store.asked kept.long.asked (frees.asked ∙ pushes.indices.asked) i d p q is;
      tos = λ i d p k call is. ap (λ (n : ℕ). n - 1) (value_before freed.store.to old.store.to kept.long.to freed_to i d p k is.cell);
      waves = λ i d p k call is. value_before freed.store.waves old.store.waves kept.long.waves (frees.others.waves ∙ pushes.indices.waves) i d p k is.cell;
      dues = λ i d p k call is. due_before i d p k is.cell;
      new_heights = λ p q is. value_none freed.store.heights old.store.heights refl freed_heights p q is;
      new_askeds = λ p q is. value_none freed.store.asked old.store.asked kept.long.asked (frees.asked ∙ pushes.indices.asked) p q is;
      tieds = λ i d p k call is. ap (λ (n : ℕ). not (nat_eq n 0)) (value_before freed.store.to old.store.to kept.long.to freed_to i d p k is.cell);
      new_tieds = λ p k call is. ap (λ (n : ℕ). not (nat_eq n 0)) (value_none freed.store.to old.store.to kept.long.to freed_to p k is.cell) ∙ ap not (eq-eqb 0 0 refl);
      new_dues = λ p k call is. due_new p k call is;
    }

    pub is_freed_right : AreRight g freed.blocks.contexts.items (found_of g freed)
    is_freed_right = subst (λ (cs : List Context). AreRight g cs (found_of g freed)) (sym freed_contexts)
        (added_right g functions routed alike Contexts c functions_below (found_of g old) (found_of g freed) adds kept.right)

    pub is_freed_high : AreHigh freed
    is_freed_high =
        let high = pushed_high g old pushed c kept.laid pushes kept.high in
        let same = sym frees.others.known in
        record {
          heights = subst (λ (t : Known). AreUpTo t.heights t.written) same high.heights;
          asked = subst (λ (t : Known). AreUpTo freed.store.asked (2 * t.written + 2)) same (subst (λ (ys : List ℕ). AreUpTo ys (2 * pushed.written + 2)) (sym frees.asked) high.asked);
          due = λ k. elim (rest k) [
            | inl e ↦ let h = high.due k in let w = ap (λ (t : Known). t.written) same in omega (arith, e, h, w)
            | inr l ↦ omega (arith, l.1)
          ];
          waves = subst (λ (t : Known). AreUpTo freed.store.waves t.written) same (subst (λ (ys : List ℕ). AreUpTo ys pushed.written) (sym frees.others.waves) high.waves);
        }

    freed_dues : AreDue g freed
    freed_dues k lt some = elim (rest k) [
      | inl e ↦
          let h = pushed_dues g old pushed c kept.laid pushes kept.long kept.dues k (subst (λ (t : Known). k < length t.heights) frees.others.known lt) (omega (arith, e, some)) in (
            subst (λ (t : Known). IsLinkAt g t.blocks.contexts.items k) (sym frees.others.known) h.0,
            λ tied. let low = h.1 (subst (λ (ys : List ℕ). 0 < slice_index ys k) frees.others.to tied) in omega (arith, low, e),
          )
      | inr l ↦ (
        subst (λ (cs : List Context). IsLinkAt g cs k) (sym freed_contexts) (number, c, l.0.0, l.0.1, l.0.2, l.0.3, l.0.4),
        λ tied. absurd (
            let at = new_index l.0.0 l.0.1 l.0.3.cell in
            let inside = subst (λ (t : Known). k < length t.heights) frees.others.known lt in
            let z = untied k (omega (arith, at, l.0.4)) inside in
            omega (arith, z, tied)),
      )
    ]
      where
        untied : (k : ℕ) → length old.store.heights ≤ k → k < length pushed.store.heights → slice_index freed.store.to k ≡ 0
        untied k le lt =
            let long = is_pushed_long.to in
            let more = grown_length old.store.to pushed.store.to (size g c.function) 0 pushes.indices.to in
            grown_after old.store.to freed.store.to (size g c.function) freed_to k (omega (arith, le, kept.long.to)) (omega (arith, lt, long, more))

    module _ (new : Work) (asks : AsksCells g freed new number c Each) where
      new_contexts : new.blocks.contexts.items ≡ More
      new_contexts = ap (λ (t : Known). t.blocks.contexts.items) asks.step.others.known ∙ freed_contexts

      -- each cell of the new context is asked for
      asked : (p q : ℕ) → IsCell g More number c p q → IsClosed g (found_of g new) number c p q
      asked p q is = asks.closed p q (subst (λ (cs : List Context). IsCell g cs number c p q) (sym freed_contexts) is) tt

      closed : AllClosed g Contexts (found_of g old) Nothing → AllClosed g new.blocks.contexts.items (found_of g new) Nothing
      closed all = subst (λ (cs : List Context). AllClosed g cs (found_of g new) Nothing) (sym new_contexts) (λ i d p q is.
          elim (added_closed g functions routed alike Contexts c functions_below (found_of g old) (found_of g freed) adds all i d p q is) [
            | inl h ↦ inl (stays_closed g freed new asks.step i d p q (subst (λ (cs : List Context). IsCell g cs i d p q) (sym freed_contexts) is) h)
            | inr e ↦ inl (here i d p q is e)
          ])
        where
          here : (i : ℕ) (d : Context) (p q : ℕ) → IsCell g More i d p q → i ≡ number → IsClosed g (found_of g new) i d p q
          here i d p q is e =
              let same : c ≡ d = same_Some c d (sym (get_last Contexts c) ∙ subst (λ (y : ℕ). slice_get More y ≡ Some d) e is.at) in
              let cell : IsCell g More number c p q
              = record { at = get_last Contexts c; of = subst (λ (y : Context). IsOf g y.function p) (sym same) is.of; state = is.state } in
              subst (λ (y : ℕ). IsClosed g (found_of g new) y d p q) (sym e) (subst (λ (y : Context). IsClosed g (found_of g new) number y p q) same (asked p q cell))

      called : AllCalled g Contexts (found_of g old) Nothing → AllCalled g new.blocks.contexts.items (found_of g new) Nothing
      called all = next_called g functions routed alike freed new is_freed_known asks.step
          (subst (λ (cs : List Context). AllCalled g cs (found_of g freed) Nothing) (sym freed_contexts)
          (added_called g functions routed alike Contexts c functions_below (found_of g old) (found_of g freed) adds kept.right all))

      standing : (Rest : ℕ → ℕ → ℕ → Type 0) → AllStanding g Contexts (found_of g old) Rest → AllStanding g new.blocks.contexts.items (found_of g new) Rest
      standing Rest all = subst (λ (t : Known). AllStanding g t.blocks.contexts.items (found_of g new) Rest) (sym asks.step.others.known)
          (still_standing g functions routed alike freed new is_freed_known asks.step.others asks.step.lowers Rest
          (subst (λ (cs : List Context). AllStanding g cs (found_of g freed) Rest) (sym freed_contexts)
          (added_standing g functions routed alike Contexts c functions_below (found_of g old) (found_of g freed) adds Rest kept.right all)))

      due_kept : (k : ℕ) → k < length old.store.heights → slice_index new.store.due k ≡ slice_index old.store.due k
      due_kept k lt =
          ap (λ (ys : List ℕ). slice_index ys k) asks.due
          ∙ elim (rest k) [
            | inl same ↦ same ∙ grown_before old.store.due pushed.store.due (size g c.function) pushes.indices.due k (omega (arith, lt, kept.long.due))
            | inr l ↦ absurd (let at = new_index l.0.0 l.0.1 l.0.3.cell in omega (arith, at, lt, l.0.4))
          ]

      pub joined : AddsContext g old new c
      joined = record {
        firm = record {
          known = next_known g functions routed alike freed new is_freed_known asks.step;
          long = asks.step.long;
          flagged = next_flagged g functions routed alike freed new is_freed_known asks.step
              (flagged_on g pushed freed (ap (λ (t : Known). t.blocks.contexts.items) frees.others.known) frees.others.flags is_pushed_flagged);
          high = asks.step.high;
          callers = next_callers g functions routed alike freed new is_freed_known asks.step
              (callers_on pushed freed frees.others.known frees.others.to frees.others.lists (pushed_callers g old pushed c kept.laid pushes kept.long kept.callers));
          dues = asks.step.dues freed_dues;
          right = next_right g functions routed alike freed new is_freed_known asks.step;
        };
        contexts = new_contexts;
        written = ap (λ (t : Known). t.written) asks.step.others.known ∙ ap (λ (t : Known). t.written) frees.others.known ∙ pushes.written;
        heights = ap (λ (t : Known). t.heights) asks.step.others.known ∙ freed_heights;
        to = asks.step.others.to ∙ freed_to;
        dues = due_kept;
        closed = closed;
        called = called;
        standing = standing Nothing;
        others = λ j r x. standing (IsIt j r x);
      }

-- A link is tied in the store, and what is left to do then is done state by state.
use Rattle.std.proofs.Common.{◌≡◌, ℕ, suc, ◌+◌, ◌<◌, ◌≤◌, List, true, Some, length, set, sym, ap, ◌∙◌, subst, arith, inl, inr}
use Rattle.std.specs.Prelude.{slice_get, slice_index}
use Rattle.std.proofs.lemmas.Bool.{cases_eq, cases_lt}
use Rattle.std.proofs.lemmas.List.{get_or-set_same, get_or-set_other}
use Rattle.std.proofs.lemmas.Option.{same_Some}
use Rattle.cw_game.specs.Games.{Game, returned, Holds}
use Rattle.cw_game.specs.Pairs.{has, Called, call_in, kept_at}
use Rattle.cw_solve.specs.declared.contexts.Context.{Context}
use Rattle.cw_solve.specs.Tabled.{Tabled}
use Rattle.cw_solve.specs.Contexts.{context, promise_at}
use Rattle.cw_product.specs.Routed.{AreRouted}
use Rattle.cw_solve.specs.Rounds.{IsCell}
use Rattle.cw_solve.specs.Tables.{HasCell}
use Rattle.cw_solve.proofs.Falls.{sooner, member_is}
use Rattle.cw_lemmas.proofs.Truths.{not_both}
use Rattle.cw_linked.specs.declared.work.Cell.{Cell}
use Rattle.cw_linked.specs.declared.work.Work.{Work}
use Rattle.cw_linked.specs.Calls.{AreCallers, AsksCaller}
use Rattle.cw_linked.specs.Founds.{Found, class_of, AreAlike, IsLink, IsTied, height_back, GoesTo, AreRight, IsCalled, IsStanding, IsFresh, Nothing, AllCalled, AllStanding}
use Rattle.cw_linked.specs.Queues.{found_of, AreLong, AreHigh, LowersKeys, IsCellAt}
use Rattle.cw_linked.specs.Returns.{Returns}
use Rattle.cw_linked.specs.Steps.{IsSame, CallsBy, IsIt}
use Rattle.cw_linked.specs.Tied.{CallsFrom, AsksBack}
use Rattle.cw_linked.specs.Works.{Known, known_of, IsKnown, heights_of, index_at, value_at}
use Rattle.cw_linked.proofs.Backs.{stands_on}
use Rattle.cw_linked.proofs.Bounding.{index_is}
use Rattle.cw_linked.proofs.Callers.{is_tied}
use Rattle.cw_linked.proofs.Closing.{called_none}
use Rattle.cw_linked.proofs.Least.{link_of, back_of}
use Rattle.cw_linked.proofs.Lowering.{link_is}
use Rattle.cw_linked.proofs.Taking.{one_call}
use Rattle.cw_linked.proofs.Telling.{below, still_standing, still_called, nothing}
use Rattle.cw_linked.proofs.Working.{found_keys}

pub tied_callers : (old new : Work) (index number : ℕ) → AreCallers old → index < length old.store.heights → number < length old.blocks.contexts.items
    → length old.store.to ≡ length old.store.heights
    → known_of new ≡ known_of old → length new.store.lists ≡ length old.store.lists → new.store.to ≡ set old.store.to index (number + 1) → AreCallers new
tied_callers old new index number c inside few long known lists to = record {
  more = (let e = ap (λ (t : Known). length t.blocks.contexts.items) known in omega (arith, e, lists, c.more));
  few = λ k lt. subst (λ (ys : List ℕ). slice_index ys k ≤ length new.blocks.contexts.items) (sym to)
      (subst (λ (t : Known). slice_index (set old.store.to index (number + 1)) k ≤ length t.blocks.contexts.items) (sym known)
      (elim (cases_eq k index) [
        | inl e ↦ let v : slice_index (set old.store.to index (number + 1)) k ≡ number + 1 = ap (slice_index (set old.store.to index (number + 1))) e
            ∙ get_or-set_same old.store.to index (number + 1) 0 (omega (arith, inside, long)) in omega (arith, v, few)
        | inr ne ↦ let v = get_or-set_other old.store.to index k (number + 1) 0 ne in let f = c.few k (old_length k lt) in omega (arith, v, f)
      ]));
}
  where
    old_length : (k : ℕ) → k < length new.store.heights → k < length old.store.heights
    old_length k lt = subst (λ (t : Known). k < length t.heights) known lt

module _ (g : Game) (functions : ℕ) (routed : AreRouted g functions) (alike : AreAlike g) where
  -- A callee that isn't lost from a state has no call to ask for.
  pub unlost_call : (w : Work) → IsKnown g (known_of w) → AreLong w → AreHigh w → AreRight g w.blocks.contexts.items (found_of g w) → (index : ℕ) (cell : Cell)
      → heights_of g (known_of w) cell.at.number cell.pos.0 cell.state.0 ≡ 0 → AsksCaller g w w index cell
  unlost_call w known long high right index cell none = record {
    step = nothing g w long high right;
    called = λ i c p q call is es goes at.
        called_none g functions routed alike w.blocks.contexts.items (below g functions routed alike w w known) (found_of g w) i p q call es
        (ap (λ (y : ℕ). heights_of g (known_of w) y (g.entry call.function) q) goes.0 ∙ ap (λ (y : ℕ). heights_of g (known_of w) cell.at.number y q) goes.1
        ∙ ap (λ (y : ℕ). heights_of g (known_of w) cell.at.number cell.pos.0 y) goes.2 ∙ none);
  }

  -- A state of a promise returns to no pair that is lost within the moves for which that is promised.
  promised_longer : (cs : List Context) → ((i : ℕ) (c : Context) → slice_get cs i ≡ Some c → c.function < functions) → (s : Found) → AreRight g cs s
      → (i : ℕ) (c : Context) (p k : ℕ) (call : Called) → IsLink g cs i c p k call → IsTied s i p k → (set x : ℕ) → GoesTo cs s i p k call set → x < g.states.count
      → has set x ≡ true → 0 < height_back g s i call k x → s.wave i p k < height_back g s i call k x
  promised_longer cs within s right i c p k call link tied set x goes lt member some =
      let q = returned g.states (kept_at call.split k) x in
      let l = right.linked i c p k call link tied in
      let same : l.0 ≡ set = ap (λ (y : Context). y.promise) (same_Some (context call.function l.0) (context call.function set) (sym l.1 ∙ goes)) in
      let cell = back_of g functions routed alike cs within i c p k call x link lt in
      let holds : Holds g (s.wave i p k) call.back q (has c.promise) ≡ true
      = sym (member_is g l.0 (promise_at g (s.wave i p k) call.back (kept_at call.split k) c.promise) l.2 x lt) ∙ ap (λ (y : ℕ). has y x) same ∙ member in
      elim (cases_lt (s.wave i p k) (height_back g s i call k x)) [
        | inl less ↦ less
        | inr le ↦ absurd (not_both (Holds g (height_back g s i call k x) call.back q (has c.promise))
            (sooner g functions routed (height_back g s i call k x) (s.wave i p k) call.back q (has c.promise) le cell.state holds)
            (right.taken i c call.back q cell some).lost)
      ]

  -- The calls of a link, state by state.
  pub all_from : (cs : List Context) (s : Found) (j r x : ℕ) → AllCalled g cs s (CallsBy g j r x) → AllCalled g cs s (CallsFrom g j r x 0)
  all_from cs s j r x all i c p q is = elim (all i c p q is) [ inl called ↦ inl called | inr rest ↦ inr (rest, omega arith) ]

  pub none_from : (cs : List Context) (s : Found) (j r x from : ℕ) → g.states.count ≤ from → AllCalled g cs s (CallsFrom g j r x from) → AllCalled g cs s Nothing
  none_from cs s j r x from most all i c p q is = elim (all i c p q is) [ inl called ↦ inl called | inr rest ↦ absurd (let lt = is.state in omega (arith, lt, most, rest.1)) ]

  module _ (w mid new : Work) (known : IsKnown g (known_of w)) (step : LowersKeys g w mid) where
    abbrev Contexts : List Context
    Contexts = w.blocks.contexts.items

    unchanged : known_of w ≡ known_of mid
    unchanged = sym step.others.known

    mid_known : IsKnown g (known_of mid)
    mid_known = subst (IsKnown g) unchanged known

    pub one_from : (index : ℕ) (link : Cell) → IsCellAt g w index link → (cell : Cell) → slice_get Contexts cell.at.number ≡ Some cell.at.context → cell.pos.0 ≡ g.entry cell.at.context.function
        → slice_index w.store.to index ≡ suc cell.at.number → AsksCaller g mid new index cell
        → AllCalled g Contexts (found_of g mid) (CallsFrom g link.at.number link.pos.0 link.state.0 cell.state.0)
        → AllCalled g Contexts (found_of g new) (CallsFrom g link.at.number link.pos.0 link.state.0 (cell.state.0 + 1))
    one_from index link at cell callee entry goes asks all i c p q is =
        elim (later i c p q is) [
          | inl called ↦ inl called
          | inr rest ↦ elim (cases_lt cell.state.0 q) [
            | inl more ↦ inr (rest.0, omega (arith, more))
            | inr le ↦ inl (asked rest.0.0 rest.0.1 rest.0.2 (omega (arith, le, rest.1)))
          ]
        ]
      where
        later : AllCalled g Contexts (found_of g new) (CallsFrom g link.at.number link.pos.0 link.state.0 cell.state.0)
        later = subst (λ (t : Known). AllCalled g t.blocks.contexts.items (found_of g new) (CallsFrom g link.at.number link.pos.0 link.state.0 cell.state.0)) (sym unchanged)
            (still_called g functions routed alike mid new mid_known asks.step.others asks.step.lowers _
            (subst (λ (t : Known). AllCalled g t.blocks.contexts.items (found_of g mid) (CallsFrom g link.at.number link.pos.0 link.state.0 cell.state.0)) unchanged all))

        asked : (call : Called) → call_in (slice_get g.spots p) ≡ Some call → IsSame i p (class_of g call.split q) link.at.number link.pos.0 link.state.0 → q ≡ cell.state.0
            → IsCalled g (found_of g new) i p q
        asked call es same state =
            let k = class_of g call.split q in
            let spot : index_at g Contexts i p k ≡ index_at g Contexts link.at.number link.pos.0 link.state.0
            = ap (λ (y : ℕ). index_at g Contexts y p k) same.0 ∙ ap (λ (y : ℕ). index_at g Contexts link.at.number y k) same.1
            ∙ ap (λ (y : ℕ). index_at g Contexts link.at.number link.pos.0 y) same.2 in
            let here : index ≡ index_at g Contexts i p k = at.index ∙ sym (index_is g Contexts link.at.number link.at.context link.pos.0 link.state.0 at.is.at) ∙ sym spot in
            let value : value_at g Contexts w.store.to i p k ≡ suc cell.at.number = ap (slice_index w.store.to) (sym here) ∙ goes in
            let now : value_at g Contexts mid.store.to i p k ≡ suc cell.at.number = ap (λ (ys : List ℕ). value_at g Contexts ys i p k) step.others.to ∙ value in
            let there : value_at g mid.blocks.contexts.items mid.store.to i p k ≡ suc cell.at.number =
            subst (λ (t : Known). value_at g t.blocks.contexts.items mid.store.to i p k ≡ suc cell.at.number) unchanged now in
            let to : (found_of g mid).to i p k ≡ cell.at.number = omega (arith, there) in
            let is_mid : IsCell g mid.blocks.contexts.items i c p q = subst (λ (t : Known). IsCell g t.blocks.contexts.items i c p q) unchanged is in
            let linked : IsLink g Contexts i c p k call = link_of g functions routed alike Contexts (below g functions routed alike w w known) i c p q call is es in
            let l = step.right.linked i c p k call linked (is_tied (value_at g mid.blocks.contexts.items mid.store.to i p k) cell.at.number there) in
            let function : context call.function l.0 ≡ cell.at.context = same_Some _ _ (sym l.1 ∙ ap (slice_get Contexts) to ∙ callee) in
            let begins : g.entry call.function ≡ cell.pos.0 = ap (λ (y : Context). g.entry y.function) function ∙ sym entry in
            asks.called i c p q call is_mid es (to, begins, state) (subst (λ (t : Known). index ≡ index_at g t.blocks.contexts.items i p k) unchanged here)

    -- A link, state by state.
    module _ (link : Cell) (back moves : ℕ) (returns : Returns g link.pos.0 back) (cell : Cell) (asks : AsksBack g mid new cell link.pos.0 moves) (at : cell.at ≡ link.at) (pos : cell.pos.0 ≡ back) where
      pub one_again : (found_of g w).wave link.at.number link.pos.0 link.state.0 ≡ moves → ((call : Called) → IsLink g Contexts link.at.number link.at.context link.pos.0 link.state.0 call
          → (y : ℕ) → y < g.states.count → returned g.states (kept_at call.split link.state.0) y < cell.state.0
          → IsStanding g Contexts (found_of g mid) link.at.number link.pos.0 link.state.0 call y)
          → (call : Called) → IsLink g Contexts link.at.number link.at.context link.pos.0 link.state.0 call
          → (y : ℕ) → y < g.states.count → returned g.states (kept_at call.split link.state.0) y < cell.state.0 + 1
          → IsStanding g Contexts (found_of g new) link.at.number link.pos.0 link.state.0 call y
      one_again wave before call is y lt less =
          elim (cases_lt (returned g.states (kept_at call.split link.state.0) y) cell.state.0) [
            | inl earlier ↦ subst (λ (t : Known). IsStanding g t.blocks.contexts.items (found_of g new) link.at.number link.pos.0 link.state.0 call y) (sym unchanged)
                (stands_on g functions routed alike mid new mid_known asks.step link.at.number link.at.context link.pos.0 link.state.0 call y is_mid
                (subst (λ (t : Known). IsStanding g t.blocks.contexts.items (found_of g mid) link.at.number link.pos.0 link.state.0 call y) unchanged (before call is y lt earlier)))
            | inr most ↦ λ tied set goes member some.
                let same : returned g.states (kept_at call.split link.state.0) y ≡ cell.state.0 = omega (arith, less, most) in
                let one : returns.0 ≡ call = one_call (slice_get g.spots link.pos.0) returns.0 call returns.1 is.calls in
                let behind : call.back ≡ cell.pos.0 = ap (λ (c : Called). c.back) (sym one) ∙ returns.2 ∙ sym pos in
                let height : heights_of g (known_of new) link.at.number call.back (returned g.states (kept_at call.split link.state.0) y)
                ≡ heights_of g (known_of mid) cell.at.number cell.pos.0 cell.state.0
                = ap (λ (t : Known). heights_of g t link.at.number call.back (returned g.states (kept_at call.split link.state.0) y)) asks.step.others.known
                ∙ ap (λ (a : Tabled). heights_of g (known_of mid) a.number call.back (returned g.states (kept_at call.split link.state.0) y)) (sym at)
                ∙ ap (λ (r : ℕ). heights_of g (known_of mid) cell.at.number r (returned g.states (kept_at call.split link.state.0) y)) behind
                ∙ ap (heights_of g (known_of mid) cell.at.number cell.pos.0) same in
                let longer : (found_of g new).wave link.at.number link.pos.0 link.state.0 < heights_of g (known_of new) link.at.number call.back (returned g.states (kept_at call.split link.state.0) y)
                = promised_longer Contexts (below g functions routed alike w w known) (found_of g new) right_now link.at.number link.at.context link.pos.0 link.state.0 call is tied set y goes lt member some in
                (subst (λ (t : Known). IsStanding g t.blocks.contexts.items (found_of g new) link.at.number link.pos.0 link.state.0 call y) (sym unchanged)
                (subst (λ (a : Tabled). IsLink g mid.blocks.contexts.items a.number a.context link.pos.0 link.state.0 call
                → IsStanding g mid.blocks.contexts.items (found_of g new) a.number link.pos.0 link.state.0 call y) at
                (λ l. (asks.asked (omega (arith, longer, height, wave_now wave))).standing link.state.0 call l behind y lt same) is_mid)) tied set goes member some
          ]
        where
          is_mid : IsLink g mid.blocks.contexts.items link.at.number link.at.context link.pos.0 link.state.0 call
          is_mid = subst (λ (t : Known). IsLink g t.blocks.contexts.items link.at.number link.at.context link.pos.0 link.state.0 call) unchanged is

          right_now : AreRight g Contexts (found_of g new)
          right_now = subst (λ (t : Known). AreRight g t.blocks.contexts.items (found_of g new)) step.others.known asks.step.right

          wave_now : (found_of g w).wave link.at.number link.pos.0 link.state.0 ≡ moves → (found_of g new).wave link.at.number link.pos.0 link.state.0 ≡ moves
          wave_now e =
              subst (λ (s : Found). s.wave link.at.number link.pos.0 link.state.0 ≡ moves) (sym (found_keys g mid new asks.step.others))
              (subst (λ (s : Found). s.wave link.at.number link.pos.0 link.state.0 ≡ moves) (sym (found_keys g w mid step.others)) e)

      pub others_again : AllStanding g Contexts (found_of g mid) (IsIt link.at.number link.pos.0 link.state.0) → AllStanding g Contexts (found_of g new) (IsIt link.at.number link.pos.0 link.state.0)
      others_again all = subst (λ (t : Known). AllStanding g t.blocks.contexts.items (found_of g new) (IsIt link.at.number link.pos.0 link.state.0)) (sym unchanged)
          (still_standing g functions routed alike mid new mid_known asks.step.others asks.step.lowers _
          (subst (λ (t : Known). AllStanding g t.blocks.contexts.items (found_of g mid) (IsIt link.at.number link.pos.0 link.state.0)) unchanged all))

  pub all_again : (w new : Work) → IsKnown g (known_of w) → LowersKeys g w new → (link : Cell) → HasCell g w.blocks link.at link.pos.0 link.state.0
      → IsTied (found_of g w) link.at.number link.pos.0 link.state.0
      → (from : ℕ) → g.states.count ≤ from → AllStanding g w.blocks.contexts.items (found_of g new) (IsIt link.at.number link.pos.0 link.state.0)
      → ((call : Called) → IsLink g w.blocks.contexts.items link.at.number link.at.context link.pos.0 link.state.0 call
      → (y : ℕ) → y < g.states.count → returned g.states (kept_at call.split link.state.0) y < from
      → IsStanding g w.blocks.contexts.items (found_of g new) link.at.number link.pos.0 link.state.0 call y)
      → AllStanding g w.blocks.contexts.items (found_of g new) Nothing
  all_again w new known step link cell tied from most others before i c p k call is =
      elim (others i c p k call is) [
        | inl stands ↦ inl stands
        | inr same ↦
            let mine : IsLink g w.blocks.contexts.items link.at.number link.at.context link.pos.0 link.state.0 call = at_link same in
            let is_tied_now : IsTied (found_of g new) link.at.number link.pos.0 link.state.0 = subst (λ (s : Found). IsTied s link.at.number link.pos.0 link.state.0)
            (sym (found_keys g w new step.others)) tied in
            inl (link_is g w.blocks.contexts.items link.at.number link.at.context link.pos.0 link.state.0 call mine i c p k call is same
            (λ i c p k call. IsFresh (found_of g new) i p k × ((y : ℕ) → y < g.states.count → IsStanding g w.blocks.contexts.items (found_of g new) i p k call y)) (
              λ free. absurd (not_both ((found_of g new).tied link.at.number link.pos.0 link.state.0) is_tied_now free),
              λ y lt. before call mine y lt
                  (let b = (back_of g functions routed alike w.blocks.contexts.items
                  (below g functions routed alike w w known) link.at.number link.at.context link.pos.0 link.state.0 call y mine lt).state in omega (arith, b, most)),
            ))
      ]
    where
      at_link : IsSame i p k link.at.number link.pos.0 link.state.0 → IsLink g w.blocks.contexts.items link.at.number link.at.context link.pos.0 link.state.0 call
      at_link same = record {
        cell = cell;
        calls = subst (λ (y : ℕ). call_in (slice_get g.spots y) ≡ Some call) same.1 is.calls;
        class = subst (λ (y : ℕ). class_of g call.split y ≡ y) same.2 is.class;
      }

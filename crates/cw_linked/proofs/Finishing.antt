-- After a cell is taken: what waits for it is asked for, kind by kind.
use Rattle.std.proofs.Common.{◌≡◌, ℕ, ◌<◌, ◌≤◌, List, Some, length, sym, ap, ◌∙◌, subst, inl, inr}
use Rattle.std.specs.Prelude.{slice_get, slice_index}
use Rattle.std.proofs.lemmas.Option.{same_Some}
use Rattle.cw_game.specs.Games.{Game}
use Rattle.cw_game.specs.Pairs.{Called, call_in}
use Rattle.cw_solve.specs.declared.contexts.Context.{Context}
use Rattle.cw_solve.specs.Contexts.{context}
use Rattle.cw_product.specs.Routed.{AreRouted}
use Rattle.cw_solve.specs.Tables.{HasCell}
use Rattle.cw_linked.specs.declared.work.Cell.{Cell}
use Rattle.cw_linked.specs.declared.work.Work.{Work}
use Rattle.cw_linked.specs.Calls.{AreCallers, AsksCallers}
use Rattle.cw_linked.specs.Founds.{Found, class_of, AreAlike, IsLink, AreRight, Nothing, AllClosed, AllCalled, AllStanding}
use Rattle.cw_linked.specs.Popped.{IsTaken, Finishes}
use Rattle.cw_linked.specs.Queues.{found_of, AreFlagged, LowersKeys, AsksWaiting}
use Rattle.cw_linked.specs.Returns.{AreFew, AsksReturns}
use Rattle.cw_linked.specs.Steps.{CallsThere, ReturnsThere}
use Rattle.cw_linked.specs.Works.{Known, known_of, IsKnown, heights_of, value_at}
use Rattle.cw_linked.proofs.Backs.{stands_on, fresh_on}
use Rattle.cw_linked.proofs.Callers.{tied_or_not, is_tied, untied_called}
use Rattle.cw_linked.proofs.Least.{link_of}
use Rattle.cw_linked.proofs.Staying.{callers_on, flagged_on}
use Rattle.cw_linked.proofs.Telling.{below, still_closed, still_called, still_standing, two_steps}
use Rattle.cw_linked.proofs.Working.{found_keys}

-- links go to as few contexts
pub next_few : (g : Game) (old new : Work) → LowersKeys g old new → AreFew old → AreFew new
next_few g old new step few k lt =
    subst (λ (ys : List ℕ). slice_index ys k ≤ length new.blocks.contexts.items) (sym step.others.to)
    (subst (λ (t : Known). slice_index old.store.to k ≤ length t.blocks.contexts.items) (sym step.others.known) (few k (subst (λ (t : Known). k < length t.heights) step.others.known lt)))

-- Keys become lower.
module _ (g : Game) (functions : ℕ) (routed : AreRouted g functions) (alike : AreAlike g) (old new : Work) (known : IsKnown g (known_of old)) (step : LowersKeys g old new) where
  unchanged : known_of old ≡ known_of new
  unchanged = sym step.others.known

  pub next_known : IsKnown g (known_of new)
  next_known = subst (IsKnown g) unchanged known

  pub next_flagged : AreFlagged g old → AreFlagged g new
  next_flagged = flagged_on g old new (ap (λ (t : Known). t.blocks.contexts.items) step.others.known) step.others.flags

  pub next_callers : AreCallers old → AreCallers new
  next_callers = callers_on old new step.others.known step.others.to step.others.lists

  pub next_right : AreRight g new.blocks.contexts.items (found_of g new)
  next_right = subst (λ (t : Known). AreRight g t.blocks.contexts.items (found_of g new)) unchanged step.right

  pub next_cell : (cell : Cell) → HasCell g old.blocks cell.at cell.pos.0 cell.state.0 → HasCell g new.blocks cell.at cell.pos.0 cell.state.0
  next_cell cell is = subst (λ (t : Known). HasCell g t.blocks cell.at cell.pos.0 cell.state.0) unchanged is

  pub next_height : (cell : Cell) (height : ℕ) → heights_of g (known_of old) cell.at.number cell.pos.0 cell.state.0 ≡ height
      → heights_of g (known_of new) cell.at.number cell.pos.0 cell.state.0 ≡ height
  next_height cell height is = subst (λ (t : Known). heights_of g t cell.at.number cell.pos.0 cell.state.0 ≡ height) unchanged is

  pub next_closed : AllClosed g old.blocks.contexts.items (found_of g old) Nothing → AllClosed g new.blocks.contexts.items (found_of g new) Nothing
  next_closed all = subst (λ (t : Known). AllClosed g t.blocks.contexts.items (found_of g new) Nothing) unchanged
      (still_closed g functions routed alike old new known step.others step.lowers Nothing all)

  pub next_called : AllCalled g old.blocks.contexts.items (found_of g old) Nothing → AllCalled g new.blocks.contexts.items (found_of g new) Nothing
  next_called all = subst (λ (t : Known). AllCalled g t.blocks.contexts.items (found_of g new) Nothing) unchanged
      (still_called g functions routed alike old new known step.others step.lowers Nothing all)

  pub next_calls : (j r x : ℕ) → AllCalled g old.blocks.contexts.items (found_of g old) (CallsThere g (found_of g old) j r x)
      → AllCalled g new.blocks.contexts.items (found_of g new) (CallsThere g (found_of g new) j r x)
  next_calls j r x all =
      let later = still_called g functions routed alike old new known step.others step.lowers (CallsThere g (found_of g old) j r x) all in
      subst (λ (t : Known). AllCalled g t.blocks.contexts.items (found_of g new) (CallsThere g (found_of g new) j r x)) unchanged
      (subst (λ (s : Found). AllCalled g old.blocks.contexts.items (found_of g new) (CallsThere g s j r x)) (sym (found_keys g old new step.others)) later)

  pub next_returns : (j r x : ℕ) → AllStanding g old.blocks.contexts.items (found_of g old) (ReturnsThere g old.blocks.contexts.items (found_of g old) j r x)
      → AllStanding g new.blocks.contexts.items (found_of g new) (ReturnsThere g new.blocks.contexts.items (found_of g new) j r x)
  next_returns j r x all =
      let later = still_standing g functions routed alike old new known step.others step.lowers (ReturnsThere g old.blocks.contexts.items (found_of g old) j r x) all in
      subst (λ (t : Known). AllStanding g t.blocks.contexts.items (found_of g new) (ReturnsThere g t.blocks.contexts.items (found_of g new) j r x)) unchanged
      (λ i c p k call is. elim (later i c p k call is) [
        | inl stands ↦ inl stands
        | inr rest ↦
            let link : IsLink g old.blocks.contexts.items i c p k rest.0 = record { cell = is.cell; calls = rest.1; class = is_class i c p k call rest.0 is rest.1 } in
            inr (
              rest.0,
              rest.1,
              rest.2,
              rest.3,
              fresh_on g functions routed alike old new known step i c p k rest.0 link rest.4,
              λ y lt apart. stands_on g functions routed alike old new known step i c p k rest.0 y link (rest.5 y lt apart),
            )
      ])
    where
      is_class : (i : ℕ) (c : Context) (p k : ℕ) (call other : Called) → IsLink g old.blocks.contexts.items i c p k call → call_in (slice_get g.spots p) ≡ Some other → class_of g other.split k ≡ k
      is_class i c p k call other is es = subst (λ (y : Called). class_of g y.split k ≡ k) (same_Some call other (sym is.calls ∙ es)) is.class

-- A cell that is none of its context's entry is no call's callee.
pub no_entry : (g : Game) (functions : ℕ) (routed : AreRouted g functions) (alike : AreAlike g) (w : Work) → IsKnown g (known_of w) → AreRight g w.blocks.contexts.items (found_of g w)
    → (j : ℕ) (d : Context) (r x : ℕ)
    → slice_get w.blocks.contexts.items j ≡ Some d → (r ≡ g.entry d.function → ⊥) → AllCalled g w.blocks.contexts.items (found_of g w) (CallsThere g (found_of g w) j r x)
    → AllCalled g w.blocks.contexts.items (found_of g w) Nothing
no_entry g functions routed alike w known right j d r x at other all i c p q is =
    elim (all i c p q is) [
      | inl called ↦ inl called
      | inr rest ↦
          let k = class_of g rest.0.split q in
          elim (tied_or_not (value_at g w.blocks.contexts.items w.store.to i p k) j rest.2.0) [
            | inl free ↦ inl (untied_called g (found_of g w) i p q rest.0 rest.1 free)
            | inr here ↦
                let link = link_of g functions routed alike w.blocks.contexts.items (below g functions routed alike w w known) i c p q rest.0 is rest.1 in
                let l = right.linked i c p k rest.0 link (is_tied (value_at g w.blocks.contexts.items w.store.to i p k) j here) in
                let same : context rest.0.function l.0 ≡ d = same_Some _ _ (sym l.1 ∙ ap (slice_get w.blocks.contexts.items) rest.2.0 ∙ at) in
                absurd (other (sym rest.2.1 ∙ ap (λ (y : Context). g.entry y.function) same))
          ]
    ]

-- The three kinds, one after the other.
module _ (g : Game) (functions : ℕ) (routed : AreRouted g functions) (alike : AreAlike g) (old one two new : Work) (cell : Cell) (height : ℕ) (taken : IsTaken g old cell height)
    (waiting : AsksWaiting g old one) where
  first : LowersKeys g old one
  first = waiting.step

  pub one_known : IsKnown g (known_of one)
  one_known = next_known g functions routed alike old one taken.known first

  pub one_called : AllCalled g one.blocks.contexts.items (found_of g one) (CallsThere g (found_of g one) cell.at.number cell.pos.0 cell.state.0)
  one_called = next_calls g functions routed alike old one taken.known first cell.at.number cell.pos.0 cell.state.0 taken.called

  module _ (callers : AsksCallers g one two) where
    second : LowersKeys g old two
    second = two_steps g old one two first callers.step

    pub two_known : IsKnown g (known_of two)
    two_known = next_known g functions routed alike old two taken.known second

    pub two_few : AreFew two
    two_few = (next_callers g functions routed alike old two taken.known second taken.callers).few

    pub two_standing : AllStanding g two.blocks.contexts.items (found_of g two) (ReturnsThere g two.blocks.contexts.items (found_of g two) cell.at.number cell.pos.0 cell.state.0)
    two_standing = next_returns g functions routed alike old two taken.known second cell.at.number cell.pos.0 cell.state.0 taken.standing

    module _ (returns : AsksReturns g two new) where
      third : LowersKeys g old new
      third = two_steps g old two new second returns.step

      closed_one : AllClosed g one.blocks.contexts.items (found_of g one) Nothing
      closed_one = subst (λ (t : Known). AllClosed g t.blocks.contexts.items (found_of g one) Nothing) (sym first.others.known) waiting.closed

      called_two : AllCalled g two.blocks.contexts.items (found_of g two) Nothing
      called_two = subst (λ (t : Known). AllCalled g t.blocks.contexts.items (found_of g two) Nothing) (sym callers.step.others.known) callers.called

      pub finished : Finishes g old new old.store.to
      finished = record {
        kept = record {
          known = next_known g functions routed alike old new taken.known third;
          long = third.long;
          flagged = next_flagged g functions routed alike old new taken.known third taken.flagged;
          high = third.high;
          callers = next_callers g functions routed alike old new taken.known third taken.callers;
          dues = third.dues taken.dues;
          found = record {
            right = next_right g functions routed alike old new taken.known third;
            closed = next_closed g functions routed alike one new one_known (two_steps g one two new callers.step returns.step) closed_one;
            called = next_called g functions routed alike two new (two_known) returns.step called_two;
            standing = subst (λ (t : Known). AllStanding g t.blocks.contexts.items (found_of g new) Nothing) (sym returns.step.others.known) returns.standing;
          };
        };
        known = third.others.known;
        to = third.others.to;
      }

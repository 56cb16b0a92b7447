-- A link that is ready goes to its context, and what is left to do then is done: the solver keeps all.
use Rattle.std.proofs.Common.{◌≡◌, ℕ, suc, ◌+◌, ◌-◌, ◌*◌, ◌<◌, List, Bool, true, not, Some, length, set, refl, sym, ap, ◌∙◌, subst, arith, inl, inr, add-one}
use Rattle.std.specs.Prelude.{slice_get, slice_index, nat_eq}
use Rattle.std.proofs.lemmas.Bool.{cases_eq}
use Rattle.std.proofs.lemmas.List.{length-set, get_or-set_same, get_or-set_other}
use Rattle.cw_game.specs.Games.{Game}
use Rattle.cw_game.specs.Pairs.{Called}
use Rattle.cw_links.specs.Flags.{is_flagged}
use Rattle.cw_solve.specs.declared.contexts.Context.{Context}
use Rattle.cw_product.specs.Routed.{AreRouted, IsOf}
use Rattle.cw_solve.specs.Contexts.{context}
use Rattle.cw_solve.specs.Tables.{HasCell}
use Rattle.cw_solve.proofs.Falls.{back_stays}
use Rattle.cw_solve.proofs.Slots.{slot_within}
use Rattle.cw_linked.specs.declared.work.Cell.{Cell}
use Rattle.cw_linked.specs.declared.work.Work.{Work}
use Rattle.cw_linked.specs.Founds.{Found, AreAlike, IsLink, IsTied, AreRight, Nothing, AllClosed, AllCalled, AllStanding}
use Rattle.cw_linked.specs.Popped.{Finishes}
use Rattle.cw_linked.specs.Queues.{found_of, IsLinkAt, AreFlagged, AreDue, LowersKeys, IsCellAt}
use Rattle.cw_linked.specs.Returns.{Returns, AreFew}
use Rattle.cw_linked.specs.Steps.{with_links, Ties, CallsBy, IsIt}
use Rattle.cw_linked.specs.Tied.{IsFirm, IsTieable, TiesLink, AsksCalls, AsksAgain}
use Rattle.cw_linked.specs.Works.{Known, known_of, IsKnown, AreUpTo, index_at, value_at}
use Rattle.cw_linked.proofs.Bounding.{index_is}
use Rattle.cw_linked.proofs.Finishing.{next_known, next_callers, next_flagged, next_right, next_cell, next_closed, next_called}
use Rattle.cw_linked.proofs.Staying.{flagged_on}
use Rattle.cw_linked.proofs.Takings.{found_in}
use Rattle.cw_linked.proofs.Telling.{below, up_to_set, still_standing, two_steps}
use Rattle.cw_linked.proofs.Tying.{tied_right, tied_called, tied_standing}
use Rattle.cw_linked.proofs.Working.{found_keys}
use Rattle.cw_linked.proofs.Writing.{ties_written}

module _ (g : Game) (functions : ℕ) (routed : AreRouted g functions) (alike : AreAlike g) (old mid : Work) (link : Cell) (index moves callee back : ℕ) (target : Context)
    (tieable : IsTieable g old link index moves callee back target) where
  abbrev Contexts : List Context
  Contexts = old.blocks.contexts.items

  abbrev call : Called
  call = tieable.ready.0

  is_link : IsLink g Contexts link.at.number link.at.context link.pos.0 link.state.0 call
  is_link = tieable.ready.1

  index_here : index ≡ index_at g Contexts link.at.number link.pos.0 link.state.0
  index_here = tieable.at.index ∙ sym (index_is g Contexts link.at.number link.at.context link.pos.0 link.state.0 tieable.at.is.at)

  pub within : index < length old.store.heights
  within = omega (arith, tieable.at.index, slot_within g Contexts link.at.number link.at.context link.pos.0 link.state.0 tieable.at.is, tieable.firm.known.cells)

  pub link_flagged : is_flagged old.store.flags index ≡ true
  link_flagged = tieable.firm.flagged index (link.at.number, link.at.context, link.pos.0, link.state.0, call, is_link, index_here)

  functions_below : (i : ℕ) (c : Context) → slice_get Contexts i ≡ Some c → c.function < functions
  functions_below = below g functions routed alike old old tieable.firm.known

  module _ (ties : TiesLink old mid index callee moves) where
    unchanged : known_of old ≡ known_of mid
    unchanged = sym ties.known

    ties_to : mid.store.to ≡ set old.store.to index (suc callee)
    ties_to = ties.to ∙ ap (λ (v : ℕ). set old.store.to index v) (add-one callee)

    lengths : length mid.store.heights ≡ length old.store.heights
    lengths = ap (λ (t : Known). length t.heights) ties.known

    abbrev To : ℕ → ℕ → ℕ → ℕ
    To = λ i p k. value_at g Contexts (set old.store.to index (suc callee)) i p k - 1

    abbrev Wave : ℕ → ℕ → ℕ → ℕ
    Wave = value_at g Contexts (set old.store.waves index moves)

    abbrev Tied : ℕ → ℕ → ℕ → Bool
    Tied = λ i p k. not (nat_eq (value_at g Contexts (set old.store.to index (suc callee)) i p k) 0)

    abbrev After : Found
    After = with_links (found_of g old) To Wave Tied

    found_mid : found_of g mid ≡ After
    found_mid =
        ap (λ (t : Known). found_in g t.blocks.contexts.items t.heights mid.store.asked mid.store.to mid.store.waves mid.store.due) ties.known
        ∙ ap (λ (ys : List ℕ). found_in g Contexts old.store.heights ys mid.store.to mid.store.waves mid.store.due) ties.asked
        ∙ ap (λ (ys : List ℕ). found_in g Contexts old.store.heights old.store.asked ys mid.store.waves mid.store.due) ties_to
        ∙ ap (λ (ys : List ℕ). found_in g Contexts old.store.heights old.store.asked (set old.store.to index (suc callee)) ys mid.store.due) ties.waves
        ∙ ap (λ (ys : List ℕ). found_in g Contexts old.store.heights old.store.asked (set old.store.to index (suc callee)) (set old.store.waves index moves) ys) ties.due

    is_tied_there : Ties g Contexts (found_of g old) To Wave Tied link.at.number link.pos.0 link.state.0 callee moves
    is_tied_there =
        subst (λ (k : ℕ). Ties g Contexts (found_of g old) (λ i p q. value_at g Contexts (set old.store.to k (suc callee)) i p q - 1) (value_at g Contexts (set old.store.waves k moves))
        (λ i p q. not (nat_eq (value_at g Contexts (set old.store.to k (suc callee)) i p q) 0)) link.at.number link.pos.0 link.state.0 callee moves) (sym index_here)
        (ties_written g Contexts (found_of g old) link.at.number link.at.context link.pos.0 link.state.0 call is_link old.store.to old.store.waves callee moves
        (omega (arith, index_here, within, tieable.firm.long.to)) (omega (arith, index_here, within, tieable.firm.long.waves)) (λ i p k. refl) (λ i p k. refl) (λ i p k. refl))

    free : (found_of g old).due link.at.number link.pos.0 link.state.0 ≡ 0
    free = ap (slice_index old.store.due) (sym index_here) ∙ tieable.free

    there : slice_get Contexts callee ≡ Some (context call.function target.promise)
    there = tieable.there ∙ ap (λ (f : ℕ). Some (context f target.promise)) (sym tieable.ready.3)

    dues : AreDue g mid
    dues k lt some = elim (cases_eq k index) [
      | inl e ↦ absurd (let z : slice_index mid.store.due k ≡ 0 = ap (slice_index mid.store.due) e ∙ ap (λ (ys : List ℕ). slice_index ys index) ties.due ∙ tieable.free in omega (arith, z, some))
      | inr ne ↦
          let same = ap (λ (ys : List ℕ). slice_index ys k) ties.due in
          let to : slice_index mid.store.to k ≡ slice_index old.store.to k = ap (λ (ys : List ℕ). slice_index ys k) ties_to ∙ get_or-set_other old.store.to index k (suc callee) 0 ne in
          let h = tieable.firm.dues k (omega (arith, lt, lengths)) (omega (arith, some, same)) in (
            subst (λ (t : Known). IsLinkAt g t.blocks.contexts.items k) unchanged h.0,
            λ tied. let low = h.1 (omega (arith, tied, to)) in omega (arith, low, same),
          )
    ]

    pub mid_firm : IsFirm g mid
    mid_firm = record {
      known = subst (IsKnown g) unchanged tieable.firm.known;
      long = record {
        flags = ap (λ (ms : List Bool). length ms) ties.flags ∙ tieable.firm.long.flags ∙ sym lengths;
        asked = ap (λ (ys : List ℕ). length ys) ties.asked ∙ tieable.firm.long.asked ∙ sym lengths;
        due = ap (λ (ys : List ℕ). length ys) ties.due ∙ tieable.firm.long.due ∙ sym lengths;
        to = ap (λ (ys : List ℕ). length ys) ties_to ∙ length-set old.store.to index (suc callee) ∙ tieable.firm.long.to ∙ sym lengths;
        waves = ap (λ (ys : List ℕ). length ys) ties.waves ∙ length-set old.store.waves index moves ∙ tieable.firm.long.waves ∙ sym lengths;
      };
      high = record {
        heights = subst (λ (t : Known). AreUpTo t.heights t.written) unchanged tieable.firm.high.heights;
        asked = subst (λ (t : Known). AreUpTo mid.store.asked (2 * t.written + 2)) unchanged (subst (λ (ys : List ℕ). AreUpTo ys (2 * old.written + 2)) (sym ties.asked) tieable.firm.high.asked);
        due = subst (λ (t : Known). AreUpTo mid.store.due (2 * t.written + 1)) unchanged (subst (λ (ys : List ℕ). AreUpTo ys (2 * old.written + 1)) (sym ties.due) tieable.firm.high.due);
        waves = subst (λ (t : Known). AreUpTo mid.store.waves t.written) unchanged (subst (λ (ys : List ℕ). AreUpTo ys old.written) (sym ties.waves)
            (up_to_set old.store.waves index moves old.written (omega (arith, within, tieable.firm.long.waves)) tieable.low tieable.firm.high.waves));
      };
      flagged = flagged_on g old mid (ap (λ (t : Known). t.blocks.contexts.items) ties.known) ties.flags tieable.firm.flagged;
      callers = ties.callers;
      dues = dues;
      right = subst (λ (t : Known). AreRight g t.blocks.contexts.items (found_of g mid)) unchanged (subst (λ (s : Found). AreRight g Contexts s) (sym found_mid)
          (tied_right g functions routed alike Contexts functions_below (found_of g old) tieable.firm.right link.at.number link.at.context link.pos.0 link.state.0 call is_link free moves
          target.promise tieable.ready.4
          callee there To Wave Tied is_tied_there));
    }

    -- before the calls of the link are asked for
    pub mid_at : IsCellAt g mid index link
    mid_at = record {
      is = subst (λ (t : Known). HasCell g t.blocks link.at link.pos.0 link.state.0) unchanged tieable.at.is;
      index = tieable.at.index ∙ sym (index_is g Contexts link.at.number link.at.context link.pos.0 link.state.0 tieable.at.is.at)
          ∙ ap (λ (t : Known). index_at g t.blocks.contexts.items link.at.number link.pos.0 link.state.0) unchanged
          ∙ index_is g mid.blocks.contexts.items link.at.number link.at.context link.pos.0 link.state.0
          (subst (λ (t : Known). slice_get t.blocks.contexts.items link.at.number ≡ Some link.at.context) unchanged tieable.at.is.at);
    }

    pub mid_goes : slice_index mid.store.to index ≡ suc callee
    mid_goes = ap (λ (ys : List ℕ). slice_index ys index) ties_to ∙ get_or-set_same old.store.to index (suc callee) 0 (omega (arith, within, tieable.firm.long.to))

    pub mid_there : slice_get mid.blocks.contexts.items callee ≡ Some target
    mid_there = subst (λ (t : Known). slice_get t.blocks.contexts.items callee ≡ Some target) unchanged tieable.there

    pub mid_called : AllCalled g mid.blocks.contexts.items (found_of g mid) (CallsBy g link.at.number link.pos.0 link.state.0)
    mid_called = subst (λ (t : Known). AllCalled g t.blocks.contexts.items (found_of g mid) (CallsBy g link.at.number link.pos.0 link.state.0)) unchanged
        (subst (λ (s : Found). AllCalled g Contexts s (CallsBy g link.at.number link.pos.0 link.state.0)) (sym found_mid)
        (tied_called g functions routed alike Contexts functions_below (found_of g old) tieable.firm.right link.at.number link.at.context link.pos.0 link.state.0 call is_link free moves
        target.promise tieable.ready.4
        callee there To Wave Tied is_tied_there tieable.called))

    mid_closed : AllClosed g mid.blocks.contexts.items (found_of g mid) Nothing
    mid_closed = subst (λ (t : Known). AllClosed g t.blocks.contexts.items (found_of g mid) Nothing) unchanged (subst (λ (s : Found). AllClosed g Contexts s Nothing) (sym found_mid) tieable.closed)

    mid_standing : AllStanding g mid.blocks.contexts.items (found_of g mid) (IsIt link.at.number link.pos.0 link.state.0)
    mid_standing = subst (λ (t : Known). AllStanding g t.blocks.contexts.items (found_of g mid) (IsIt link.at.number link.pos.0 link.state.0)) unchanged
        (subst (λ (s : Found). AllStanding g Contexts s (IsIt link.at.number link.pos.0 link.state.0)) (sym found_mid)
        (tied_standing g functions routed alike Contexts functions_below (found_of g old) tieable.firm.right link.at.number link.at.context link.pos.0 link.state.0 call is_link free moves
        target.promise tieable.ready.4
        callee there To Wave Tied is_tied_there tieable.standing))

    mid_tied : IsTied (found_of g mid) link.at.number link.pos.0 link.state.0
    mid_tied = subst (λ (s : Found). IsTied s link.at.number link.pos.0 link.state.0) (sym found_mid) is_tied_there.tied_now

    mid_wave : (found_of g mid).wave link.at.number link.pos.0 link.state.0 ≡ moves
    mid_wave = subst (λ (s : Found). s.wave link.at.number link.pos.0 link.state.0 ≡ moves) (sym found_mid) is_tied_there.now

    pub back_of_link : IsOf g link.at.context.function back
    back_of_link = subst (λ (y : ℕ). IsOf g link.at.context.function y) tieable.ready.2
        (back_stays g functions routed link.at.context.function link.pos.0 call (functions_below link.at.number link.at.context tieable.at.is.at) tieable.at.is.of is_link.calls)

    pub returns_back : Returns g link.pos.0 back
    returns_back = (call, is_link.calls, tieable.ready.2)

    -- and after
    module _ (one : Work) (calls : AsksCalls g mid one) where
      pub one_known : IsKnown g (known_of one)
      one_known = next_known g functions routed alike mid one mid_firm.known calls.step

      pub one_right : AreRight g one.blocks.contexts.items (found_of g one)
      one_right = next_right g functions routed alike mid one mid_firm.known calls.step

      pub one_few : AreFew one
      one_few = (next_callers g functions routed alike mid one mid_firm.known calls.step mid_firm.callers).few

      pub one_flagged : AreFlagged g one
      one_flagged = next_flagged g functions routed alike mid one mid_firm.known calls.step mid_firm.flagged

      pub one_cell : HasCell g one.blocks link.at link.pos.0 link.state.0
      one_cell = next_cell g functions routed alike mid one mid_firm.known calls.step link mid_at.is

      pub one_tied : IsTied (found_of g one) link.at.number link.pos.0 link.state.0
      one_tied = subst (λ (s : Found). IsTied s link.at.number link.pos.0 link.state.0) (sym (found_keys g mid one calls.step.others)) mid_tied

      pub one_wave : (found_of g one).wave link.at.number link.pos.0 link.state.0 ≡ moves
      one_wave = subst (λ (s : Found). s.wave link.at.number link.pos.0 link.state.0 ≡ moves) (sym (found_keys g mid one calls.step.others)) mid_wave

      pub one_standing : AllStanding g one.blocks.contexts.items (found_of g one) (IsIt link.at.number link.pos.0 link.state.0)
      one_standing = subst (λ (t : Known). AllStanding g t.blocks.contexts.items (found_of g one) (IsIt link.at.number link.pos.0 link.state.0)) (sym calls.step.others.known)
          (still_standing g functions routed alike mid one mid_firm.known calls.step.others calls.step.lowers _ mid_standing)

      module _ (new : Work) (again : AsksAgain g one new) where
        both : LowersKeys g mid new
        both = two_steps g mid one new calls.step again.step

        one_called : AllCalled g one.blocks.contexts.items (found_of g one) Nothing
        one_called = subst (λ (t : Known). AllCalled g t.blocks.contexts.items (found_of g one) Nothing) (sym calls.step.others.known) calls.called

        pub tied_all : Finishes g old new (set old.store.to index (callee + 1))
        tied_all = record {
          kept = record {
            known = next_known g functions routed alike mid new mid_firm.known both;
            long = both.long;
            flagged = next_flagged g functions routed alike mid new mid_firm.known both mid_firm.flagged;
            high = both.high;
            callers = next_callers g functions routed alike mid new mid_firm.known both mid_firm.callers;
            dues = both.dues mid_firm.dues;
            found = record {
              right = next_right g functions routed alike mid new mid_firm.known both;
              closed = next_closed g functions routed alike mid new mid_firm.known both mid_closed;
              called = next_called g functions routed alike one new one_known again.step one_called;
              standing = subst (λ (t : Known). AllStanding g t.blocks.contexts.items (found_of g new) Nothing) (sym again.step.others.known) again.standing;
            };
          };
          known = both.others.known ∙ ties.known;
          to = both.others.to ∙ ties.to;
        }

-- What is told of a cell is asked for.
use Rattle.std.proofs.Common.{◌≡◌, ℕ, ◌+◌, ◌*◌, ◌<◌, ◌≤◌, List, false, ◌&&◌, ◌||◌, Some, length, get_or, set, refl, sym, ap, ◌∙◌, subst, arith, inl, inr, length-set}
use Rattle.std.proofs.Common.{get_or-set_same, get_or-set_other, Bool}
use Rattle.std.specs.Prelude.{slice_get, slice_index, nat_eq, nat_lt}
use Rattle.std.proofs.lemmas.Bool.{cases_eq}
use Rattle.cw_game.specs.Games.{Game, Holds}
use Rattle.cw_game.specs.Pairs.{has, is_call_in}
use Rattle.cw_links.specs.Keys.{asked_with}
use Rattle.cw_solve.specs.declared.contexts.Context.{Context}
use Rattle.cw_solve.specs.Tabled.{Tabled}
use Rattle.cw_product.specs.Routed.{AreRouted}
use Rattle.cw_solve.specs.Rounds.{slot, IsCell}
use Rattle.cw_solve.specs.Tables.{HasCell}
use Rattle.cw_solve.proofs.Slots.{slot_within}
use Rattle.cw_solve.proofs.Tabling.{there_at}
use Rattle.cw_linked.specs.declared.work.Work.{Work}
use Rattle.cw_linked.specs.Founds.{Found, AreAlike, AreRight, Waits, IsClosed, AllClosed, AllCalled, AllStanding}
use Rattle.cw_linked.specs.Queues.{found_of, AreLong, AreSameBut, AsksForCell, AreHigh, IsLinkAt, AreDue, LowersKeys, AsksImplied}
use Rattle.cw_linked.specs.Steps.{with_keys, Lowers, IsBound}
use Rattle.cw_linked.specs.Works.{Known, known_of, IsKnown, heights_of, AreUpTo, index_at, value_at}
use Rattle.cw_linked.proofs.Asking.{chosen_then, chosen_else}
use Rattle.std.proofs.lemmas.Bool.{cases_Bool as decide}
use Rattle.cw_linked.proofs.Bounding.{index_is}
use Rattle.cw_linked.proofs.Closing.{closed_untold, closed_asked, bound_is_lost}
use Rattle.cw_linked.proofs.Lowering.{lowers_all_closed, lowers_all_called, lowers_all_standing}
use Rattle.cw_linked.proofs.Working.{Keys, found_keys, is_asked, cell_lowers, cell_right}

-- what waits as a link is one, where the links and their keys are as before
pub same_dues : (g : Game) (old new : Work) → AreSameBut old new → new.store.due ≡ old.store.due → AreDue g old → AreDue g new
same_dues g old new same due are k lt some =
    let before = subst (λ (t : Known). k < length t.heights) same.known lt in
    let h = are k before (subst (λ (ys : List ℕ). 0 < slice_index ys k) due some) in (
      subst (λ (t : Known). IsLinkAt g t.blocks.contexts.items k) (sym same.known) h.0,
      λ tied. subst (λ (ys : List ℕ). 1 < slice_index ys k) (sym due) (h.1 (subst (λ (ys : List ℕ). 0 < slice_index ys k) same.to tied)),
    )

-- a number that is written is no higher
pub up_to_set : (values : List ℕ) (index v most : ℕ) → index < length values → v ≤ most → AreUpTo values most → AreUpTo (set values index v) most
up_to_set values index v most lt le up k =
    elim (cases_eq k index) [
      | inl e ↦ let here : get_or (set values index v) k 0 ≡ v = ap (λ (y : ℕ). get_or (set values index v) y 0) e ∙ get_or-set_same values index v 0 lt in omega (arith, here, le)
      | inr ne ↦ let there : get_or (set values index v) k 0 ≡ get_or values k 0 = get_or-set_other values index k v 0 ne in let old = up k in omega (arith, there, old)
    ]

pub asked_up_to : (heights asked : List ℕ) (index key most : ℕ) → index < length asked → key ≤ most → AreUpTo asked most → AreUpTo (asked_with heights asked index key) most
asked_up_to heights asked index key most lt le up =
    elim (decide (nat_eq (slice_index heights index) 0 && (nat_eq (slice_index asked index) 0 || nat_lt key (slice_index asked index)))) [
      | inl h ↦ subst (λ (y : List ℕ). AreUpTo y most) (sym (chosen_then _ (set asked index key) asked h)) (up_to_set asked index key most lt le up)
      | inr h ↦ subst (λ (y : List ℕ). AreUpTo y most) (sym (chosen_else _ (set asked index key) asked h)) up
    ]

asked_length : (heights asked : List ℕ) (index key : ℕ) → length (asked_with heights asked index key) ≡ length asked
asked_length heights asked index key =
    elim (decide (nat_eq (slice_index heights index) 0 && (nat_eq (slice_index asked index) 0 || nat_lt key (slice_index asked index)))) [
      | inl h ↦ ap (λ (y : List ℕ). length y) (chosen_then _ (set asked index key) asked h) ∙ length-set asked index key
      | inr h ↦ ap (λ (y : List ℕ). length y) (chosen_else _ (set asked index key) asked h)
    ]

module _ (g : Game) (functions : ℕ) (routed : AreRouted g functions) (alike : AreAlike g) (old new : Work) (known : IsKnown g (known_of old)) where
  abbrev Contexts : List Context
  Contexts = old.blocks.contexts.items

  pub below : (i : ℕ) (c : Context) → slice_get Contexts i ≡ Some c → c.function < functions
  below i c at = (there_at g functions routed old.blocks known.blocks i c at).below

  -- where only keys change, and become lower, what is asked for is still asked for
  module _ (same : AreSameBut old new) (lowers : Lowers g Contexts (found_of g old) (value_at g Contexts new.store.asked) (value_at g Contexts new.store.due)) where
    pub still_closed : (Rest : ℕ → ℕ → ℕ → Type 0) → AllClosed g Contexts (found_of g old) Rest → AllClosed g Contexts (found_of g new) Rest
    still_closed Rest all = subst (λ (y : Found). AllClosed g Contexts y Rest) (sym (found_keys g old new same))
        (lowers_all_closed g functions routed alike Contexts below (found_of g old) _ _ lowers Rest all)

    pub still_called : (Rest : ℕ → ℕ → ℕ → Type 0) → AllCalled g Contexts (found_of g old) Rest → AllCalled g Contexts (found_of g new) Rest
    still_called Rest all = subst (λ (y : Found). AllCalled g Contexts y Rest) (sym (found_keys g old new same))
        (lowers_all_called g functions routed alike Contexts below (found_of g old) _ _ lowers Rest all)

    pub still_standing : (Rest : ℕ → ℕ → ℕ → Type 0) → AllStanding g Contexts (found_of g old) Rest → AllStanding g Contexts (found_of g new) Rest
    still_standing Rest all = subst (λ (y : Found). AllStanding g Contexts y Rest) (sym (found_keys g old new same))
        (lowers_all_standing g functions routed alike Contexts below (found_of g old) _ _ lowers Rest all)

  -- A cell that is lost within so many moves is asked for.
  module _ (long : AreLong old) (high : AreHigh old) (right : AreRight g Contexts (found_of g old)) (j : ℕ) (d : Context) (r x : ℕ) (is : IsCell g Contexts j d r x) (n index : ℕ)
      (some : 0 < n) (low : n ≤ old.written + 1) (at : index ≡ slot g Contexts j d.function r x) (lost : Holds g n r x (has d.promise) ≡ false) (asks : AsksForCell old new index (2 * n)) where
    here : index ≡ index_at g Contexts j r x
    here = at ∙ sym (index_is g Contexts j d r x is.at)

    inside : index < length old.store.heights
    inside = omega (arith, at, slot_within g Contexts j d r x is, known.cells)

    twice : 0 < 2 * n
    twice = omega (arith, some)

    is_long : AreLong new
    is_long =
        let same = ap (λ (t : Known). length t.heights) asks.others.known in
        record {
          flags = ap (λ (ms : List Bool). length ms) asks.others.flags ∙ long.flags ∙ sym same;
          asked = ap (λ (y : List ℕ). length y) asks.asked ∙ asked_length old.store.heights old.store.asked index (2 * n) ∙ long.asked ∙ sym same;
          due = ap (λ (y : List ℕ). length y) asks.due ∙ long.due ∙ sym same;
          to = ap (λ (y : List ℕ). length y) asks.others.to ∙ long.to ∙ sym same;
          waves = ap (λ (y : List ℕ). length y) asks.others.waves ∙ long.waves ∙ sym same;
        }

    is_high : AreHigh new
    is_high =
        let few : AreUpTo (asked_with old.store.heights old.store.asked index (2 * n)) (2 * old.written + 2)
        = asked_up_to old.store.heights old.store.asked index (2 * n) (2 * old.written + 2) (omega (arith, inside, long.asked)) (omega (arith, low)) high.asked in
        record {
          heights = subst (λ (t : Known). AreUpTo t.heights t.written) (sym asks.others.known) high.heights;
          asked = subst (λ (t : Known). AreUpTo new.store.asked (2 * t.written + 2)) (sym asks.others.known) (subst (λ (y : List ℕ). AreUpTo y (2 * old.written + 2)) (sym asks.asked) few);
          due = subst (λ (t : Known). AreUpTo new.store.due (2 * t.written + 1)) (sym asks.others.known) (subst (λ (y : List ℕ). AreUpTo y (2 * old.written + 1)) (sym asks.due) high.due);
          waves = subst (λ (t : Known). AreUpTo new.store.waves t.written) (sym asks.others.known) (subst (λ (y : List ℕ). AreUpTo y old.written) (sym asks.others.waves) high.waves);
        }

    pub asked_step : LowersKeys g old new
    asked_step = record {
      others = asks.others;
      long = is_long;
      high = is_high;
      lowers = cell_lowers g functions routed alike old new below long j d r x index (2 * n) is here inside twice asks;
      right = subst (λ (y : Found). AreRight g Contexts y) (sym (found_keys g old new asks.others))
          (cell_right g functions routed alike old new below long j d r x index (2 * n) is here inside twice asks right n refl lost);
      dues = same_dues g old new asks.others asks.due;
    }

    pub asked_waits : (Keys g old new).height j r x ≡ 0 → Waits ((Keys g old new).asked j r x) (2 * n)
    asked_waits = (is_asked g functions routed alike old new below long j d r x index (2 * n) is here inside twice asks).here

  -- so is one of which the taken heights tell it
  pub implied_asked : AreLong old → AreHigh old → AreRight g Contexts (found_of g old) → (at : Tabled) (p q : ℕ) → HasCell g old.blocks at p q → (within index : ℕ)
      → IsBound g (heights_of g (known_of old)) at.number p q at.context.promise within → is_call_in (slice_get g.spots p) ≡ false → 0 < within → within ≤ old.written + 1
      → index ≡ slot g Contexts at.number at.context.function p q → AsksForCell old new index (2 * within) → AsksImplied g old new at p q
  implied_asked long high right at p q is within index bound plain some low here asks =
      let lost = bound_is_lost g functions routed alike Contexts below (found_of g old) right at.number at.context p q within is plain bound some in
      record {
        step = asked_step long high right at.number at.context p q is within index some low here lost asks;
        closed = subst (λ (y : Found). IsClosed g y at.number at.context p q) (sym (found_keys g old new asks.others))
            (closed_asked g functions routed alike Contexts below (Keys g old new) at.number at.context p q within bound
            (asked_waits long high right at.number at.context p q is within index some low here lost asks));
        due = asks.due;
      }

-- nothing changes
pub nothing : (g : Game) (old : Work) → AreLong old → AreHigh old → AreRight g old.blocks.contexts.items (found_of g old) → LowersKeys g old old
nothing g old long high right = record {
  others = record { known = refl; to = refl; waves = refl; flags = refl; lists = refl };
  long = long;
  high = high;
  lowers = record { cells = λ i c p q is lt. (lt, omega arith); links = λ i c p k call is lt. (lt, omega arith) };
  right = right;
  dues = λ are. are;
}

-- nothing is told of the cell
pub implied_none : (g : Game) (functions : ℕ) (routed : AreRouted g functions) (alike : AreAlike g) (old : Work) → IsKnown g (known_of old) → AreLong old → AreHigh old
    → AreRight g old.blocks.contexts.items (found_of g old)
    → (at : Tabled) (p q : ℕ) → (is_call_in (slice_get g.spots p) ≡ false → IsBound g (heights_of g (known_of old)) at.number p q at.context.promise 0) → AsksImplied g old old at p q
implied_none g functions routed alike old known long high right at p q bound = record {
  step = nothing g old long high right;
  closed = λ none plain.
      closed_untold g functions routed alike old.blocks.contexts.items (below g functions routed alike old old known) (found_of g old) at.number at.context p q (bound plain) none plain;
  due = refl;
}

-- a cell that is taken needn't be asked for
pub implied_taken : (g : Game) (old : Work) → AreLong old → AreHigh old → AreRight g old.blocks.contexts.items (found_of g old) → (at : Tabled) (p q height : ℕ)
    → height ≡ heights_of g (known_of old) at.number p q → 0 < height → AsksImplied g old old at p q
implied_taken g old long high right at p q height is some = record {
  step = nothing g old long high right;
  closed = λ none plain n lost. let z : heights_of g (known_of old) at.number p q ≡ 0 = none in absurd (omega (arith, is, some, z));
  due = refl;
}

-- two steps
pub two_steps : (g : Game) (old mid new : Work) → LowersKeys g old mid → LowersKeys g mid new → LowersKeys g old new
two_steps g old mid new a b = record {
  others = record {
    known = b.others.known ∙ a.others.known;
    to = b.others.to ∙ a.others.to;
    waves = b.others.waves ∙ a.others.waves;
    flags = b.others.flags ∙ a.others.flags;
    lists = b.others.lists ∙ a.others.lists;
  };
  long = b.long;
  high = b.high;
  lowers = record {
    cells = λ i c p q is lt.
        let x = a.lowers.cells i c p q is lt in
        let y = later.cells i c p q is x.0 in
        (y.0, omega (arith, y.1, x.1));
    links = λ i c p k call is lt.
        let x = a.lowers.links i c p k call is lt in
        let y = later.links i c p k call is x.0 in
        (y.0, omega (arith, y.1, x.1));
  };
  right = subst (λ (t : Known). AreRight g t.blocks.contexts.items (found_of g new)) a.others.known b.right;
  dues = λ are. b.dues (a.dues are);
}
  where
    later : Lowers g old.blocks.contexts.items (with_keys (found_of g old) (value_at g old.blocks.contexts.items mid.store.asked) (value_at g old.blocks.contexts.items mid.store.due))
        (value_at g old.blocks.contexts.items new.store.asked) (value_at g old.blocks.contexts.items new.store.due)
    later = subst (λ (s : Found). Lowers g old.blocks.contexts.items s (value_at g old.blocks.contexts.items new.store.asked) (value_at g old.blocks.contexts.items new.store.due))
        (found_keys g old mid a.others)
        (subst (λ (t : Known). Lowers g t.blocks.contexts.items (found_of g mid) (value_at g t.blocks.contexts.items new.store.asked) (value_at g t.blocks.contexts.items new.store.due))
        a.others.known b.lowers)

-- The link of a call is asked for, which returns to a pair that is taken.
use Rattle.std.proofs.Common.{◌≡◌, ℕ, ◌+◌, ◌*◌, ◌<◌, ◌≤◌, List, true, ◌||◌, Some, length, set, refl, sym, ap, ◌∙◌, subst, arith, inl, inr, Bool}
use Rattle.std.specs.Prelude.{slice_get, slice_index, nat_eq, nat_lt, Contains}
use Rattle.std.proofs.lemmas.Bool.{cases_eq}
use Rattle.std.proofs.lemmas.Option.{same_Some}
use Rattle.std.proofs.lemmas.List.{length-set, get_or-set_same, get_or-set_other}
use Rattle.cw_core.specs.declared.ids.PosId.{PosId}
use Rattle.cw_game.specs.Games.{Game}
use Rattle.cw_game.specs.Pairs.{has, Called, call_in}
use Rattle.cw_links.specs.Flat.{row_at}
use Rattle.cw_links.specs.Keys.{lowered}
use Rattle.cw_product.specs.Moves.{pos_id}
use Rattle.cw_solve.specs.declared.contexts.Context.{Context}
use Rattle.cw_product.specs.Routed.{AreRouted, IsOf}
use Rattle.cw_solve.specs.Rounds.{slot, IsCell}
use Rattle.cw_solve.specs.Tables.{HasCell}
use Rattle.cw_solve.proofs.Slots.{slot_within}
use Rattle.cw_linked.specs.declared.work.Cell.{Cell}
use Rattle.cw_linked.specs.declared.work.Work.{Work}
use Rattle.cw_linked.specs.Founds.{Found, class_of, AreAlike, IsLink, IsTied, IsFresh, GoesTo, IsShrinking, AreRight, Waits, IsStanding, Nothing, AllStanding}
use Rattle.cw_linked.specs.Queues.{found_of, AreLong, AreHigh, IsLinkAt, AreDue, AsksForLink, LowersKeys}
use Rattle.cw_linked.specs.Returns.{AreReturns, AsksReturn}
use Rattle.cw_linked.specs.Steps.{ReturnsThere}
use Rattle.cw_linked.specs.Walks.{IsFrom}
use Rattle.cw_linked.specs.Works.{Known, known_of, IsKnown, AreUpTo, index_at}
use Rattle.cw_linked.proofs.Asking.{kept_low, chosen_then, chosen_else}
use Rattle.std.proofs.lemmas.Bool.{cases_Bool as decide}
use Rattle.cw_linked.proofs.Bounding.{index_is}
use Rattle.cw_linked.proofs.Closing.{standing_asked, own_link}
use Rattle.cw_linked.proofs.Lowering.{lowers_standing, waits_less}
use Rattle.cw_linked.proofs.Telling.{below, up_to_set}
use Rattle.cw_linked.proofs.Walking.{row_whole, row_done}
use Rattle.cw_linked.proofs.Working.{Keys, found_keys, is_due, links_lower, links_right}

due_up_to : (due : List ℕ) (index key most : ℕ) → index < length due → key ≤ most → AreUpTo due most → AreUpTo (lowered due index key) most
due_up_to due index key most lt le up =
    elim (decide (nat_eq (slice_index due index) 0 || nat_lt key (slice_index due index))) [
      | inl h ↦ subst (λ (y : List ℕ). AreUpTo y most) (sym (chosen_then _ (set due index key) due h)) (up_to_set due index key most lt le up)
      | inr h ↦ subst (λ (y : List ℕ). AreUpTo y most) (sym (chosen_else _ (set due index key) due h)) up
    ]

pub due_other : (due : List ℕ) (index key k : ℕ) → (k ≡ index → ⊥) → slice_index (lowered due index key) k ≡ slice_index due k
due_other due index key k ne =
    elim (decide (nat_eq (slice_index due index) 0 || nat_lt key (slice_index due index))) [
      | inl h ↦ ap (λ (ys : List ℕ). slice_index ys k) (chosen_then _ (set due index key) due h) ∙ get_or-set_other due index k key 0 ne
      | inr h ↦ ap (λ (ys : List ℕ). slice_index ys k) (chosen_else _ (set due index key) due h)
    ]

pub due_length : (due : List ℕ) (index key : ℕ) → length (lowered due index key) ≡ length due
due_length due index key =
    elim (decide (nat_eq (slice_index due index) 0 || nat_lt key (slice_index due index))) [
      | inl h ↦ ap (λ (y : List ℕ). length y) (chosen_then _ (set due index key) due h) ∙ length-set due index key
      | inr h ↦ ap (λ (y : List ℕ). length y) (chosen_else _ (set due index key) due h)
    ]

module _ (g : Game) (functions : ℕ) (routed : AreRouted g functions) (alike : AreAlike g) (old new : Work) (known : IsKnown g (known_of old)) where
  abbrev Contexts : List Context
  Contexts = old.blocks.contexts.items

  -- A link whose promise shrinks for so many moves is asked for.
  module _ (long : AreLong old) (high : AreHigh old) (right : AreRight g Contexts (found_of g old)) (j : ℕ) (d : Context) (r x : ℕ) (call : Called)
      (link : IsLink g Contexts j d r x call) (n index : ℕ)
      (some : 0 < n) (low : n ≤ old.written) (at : index ≡ slot g Contexts j d.function r x) (shrinks : IsShrinking g Contexts (found_of g old) j r x call n)
      (tied_there : 0 < slice_index old.store.to index) (asks : AsksForLink old new index (2 * n + 1)) where
    here : index ≡ index_at g Contexts j r x
    here = at ∙ sym (index_is g Contexts j d r x link.cell.at)

    inside : index < length old.store.heights
    inside = omega (arith, at, slot_within g Contexts j d r x link.cell, known.cells)

    odd : 0 < 2 * n + 1
    odd = omega arith

    is_long : AreLong new
    is_long =
        let same = ap (λ (t : Known). length t.heights) asks.others.known in
        record {
          flags = ap (λ (ms : List Bool). length ms) asks.others.flags ∙ long.flags ∙ sym same;
          asked = ap (λ (y : List ℕ). length y) asks.asked ∙ long.asked ∙ sym same;
          due = ap (λ (y : List ℕ). length y) asks.due ∙ due_length old.store.due index (2 * n + 1) ∙ long.due ∙ sym same;
          to = ap (λ (y : List ℕ). length y) asks.others.to ∙ long.to ∙ sym same;
          waves = ap (λ (y : List ℕ). length y) asks.others.waves ∙ long.waves ∙ sym same;
        }

    is_high : AreHigh new
    is_high =
        let few : AreUpTo (lowered old.store.due index (2 * n + 1)) (2 * old.written + 1)
        = due_up_to old.store.due index (2 * n + 1) (2 * old.written + 1) (omega (arith, inside, long.due)) (omega (arith, low)) high.due in
        record {
          heights = subst (λ (t : Known). AreUpTo t.heights t.written) (sym asks.others.known) high.heights;
          asked = subst (λ (t : Known). AreUpTo new.store.asked (2 * t.written + 2)) (sym asks.others.known)
              (subst (λ (y : List ℕ). AreUpTo y (2 * old.written + 2)) (sym asks.asked) high.asked);
          due = subst (λ (t : Known). AreUpTo new.store.due (2 * t.written + 1)) (sym asks.others.known) (subst (λ (y : List ℕ). AreUpTo y (2 * old.written + 1)) (sym asks.due) few);
          waves = subst (λ (t : Known). AreUpTo new.store.waves t.written) (sym asks.others.known) (subst (λ (y : List ℕ). AreUpTo y old.written) (sym asks.others.waves) high.waves);
        }

    -- the key of the link is more than 1
    is_due_there : AreDue g old → AreDue g new
    is_due_there are k lt most = elim (cases_eq k index) [
      | inl e ↦ (
        subst (λ (t : Known). IsLinkAt g t.blocks.contexts.items k) (sym asks.others.known) (j, d, r, x, call, link, e ∙ here),
        λ tied. subst (λ (ys : List ℕ). 1 < slice_index ys k) (sym asks.due) (subst (λ (y : ℕ). 1 < slice_index (lowered old.store.due index (2 * n + 1)) y) (sym e) (more_than_one are)),
      )
      | inr ne ↦
          let before = subst (λ (t : Known). k < length t.heights) asks.others.known lt in
          let same : slice_index new.store.due k ≡ slice_index old.store.due k = ap (λ (ys : List ℕ). slice_index ys k) asks.due ∙ due_other old.store.due index (2 * n + 1) k ne in
          let h = are k before (omega (arith, most, same)) in (
            subst (λ (t : Known). IsLinkAt g t.blocks.contexts.items k) (sym asks.others.known) h.0,
            λ tied. let low = h.1 (subst (λ (ys : List ℕ). 0 < slice_index ys k) asks.others.to tied) in omega (arith, low, same),
          )
    ]
      where
        more_than_one : AreDue g old → 1 < slice_index (lowered old.store.due index (2 * n + 1)) index
        more_than_one are = elim (decide (nat_eq (slice_index old.store.due index) 0 || nat_lt (2 * n + 1) (slice_index old.store.due index))) [
          | inl h ↦
              let e = ap (λ (ys : List ℕ). slice_index ys index) (chosen_then _ (set old.store.due index (2 * n + 1)) old.store.due h) in
              let v = get_or-set_same old.store.due index (2 * n + 1) 0 (omega (arith, inside, long.due)) in
              omega (arith, e, v, some)
          | inr h ↦
              let e = ap (λ (ys : List ℕ). slice_index ys index) (chosen_else _ (set old.store.due index (2 * n + 1)) old.store.due h) in
              let w = kept_low (slice_index old.store.due index) (2 * n + 1) h in
              let low = (are index inside w.0).1 tied_there in
              omega (arith, e, low)
        ]

    pub link_step : LowersKeys g old new
    link_step = record {
      others = asks.others;
      long = is_long;
      high = is_high;
      lowers = links_lower g functions routed alike old new (below g functions routed alike old new known) long j d r x index (2 * n + 1) call link here inside odd asks;
      right = subst (λ (y : Found). AreRight g Contexts y) (sym (found_keys g old new asks.others))
          (links_right g functions routed alike old new (below g functions routed alike old new known) long j d r x index (2 * n + 1) call link here inside odd asks right n refl some shrinks);
      dues = is_due_there;
    }

    pub link_waits : Waits ((found_of g new).due j r x) (2 * n + 1)
    link_waits = subst (λ (y : Found). Waits (y.due j r x) (2 * n + 1)) (sym (found_keys g old new asks.others))
        (is_due g functions routed alike old new (below g functions routed alike old new known) long j d r x index (2 * n + 1) call link here inside odd asks).here

  -- What stood before the step stands after it.
  module _ (step : LowersKeys g old new) where
    pub stands_on : (i : ℕ) (c : Context) (p k : ℕ) (call : Called) (x : ℕ) → IsLink g Contexts i c p k call → IsStanding g Contexts (found_of g old) i p k call x
        → IsStanding g Contexts (found_of g new) i p k call x
    stands_on i c p k call x is stands = subst (λ (y : Found). IsStanding g Contexts y i p k call x) (sym (found_keys g old new step.others))
        (lowers_standing g functions routed alike Contexts (below g functions routed alike old new known) (found_of g old) _ _ step.lowers i c p k call x is stands)

    pub fresh_on : (i : ℕ) (c : Context) (p k : ℕ) (call : Called) → IsLink g Contexts i c p k call → IsFresh (found_of g old) i p k → IsFresh (found_of g new) i p k
    fresh_on i c p k call is fresh = subst (λ (y : Found). IsFresh y i p k) (sym (found_keys g old new step.others))
        (λ free. waits_less ((found_of g old).due i p k) ((Keys g old new).due i p k) 1 (step.lowers.links i c p k call is) (fresh free))

  -- Each link of a position that returns to the cell stands, where the link of the cell's own class waits for it or hasn't its state.
  pub returns_stand : LowersKeys g old new → (cell : Cell) → HasCell g old.blocks cell.at cell.pos.0 cell.state.0 → (n : ℕ) → (found_of g new).height cell.at.number cell.pos.0 cell.state.0 ≡ n
      → (p : ℕ) (called : Called) → call_in (slice_get g.spots p) ≡ Some called
      → ((set : ℕ) → IsTied (found_of g new) cell.at.number p (class_of g called.split cell.state.0)
      → GoesTo Contexts (found_of g new) cell.at.number p (class_of g called.split cell.state.0) called set → has set cell.state.0 ≡ true
      → Waits ((found_of g new).due cell.at.number p (class_of g called.split cell.state.0)) (2 * n + 1))
      → AsksReturn g old new cell p
  returns_stand step cell is n height p called es waits = record {
    step = step;
    standing = λ k call link back x lt same.
        let own = own_link g functions routed alike Contexts (below g functions routed alike old new known) (found_of g new) call.split k x cell.state.0 lt link.cell.state is.state link.class same in
        let one : called ≡ call = same_Some called call (sym es ∙ link.calls) in
        let class : class_of g called.split cell.state.0 ≡ k = ap (λ (y : Called). class_of g y.split cell.state.0) one ∙ own.0 in
        standing_asked g functions routed alike Contexts (below g functions routed alike old new known) (found_of g new) step.right cell.at.number cell.at.context p k call link cell.state.0 n is.state
        (ap (λ (y : ℕ). (found_of g new).height cell.at.number y cell.state.0) back ∙ height)
        (λ set tied goes member. subst (λ (y : ℕ). Waits ((found_of g new).due cell.at.number p y) (2 * n + 1)) class
        (waits set (subst (λ (y : ℕ). IsTied (found_of g new) cell.at.number p y) (sym class) tied)
        (subst (λ (y : Called). GoesTo Contexts (found_of g new) cell.at.number p (class_of g called.split cell.state.0) y set) (sym one)
        (subst (λ (y : ℕ). GoesTo Contexts (found_of g new) cell.at.number p y call set) (sym class) goes)) member))
        x lt same;
  }

  -- no call that returns to the cell stands there
  pub no_return : LowersKeys g old new → (cell : Cell) (p : ℕ) → ((call : Called) → call_in (slice_get g.spots p) ≡ Some call → call.back ≡ cell.pos.0 → ⊥) → AsksReturn g old new cell p
  no_return step cell p none = record { step = step; standing = λ k call link back. absurd (none call link.calls back) }

  -- and none of the cell's function
  pub no_position : LowersKeys g old new → (cell : Cell) (p : ℕ) → (IsOf g cell.at.context.function p → ⊥) → AsksReturn g old new cell p
  no_position step cell p none = record { step = step; standing = λ k call link. absurd (none link.cell.of) }

-- the calls of a context that are left to ask for: those in a row from a number on
abbrev pub ReturnsLeft : Game → List Context → Found → List PosId → ℕ → (j r x : ℕ) → ℕ → ℕ → ℕ → Type 0
ReturnsLeft g contexts s row n j r x i p k = ReturnsThere g contexts s j r x i p k × IsFrom row n (pos_id p)

module _ (g : Game) (contexts : List Context) (s : Found) where
  -- at first, all that return to the cell
  pub all_returns : (returns : List (List PosId)) → AreReturns g returns → (t : Found) (j r x : ℕ) → ((i : ℕ) (c : Context) (p q : ℕ) → IsCell g contexts i c p q → p < length g.spots)
      → AllStanding g contexts t (ReturnsThere g contexts s j r x) → AllStanding g contexts t (ReturnsLeft g contexts s (row_at returns r) 0 j r x)
  all_returns returns are t j r x within all i c p k call is =
      elim (all i c p k call is) [
        | inl stands ↦ inl stands
        | inr rest ↦
            let there = are.leads p rest.0 (within i c p k is.cell) rest.1 in
            inr (rest, row_whole (row_at returns r) (pos_id p) (subst (λ (y : ℕ). Contains (row_at returns y) (pos_id p)) rest.3 there))
      ]

  -- and at last none
  pub no_returns : (row : List PosId) (n : ℕ) → length row ≤ n → (t : Found) (j r x : ℕ) → AllStanding g contexts t (ReturnsLeft g contexts s row n j r x) → AllStanding g contexts t Nothing
  no_returns row n past t j r x all i c p k call is =
      elim (all i c p k call is) [
        | inl stands ↦ inl stands
        | inr rest ↦ absurd (row_done row n (pos_id p) past rest.1)
      ]

-- A link of the least key is taken from the store, and tied: what the solver keeps then.
use Rattle.std.proofs.Common.{◌≡◌, ℕ, ◌+◌, ◌*◌, ◌/◌, ◌<◌, List, Some, length, set, refl, sym, ap, ◌∙◌, subst, arith, inl, inr, Bool}
use Rattle.std.specs.Prelude.{slice_get, slice_index}
use Rattle.std.proofs.lemmas.Bool.{cases_eq}
use Rattle.std.proofs.lemmas.Nat.{div-mul-add}
use Rattle.std.proofs.lemmas.List.{length-set, get_or-set_same, get_or-set_other}
use Rattle.cw_game.specs.Games.{Game}
use Rattle.cw_game.specs.Pairs.{Called, call_in}
use Rattle.cw_solve.specs.declared.contexts.Context.{Context}
use Rattle.cw_solve.specs.Contexts.{IsSetOf}
use Rattle.cw_product.specs.Routed.{AreRouted}
use Rattle.cw_solve.specs.Rounds.{IsCell, holds_by}
use Rattle.cw_solve.proofs.Slots.{same_slot}
use Rattle.cw_linked.specs.declared.work.Cell.{Cell}
use Rattle.cw_linked.specs.declared.work.Work.{Work}
use Rattle.cw_linked.specs.Founds.{Found, class_of, AreAlike, IsLink, height_back, IsShrinking, AreRight, Nothing, AllClosed, AllCalled, AllStanding, AreAbove}
use Rattle.cw_linked.specs.Popped.{FreesLink, IsWork}
use Rattle.cw_linked.specs.Queues.{found_of, AreLong, AreHigh, IsLinkAt, AreDue, IsCellAt}
use Rattle.cw_linked.specs.Steps.{with_keys, Frees, IsReady, IsIt}
use Rattle.cw_linked.specs.Tied.{IsFreed}
use Rattle.cw_linked.specs.Works.{Known, known_of, IsKnown, AreUpTo, index_at, value_at}
use Rattle.cw_linked.proofs.Bounding.{index_is}
use Rattle.cw_linked.proofs.Popping.{least_above}
use Rattle.cw_linked.proofs.Staying.{callers_on, flagged_on}
use Rattle.cw_linked.proofs.Telling.{below, up_to_set}
use Rattle.cw_linked.proofs.Tying.{ready, freed_right, freed_standing}
use Rattle.cw_linked.proofs.Working.{found_keys}
use Rattle.cw_linked.proofs.Writing.{frees_written}

half_odd : (a h n : ℕ) → a ≡ 2 * n + 1 → h ≡ a / 2 → a ≡ 2 * h + 1
half_odd a h n e half =
    let b : a ≡ n * 2 + 1 = omega (arith, e) in
    let d : a / 2 ≡ n = ap (λ (y : ℕ). y / 2) b ∙ div-mul-add n 2 1 (omega arith) in
    omega (arith, e, half, d)

-- A link of the least key waits no more.
module _ (g : Game) (functions : ℕ) (routed : AreRouted g functions) (alike : AreAlike g) (old new : Work) (work : IsWork g old) (index moves : ℕ) (frees : FreesLink old new index moves) where
  abbrev Contexts : List Context
  Contexts = old.blocks.contexts.items

  unchanged : known_of old ≡ known_of new
  unchanged = sym frees.others.known

  lengths : length new.store.heights ≡ length old.store.heights
  lengths = ap (λ (t : Known). length t.heights) frees.others.known

  pub freed_known : IsKnown g (known_of new)
  freed_known = subst (IsKnown g) unchanged work.known

  pub freed_long : AreLong new
  freed_long = record {
    flags = ap (λ (ms : List Bool). length ms) frees.others.flags ∙ work.long.flags ∙ sym lengths;
    asked = ap (λ (ys : List ℕ). length ys) frees.asked ∙ work.long.asked ∙ sym lengths;
    due = ap (λ (ys : List ℕ). length ys) frees.due ∙ length-set old.store.due index 0 ∙ work.long.due ∙ sym lengths;
    to = ap (λ (ys : List ℕ). length ys) frees.others.to ∙ work.long.to ∙ sym lengths;
    waves = ap (λ (ys : List ℕ). length ys) frees.others.waves ∙ work.long.waves ∙ sym lengths;
  }

  freed_high : AreHigh new
  freed_high =
      let due : AreUpTo (set old.store.due index 0) (2 * old.written + 1)
      = up_to_set old.store.due index 0 (2 * old.written + 1) (omega (arith, frees.within, work.long.due)) (omega arith) work.high.due in
      record {
        heights = subst (λ (t : Known). AreUpTo t.heights t.written) unchanged work.high.heights;
        asked = subst (λ (t : Known). AreUpTo new.store.asked (2 * t.written + 2)) unchanged (subst (λ (ys : List ℕ). AreUpTo ys (2 * old.written + 2)) (sym frees.asked) work.high.asked);
        due = subst (λ (t : Known). AreUpTo new.store.due (2 * t.written + 1)) unchanged (subst (λ (ys : List ℕ). AreUpTo ys (2 * old.written + 1)) (sym frees.due) due);
        waves = subst (λ (t : Known). AreUpTo new.store.waves t.written) unchanged (subst (λ (ys : List ℕ). AreUpTo ys old.written) (sym frees.others.waves) work.high.waves);
      }

  free_here : slice_index new.store.due index ≡ 0
  free_here = ap (λ (ys : List ℕ). slice_index ys index) frees.due ∙ get_or-set_same old.store.due index 0 0 (omega (arith, frees.within, work.long.due))

  freed_dues : AreDue g new
  freed_dues k lt some = elim (cases_eq k index) [
    | inl e ↦ absurd (let z : slice_index new.store.due k ≡ 0 = ap (slice_index new.store.due) e ∙ free_here in omega (arith, z, some))
    | inr ne ↦
        let same : slice_index new.store.due k ≡ slice_index old.store.due k = ap (λ (ys : List ℕ). slice_index ys k) frees.due ∙ get_or-set_other old.store.due index k 0 0 ne in
        let h = work.dues k (omega (arith, lt, lengths)) (omega (arith, some, same)) in (
          subst (λ (t : Known). IsLinkAt g t.blocks.contexts.items k) unchanged h.0,
          λ tied. let low = h.1 (subst (λ (ys : List ℕ). 0 < slice_index ys k) frees.others.to tied) in omega (arith, low, same),
        )
  ]

  module _ (link : Cell) (at : IsCellAt g new index link) where
    is_cell : IsCell g Contexts link.at.number link.at.context link.pos.0 link.state.0
    is_cell = subst (λ (t : Known). IsCell g t.blocks.contexts.items link.at.number link.at.context link.pos.0 link.state.0) frees.others.known at.is

    index_here : index ≡ index_at g Contexts link.at.number link.pos.0 link.state.0
    index_here = at.index ∙ sym (index_is g new.blocks.contexts.items link.at.number link.at.context link.pos.0 link.state.0 at.is.at)
        ∙ ap (λ (t : Known). index_at g t.blocks.contexts.items link.at.number link.pos.0 link.state.0) frees.others.known

    functions_below : (i : ℕ) (c : Context) → slice_get Contexts i ≡ Some c → c.function < functions
    functions_below = below g functions routed alike old old work.known

    waiting : IsLinkAt g Contexts index × (0 < slice_index old.store.to index → 1 < slice_index old.store.due index)
    waiting = work.dues index frees.within frees.some

    -- it is a link
    is_link : (call : Called) × IsLink g Contexts link.at.number link.at.context link.pos.0 link.state.0 call
    is_link =
        let l = waiting.0 in
        let s = same_slot g Contexts l.0 link.at.number l.1 link.at.context l.2 link.pos.0 l.3 link.state.0 l.5.cell is_cell
        (sym (index_is g Contexts l.0 l.1 l.2 l.3 l.5.cell.at) ∙ sym l.6 ∙ index_here ∙ index_is g Contexts link.at.number link.at.context link.pos.0 link.state.0 is_cell.at) in (
          l.4,
          record {
            cell = is_cell;
            calls = subst (λ (y : ℕ). call_in (slice_get g.spots y) ≡ Some l.4) s.position l.5.calls;
            class = subst (λ (y : ℕ). class_of g l.4.split y ≡ y) s.state l.5.class;
          },
        )

    due_is : (found_of g old).due link.at.number link.pos.0 link.state.0 ≡ slice_index old.store.due index
    due_is = ap (slice_index old.store.due) (sym index_here)

    due_odd : slice_index old.store.due index ≡ 2 * moves + 1
    due_odd =
        let l = work.found.right.due link.at.number link.at.context link.pos.0 link.state.0 is_link.0 is_link.1 (omega (arith, due_is, frees.some)) in
        half_odd (slice_index old.store.due index) moves l.0 (sym due_is ∙ l.1) frees.half

    key : (found_of g old).due link.at.number link.pos.0 link.state.0 ≡ 2 * moves + 1
    key = due_is ∙ due_odd

    above : AreAbove g Contexts (found_of g old) (2 * moves + 1)
    above = subst (λ (k : ℕ). AreAbove g Contexts (found_of g old) k) due_odd (least_above g old work.known (slice_index old.store.due index) frees.least)

    abbrev Due : ℕ → ℕ → ℕ → ℕ
    Due = value_at g Contexts (set old.store.due index 0)

    abbrev After : Found
    After = with_keys (found_of g old) (value_at g Contexts old.store.asked) Due

    found_new : found_of g new ≡ After
    found_new = found_keys g old new frees.others
        ∙ ap (λ (ys : List ℕ). with_keys (found_of g old) (value_at g Contexts ys) (value_at g Contexts new.store.due)) frees.asked
        ∙ ap (λ (ys : List ℕ). with_keys (found_of g old) (value_at g Contexts old.store.asked) (value_at g Contexts ys)) frees.due

    is_free : Frees g Contexts (found_of g old) Due link.at.number link.pos.0 link.state.0
    is_free = subst (λ (k : ℕ). Frees g Contexts (found_of g old) (value_at g Contexts (set old.store.due k 0)) link.at.number link.pos.0 link.state.0) (sym index_here)
        (frees_written g Contexts (found_of g old) link.at.number link.at.context link.pos.0 link.state.0 is_link.0 is_link.1 old.store.due
        (omega (arith, index_here, frees.within, work.long.due)) (λ i p k. refl))

    was_ready : (call : Called) (set_is : ℕ) → IsLink g Contexts link.at.number link.at.context link.pos.0 link.state.0 call
        → IsSetOf g set_is (λ y. holds_by moves (height_back g (found_of g old) link.at.number call link.state.0 y))
        → IsReady g Contexts After link.at.number link.at.context link.pos.0 link.state.0 call moves set_is
    was_ready call set_is here read =
        let r = ready g functions routed alike Contexts functions_below (found_of g old) work.found moves above link.at.number link.at.context link.pos.0 link.state.0 call here key set_is read in
        record { promise = r.promise; later = r.later; past = r.past }

    was_shrinking : (call : Called) → IsLink g Contexts link.at.number link.at.context link.pos.0 link.state.0 call → 0 < slice_index old.store.to index
        → IsShrinking g Contexts (found_of g old) link.at.number link.pos.0 link.state.0 call moves
    was_shrinking call here tied =
        let l = work.found.right.due link.at.number link.at.context link.pos.0 link.state.0 call here (omega (arith, key)) in
        let more = waiting.1 tied in
        let e : l.0 ≡ moves = omega (arith, l.1, key) in
        subst (λ (n : ℕ). IsShrinking g Contexts (found_of g old) link.at.number link.pos.0 link.state.0 call n) e (l.2 (omega (arith, more, due_odd, e)))

    there : IsLink g new.blocks.contexts.items link.at.number link.at.context link.pos.0 link.state.0 is_link.0
    there = subst (λ (t : Known). IsLink g t.blocks.contexts.items link.at.number link.at.context link.pos.0 link.state.0 is_link.0) unchanged is_link.1

    pub is_freed : IsFreed g new link index moves
    is_freed = record {
      firm = record {
        known = freed_known;
        long = freed_long;
        flagged = flagged_on g old new (ap (λ (t : Known). t.blocks.contexts.items) frees.others.known) frees.others.flags work.flagged;
        high = freed_high;
        callers = callers_on old new frees.others.known frees.others.to frees.others.lists work.callers;
        dues = freed_dues;
        right = subst (λ (t : Known). AreRight g t.blocks.contexts.items (found_of g new)) unchanged (subst (λ (s : Found). AreRight g Contexts s) (sym found_new)
            (freed_right g functions routed alike Contexts functions_below (found_of g old) work.found link.at.number link.at.context link.pos.0 link.state.0 is_link.0 is_link.1 Due is_free));
      };
      at = at;
      low = (let h = work.high.due index in let e = ap (λ (t : Known). t.written) unchanged in omega (arith, h, e, due_odd));
      call = (is_link.0, there);
      free = free_here;
      closed = subst (λ (t : Known). AllClosed g t.blocks.contexts.items (found_of g new) Nothing) unchanged (subst (λ (s : Found). AllClosed g Contexts s Nothing) (sym found_new) work.found.closed);
      called = subst (λ (t : Known). AllCalled g t.blocks.contexts.items (found_of g new) Nothing) unchanged (subst (λ (s : Found). AllCalled g Contexts s Nothing) (sym found_new) work.found.called);
      standing = subst (λ (t : Known). AllStanding g t.blocks.contexts.items (found_of g new) (IsIt link.at.number link.pos.0 link.state.0)) unchanged
          (subst (λ (s : Found). AllStanding g Contexts s (IsIt link.at.number link.pos.0 link.state.0)) (sym found_new)
          (freed_standing g functions routed alike Contexts functions_below (found_of g old) work.found link.at.number link.at.context link.pos.0 link.state.0 is_link.0 is_link.1 Due is_free));
      ready = λ call set_is is.
          subst (λ (t : Known). IsLink g t.blocks.contexts.items link.at.number link.at.context link.pos.0 link.state.0 call
          → IsSetOf g set_is (λ y. holds_by moves (height_back g (found_of g new) link.at.number call link.state.0 y))
          → IsReady g t.blocks.contexts.items (found_of g new) link.at.number link.at.context link.pos.0 link.state.0 call moves set_is) unchanged
          (subst (λ (s : Found). IsLink g Contexts link.at.number link.at.context link.pos.0 link.state.0 call
          → IsSetOf g set_is (λ y. holds_by moves (height_back g s link.at.number call link.state.0 y))
          → IsReady g Contexts s link.at.number link.at.context link.pos.0 link.state.0 call moves set_is) (sym found_new)
          (λ here read. was_ready call set_is here read)) is;
      shrinks = λ call is tied.
          subst (λ (t : Known). IsLink g t.blocks.contexts.items link.at.number link.at.context link.pos.0 link.state.0 call
          → IsShrinking g t.blocks.contexts.items (found_of g new) link.at.number link.pos.0 link.state.0 call moves) unchanged
          (subst (λ (s : Found). IsLink g Contexts link.at.number link.at.context link.pos.0 link.state.0 call
          → IsShrinking g Contexts s link.at.number link.pos.0 link.state.0 call moves) (sym found_new)
          (λ here. was_shrinking call here (subst (λ (ys : List ℕ). 0 < slice_index ys index) frees.others.to tied))) is;
    }

-- The cell of the least key is taken from the store: what the solver keeps then.
use Rattle.std.proofs.Common.{◌≡◌, ℕ, ◌+◌, ◌-◌, ◌*◌, ◌/◌, ◌<◌, ◌≤◌, List, Bool, cond, not, Some, length, get_or, set, refl, sym, ap, ◌∙◌, subst, arith}
use Rattle.std.specs.Prelude.{slice_get, slice_index, nat_eq, count_by}
use Rattle.std.proofs.lemmas.Bool.{eq-eqb, ne_eqb}
use Rattle.std.proofs.lemmas.Nat.{div-mul-add}
use Rattle.std.proofs.lemmas.List.{length-set, get_or_default}
use Rattle.std.proofs.lemmas.List.Sums.{sum_by-set}
use Rattle.std.proofs.lemmas.Option.{slice_get_within}
use Rattle.cw_game.specs.Games.{Game}
use Rattle.cw_solve.specs.declared.contexts.Context.{Context}
use Rattle.cw_solve.specs.declared.table.Blocks.{Blocks}
use Rattle.cw_solve.specs.Contexts.{cells_of}
use Rattle.cw_product.specs.Routed.{AreRouted}
use Rattle.cw_solve.specs.Rounds.{positions, IsCell}
use Rattle.cw_solve.specs.Tables.{AreBlocks, is_none}
use Rattle.cw_linked.specs.declared.work.Cell.{Cell}
use Rattle.cw_linked.specs.declared.work.Work.{Work}
use Rattle.cw_linked.specs.Calls.{AreCallers}
use Rattle.cw_linked.specs.Founds.{Found, AreAlike, AreRight, AllClosed, AllCalled, AllStanding, AreAbove}
use Rattle.cw_linked.specs.Popped.{TakesCell, IsWork, IsTaken}
use Rattle.cw_linked.specs.Queues.{found_of, AreLong, AreHigh, IsLinkAt, AreDue, IsCellAt}
use Rattle.cw_linked.specs.Steps.{with_heights, Takes, WaitsFor, CallsThere, ReturnsThere}
use Rattle.cw_linked.specs.Works.{Known, known_of, IsKnown, AreUpTo, index_at, value_at}
use Rattle.cw_linked.proofs.Bounding.{index_is}
use Rattle.cw_linked.proofs.Placing.{owned, cell_is}
use Rattle.cw_linked.proofs.Popping.{least_above}
use Rattle.cw_linked.proofs.Staying.{flagged_on}
use Rattle.cw_linked.proofs.Taking.{taken_right, taken_closed, taken_called, taken_standing}
use Rattle.cw_linked.proofs.Telling.{below, up_to_set}
use Rattle.cw_linked.proofs.Writing.{takes_written}
use Rattle.cw_lemmas.proofs.Lists.{get_below as there_is}

-- cells are few
pub few_cells : (g : Game) (t : Known) → IsKnown g t → length t.heights ≤ 4194304
few_cells g t known = omega (arith, known.cells, known.blocks.few)

pub few_written : (g : Game) (t : Known) → IsKnown g t → t.written ≤ 4194304
few_written g t known = omega (arith, known.cells, known.blocks.few, known.counted)

pub few_number : (contexts : List Context) (i : ℕ) (c : Context) → slice_get contexts i ≡ Some c → i < length contexts
few_number contexts i c at = slice_get_within contexts i c at

-- each index is that of a cell
pub cell_for : (g : Game) (functions : ℕ) (routed : AreRouted g functions) (w : Work) → IsKnown g (known_of w) → (k : ℕ) → k < length w.store.heights → (cell : Cell) × IsCellAt g w k cell
cell_for g functions routed w known k lt =
    let own = owned g w.blocks known.blocks k (omega (arith, lt, known.cells)) in
    let i = own.0 in
    let owner = own.1 in
    let c = there_is w.blocks.contexts.items i owner.0 in
    let b = slice_index w.blocks.bases.items i in
    let begins : b ≡ get_or w.blocks.bases.items i b = sym (get_or_default w.blocks.bases.items i b 0 (omega (arith, owner.0, known.blocks.bases))) in
    let run = positions g c.0.function in
    let state = (k - b) / run in (
      record { at = record { number = i; context = c.0 }; pos = record { 0 = g.entry c.0.function + (k - b - state * run) }; state = record { 0 = state } },
      cell_is g functions routed w known k i (record { number = i; context = c.0 }) owner refl c.1 b run (g.entry c.0.function) state begins refl refl refl,
    )

pub up_more : (values : List ℕ) (a b : ℕ) → a ≤ b → AreUpTo values a → AreUpTo values b
up_more values a b le up k = let h = up k in omega (arith, h, le)

pub half_of : (a h n : ℕ) → a ≡ 2 * n → h ≡ a / 2 → a ≡ 2 * h
half_of a h n e half =
    let b : a ≡ n * 2 + 0 = omega (arith, e) in
    let d : a / 2 ≡ n = ap (λ (y : ℕ). y / 2) b ∙ div-mul-add n 2 0 (omega arith) in
    omega (arith, e, half, d)

-- what is found in lists
abbrev pub found_in : Game → List Context → (heights asked to waves due : List ℕ) → Found
found_in g cs hs ks ts ws ds = record {
  height = value_at g cs hs;
  asked = value_at g cs ks;
  to = λ i p k. value_at g cs ts i p k - 1;
  wave = value_at g cs ws;
  due = value_at g cs ds;
  tied = λ i p k. not (nat_eq (value_at g cs ts i p k) 0);
}

-- one cell without a height is less
counted_set : (heights : List ℕ) (index height written : ℕ) → index < length heights → slice_index heights index ≡ 0 → 0 < height → written + count_by is_none heights ≡ length heights
    → written + 1 + count_by is_none (set heights index height) ≡ length (set heights index height)
counted_set heights index height written lt none some counted =
    let never : height ≡ 0 → ⊥ = λ e. omega (arith, e, some) in
    let one : cond (is_none (get_or heights index 0)) 1 0 ≡ 1 = ap {B = ℕ} (λ (x : ℕ). cond (is_none x) 1 0) none ∙ ap {B = ℕ} (λ (b : Bool). cond b 1 0) (eq-eqb 0 0 refl) in
    let gone : cond (is_none height) 1 0 ≡ 0 = ap {B = ℕ} (λ (b : Bool). cond b 1 0) (ne_eqb height 0 never) in
    let sums = sum_by-set (λ (x : ℕ). cond (is_none x) 1 0) heights index height 0 lt in
    let same = length-set heights index height in
    omega (arith, one, gone, sums, same, counted)

module _ (g : Game) (functions : ℕ) (routed : AreRouted g functions) (alike : AreAlike g) (old new : Work) (work : IsWork g old) (index height : ℕ) (takes : TakesCell old new index height) where
  abbrev Contexts : List Context
  Contexts = old.blocks.contexts.items

  contexts : new.blocks.contexts.items ≡ Contexts
  contexts = ap (λ (b : Blocks). b.contexts.items) takes.blocks

  here : (cell : Cell) × IsCellAt g old index cell
  here = cell_for g functions routed old work.known index takes.within

  lost : (slice_index old.store.heights index ≡ 0) × (slice_index old.store.asked index ≡ 2 * height)
  lost =
      let cell = here.0 in
      let is = here.1 in
      let e : index ≡ index_at g Contexts cell.at.number cell.pos.0 cell.state.0 = is.index ∙ sym (index_is g Contexts cell.at.number cell.at.context cell.pos.0 cell.state.0 is.is.at) in
      let asked : slice_index old.store.asked index ≡ value_at g Contexts old.store.asked cell.at.number cell.pos.0 cell.state.0 = ap (slice_index old.store.asked) e in
      let l = work.found.right.lost cell.at.number cell.at.context cell.pos.0 cell.state.0 is.is (omega (arith, takes.some, asked)) in (
        ap (slice_index old.store.heights) e ∙ l.0,
        half_of (slice_index old.store.asked index) height l.1.0 (asked ∙ l.1.1) takes.half,
      )

  pub some : 0 < height
  some = omega (arith, lost.1, takes.some)

  same_length : length new.store.heights ≡ length old.store.heights
  same_length = ap (λ (ys : List ℕ). length ys) takes.heights ∙ length-set old.store.heights index height

  pub is_known : IsKnown g (known_of new)
  is_known =
      let counted = counted_set old.store.heights index height old.written takes.within lost.0 some work.known.counted in
      record {
        blocks = subst (AreBlocks g) (sym takes.blocks) work.known.blocks;
        cells = same_length ∙ work.known.cells ∙ ap (λ (cs : List Context). cells_of g cs) (sym contexts);
        counted = ap (λ (n : ℕ). n + count_by is_none new.store.heights) takes.written ∙ ap (λ (hs : List ℕ). old.written + 1 + count_by is_none hs) takes.heights ∙ counted
            ∙ ap (λ (hs : List ℕ). length hs) (sym takes.heights);
      }

  pub is_long : AreLong new
  is_long = record {
    flags = ap (λ (ms : List Bool). length ms) takes.flags ∙ work.long.flags ∙ sym same_length;
    asked = ap (λ (ys : List ℕ). length ys) takes.asked ∙ length-set old.store.asked index 0 ∙ work.long.asked ∙ sym same_length;
    due = ap (λ (ys : List ℕ). length ys) takes.due ∙ work.long.due ∙ sym same_length;
    to = ap (λ (ys : List ℕ). length ys) takes.to ∙ work.long.to ∙ sym same_length;
    waves = ap (λ (ys : List ℕ). length ys) takes.waves ∙ work.long.waves ∙ sym same_length;
  }

  are_high : AreHigh new
  are_high =
      let key = work.high.asked index in
      let low : height ≤ old.written + 1 = omega (arith, key, lost.1) in
      let heights : AreUpTo (set old.store.heights index height) (old.written + 1)
      = up_to_set old.store.heights index height (old.written + 1) takes.within low
      (up_more old.store.heights old.written (old.written + 1) (omega arith) work.high.heights) in
      let asked : AreUpTo (set old.store.asked index 0) (2 * (old.written + 1) + 2)
      = up_to_set old.store.asked index 0 (2 * (old.written + 1) + 2) (omega (arith, takes.within, work.long.asked)) (omega arith)
      (up_more old.store.asked (2 * old.written + 2) (2 * (old.written + 1) + 2) (omega arith) work.high.asked) in
      let due = up_more old.store.due (2 * old.written + 1) (2 * (old.written + 1) + 1) (omega arith) work.high.due in
      let waves = up_more old.store.waves old.written (old.written + 1) (omega arith) work.high.waves in
      record {
        heights = subst (λ (n : ℕ). AreUpTo new.store.heights n) (sym takes.written) (subst (λ (ys : List ℕ). AreUpTo ys (old.written + 1)) (sym takes.heights) heights);
        asked = subst (λ (n : ℕ). AreUpTo new.store.asked (2 * n + 2)) (sym takes.written) (subst (λ (ys : List ℕ). AreUpTo ys (2 * (old.written + 1) + 2)) (sym takes.asked) asked);
        due = subst (λ (n : ℕ). AreUpTo new.store.due (2 * n + 1)) (sym takes.written) (subst (λ (ys : List ℕ). AreUpTo ys (2 * (old.written + 1) + 1)) (sym takes.due) due);
        waves = subst (λ (n : ℕ). AreUpTo new.store.waves n) (sym takes.written) (subst (λ (ys : List ℕ). AreUpTo ys (old.written + 1)) (sym takes.waves) waves);
      }

  are_callers : AreCallers new
  are_callers =
      let lengths = ap (λ (cs : List Context). length cs) contexts in
      let c = work.callers in
      record {
        more = (let many = ap (λ (ls : List (List ℕ)). length ls) takes.lists in omega (arith, lengths, many, c.more));
        few = λ k lt. subst (λ (ys : List ℕ). slice_index ys k ≤ length new.blocks.contexts.items) (sym takes.to)
            (let f = c.few k (omega (arith, lt, same_length)) in omega (arith, f, lengths));
      }

  are_due : AreDue g new
  are_due k lt more =
      let before : k < length old.store.heights = omega (arith, lt, same_length) in
      let h = work.dues k before (subst (λ (ys : List ℕ). 0 < slice_index ys k) takes.due more) in (
        subst (λ (cs : List Context). IsLinkAt g cs k) (sym contexts) h.0,
        λ tied. subst (λ (ys : List ℕ). 1 < slice_index ys k) (sym takes.due) (h.1 (subst (λ (ys : List ℕ). 0 < slice_index ys k) takes.to tied)),
      )

  abbrev Heights : ℕ → ℕ → ℕ → ℕ
  Heights = value_at g Contexts (set old.store.heights index height)

  abbrev Asked : ℕ → ℕ → ℕ → ℕ
  Asked = value_at g Contexts (set old.store.asked index 0)

  abbrev After : Found
  After = with_heights (found_of g old) Heights Asked

  found_new : found_of g new ≡ After
  found_new =
      ap (λ (cs : List Context). found_in g cs new.store.heights new.store.asked new.store.to new.store.waves new.store.due) contexts
      ∙ ap (λ (ys : List ℕ). found_in g Contexts ys new.store.asked new.store.to new.store.waves new.store.due) takes.heights
      ∙ ap (λ (ys : List ℕ). found_in g Contexts (set old.store.heights index height) ys new.store.to new.store.waves new.store.due) takes.asked
      ∙ ap (λ (ys : List ℕ). found_in g Contexts (set old.store.heights index height) (set old.store.asked index 0) ys new.store.waves new.store.due) takes.to
      ∙ ap (λ (ys : List ℕ). found_in g Contexts (set old.store.heights index height) (set old.store.asked index 0) old.store.to ys new.store.due) takes.waves
      ∙ ap (λ (ys : List ℕ). found_in g Contexts (set old.store.heights index height) (set old.store.asked index 0) old.store.to old.store.waves ys) takes.due

  module _ (cell : Cell) (at : IsCellAt g new index cell) where
    is_cell : IsCell g Contexts cell.at.number cell.at.context cell.pos.0 cell.state.0
    is_cell = subst (λ (cs : List Context). IsCell g cs cell.at.number cell.at.context cell.pos.0 cell.state.0) contexts at.is

    index_here : index ≡ index_at g Contexts cell.at.number cell.pos.0 cell.state.0
    index_here = at.index ∙ sym (index_is g new.blocks.contexts.items cell.at.number cell.at.context cell.pos.0 cell.state.0 at.is.at)
        ∙ ap (λ (cs : List Context). index_at g cs cell.at.number cell.pos.0 cell.state.0) contexts

    is_taken_there : Takes g Contexts (found_of g old) Heights Asked cell.at.number cell.pos.0 cell.state.0 height
    is_taken_there =
        subst (λ (k : ℕ). Takes g Contexts (found_of g old) (value_at g Contexts (set old.store.heights k height))
        (value_at g Contexts (set old.store.asked k 0)) cell.at.number cell.pos.0 cell.state.0 height)
        (sym index_here)
        (takes_written g Contexts (found_of g old) cell.at.number cell.at.context cell.pos.0 cell.state.0 old.store.heights old.store.asked height is_cell
        (omega (arith, index_here, takes.within)) (omega (arith, index_here, takes.within, work.long.asked)) (λ i p q. refl) (λ i p q. refl))

    above : AreAbove g Contexts (found_of g old) (2 * height)
    above = subst (λ (k : ℕ). AreAbove g Contexts (found_of g old) k) lost.1 (least_above g old work.known (slice_index old.store.asked index) takes.least)

    key : (found_of g old).asked cell.at.number cell.pos.0 cell.state.0 ≡ 2 * height
    key = ap (slice_index old.store.asked) (sym index_here) ∙ lost.1

    functions_below : (i : ℕ) (c : Context) → slice_get Contexts i ≡ Some c → c.function < functions
    functions_below = below g functions routed alike old old work.known

    pub is_taken : IsTaken g new cell height
    is_taken = record {
      known = is_known;
      long = is_long;
      flagged = flagged_on g old new contexts takes.flags work.flagged;
      high = are_high;
      callers = are_callers;
      dues = are_due;
      there = at.is;
      some = some;
      taken = ap (λ (s : Found). s.height cell.at.number cell.pos.0 cell.state.0) found_new ∙ is_taken_there.here;
      right = subst (λ (cs : List Context). AreRight g cs (found_of g new)) (sym contexts) (subst (λ (s : Found). AreRight g Contexts s) (sym found_new)
          (taken_right g functions routed alike Contexts functions_below (found_of g old) work.found height some above cell.at.number cell.at.context cell.pos.0 cell.state.0 is_cell key
          Heights Asked is_taken_there));
      closed = subst (λ (cs : List Context). AllClosed g cs (found_of g new) (WaitsFor g cell.at.number cell.pos.0 cell.state.0)) (sym contexts)
          (subst (λ (s : Found). AllClosed g Contexts s (WaitsFor g cell.at.number cell.pos.0 cell.state.0)) (sym found_new)
          (taken_closed g functions routed alike Contexts functions_below (found_of g old) work.found height some above cell.at.number cell.at.context cell.pos.0 cell.state.0 is_cell key
          Heights Asked is_taken_there));
      called = subst (λ (cs : List Context). AllCalled g cs (found_of g new) (CallsThere g (found_of g new) cell.at.number cell.pos.0 cell.state.0)) (sym contexts)
          (subst (λ (s : Found). AllCalled g Contexts s (CallsThere g s cell.at.number cell.pos.0 cell.state.0)) (sym found_new)
          (taken_called g functions routed alike Contexts functions_below (found_of g old) work.found height some above cell.at.number cell.at.context cell.pos.0 cell.state.0 is_cell key
          Heights Asked is_taken_there));
      standing = subst (λ (cs : List Context). AllStanding g cs (found_of g new) (ReturnsThere g cs (found_of g new) cell.at.number cell.pos.0 cell.state.0)) (sym contexts)
          (subst (λ (s : Found). AllStanding g Contexts s (ReturnsThere g Contexts s cell.at.number cell.pos.0 cell.state.0)) (sym found_new)
          (taken_standing g functions routed alike Contexts functions_below (found_of g old) work.found height some above cell.at.number cell.at.context cell.pos.0 cell.state.0 is_cell key
          Heights Asked is_taken_there));
    }

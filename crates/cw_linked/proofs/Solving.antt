-- What the solver keeps at the beginning, from step to step, and in the end.
use Rattle.std.proofs.Common.{◌≡◌, ℕ, ◌+◌, ◌*◌, ◌<◌, Bool, List, [], Some, length, sym, ap, ◌∙◌, subst, arith}
use Rattle.std.specs.Prelude.{slice_get, slice_index, count_by, Contains}
use Rattle.std.proofs.lemmas.List.{get_or_past}
use Rattle.std.proofs.lemmas.Option.{none-some}
use Rattle.cw_lemmas.proofs.Lists.{get_contains}
use Rattle.cw_game.specs.Games.{Game}
use Rattle.cw_links.specs.Keys.{AreEmpty}
use Rattle.cw_solve.specs.declared.contexts.Context.{Context}
use Rattle.cw_solve.specs.declared.table.Blocks.{Blocks}
use Rattle.cw_solve.specs.declared.table.Table.{Table}
use Rattle.cw_solve.specs.Contexts.{cells_of, HeightIs, IsNeeded}
use Rattle.cw_product.specs.Routed.{AreRouted}
use Rattle.cw_solve.specs.Rounds.{slot, IsCell, height_by}
use Rattle.cw_solve.specs.Tables.{AreBlocks, is_none, IsTable, IsDone}
use Rattle.cw_linked.specs.declared.work.Work.{Work}
use Rattle.cw_linked.specs.Added.{IsOpen, AddsContext}
use Rattle.cw_linked.specs.Founds.{AreAlike, AreRight}
use Rattle.cw_linked.specs.declared.links.Stepped.TheVariants.{TooMany}
use Rattle.cw_linked.specs.Links.{TakesLink}
use Rattle.cw_linked.specs.Measures.{work_left}
use Rattle.cw_linked.specs.Popped.{IsWork, Finishes, TakesCell, FreesLink}
use Rattle.cw_linked.specs.Queues.{found_of}
use Rattle.cw_linked.specs.Solving.{IsBlankWork, IsAllKnown, Ends}
use Rattle.cw_linked.specs.Works.{Known, known_of, IsKnown, AreUpTo}
use Rattle.cw_linked.proofs.Bounding.{index_is}
use Rattle.cw_linked.proofs.Ending.{heights_are, all_tabled}
use Rattle.cw_linked.proofs.Linking.{freed_known}
use Rattle.cw_linked.proofs.Measuring.{taken_less, kept_left}
use Rattle.cw_linked.proofs.Popping.{none_above}
use Rattle.cw_linked.proofs.Telling.{below}

-- The beginning.

no_cell : (g : Game) (contexts : List Context) → contexts ≡ [] → (i : ℕ) (c : Context) (p q : ℕ) → IsCell g contexts i c p q → ⊥
no_cell g contexts none i c p q is = none-some c (sym (ap (λ (cs : List Context). slice_get cs i) none) ∙ is.at)

up_to_none : (values : List ℕ) (most : ℕ) → values ≡ [] → AreUpTo values most
up_to_none values most none k = let e = ap (λ (ys : List ℕ). slice_index ys k) none ∙ get_or_past [] k 0 (omega arith) in omega (arith, e)

module _ (g : Game) (w : Work) (blank : IsBlankWork w) where
  abbrev Contexts : List Context
  Contexts = w.blocks.contexts.items

  -- no number stands in a list
  long_as : (values : List ℕ) → values ≡ [] → length values ≡ length w.store.heights
  long_as values none = ap (λ (ys : List ℕ). length ys) none ∙ sym (ap (λ (ys : List ℕ). length ys) blank.store.heights)

  no_index : (k : ℕ) → k < length w.store.heights → ⊥
  no_index k lt = let e = ap (λ (ys : List ℕ). length ys) blank.store.heights in absurd (omega (arith, lt, e))

  no_context : length Contexts ≡ 0
  no_context = ap (λ (cs : List Context). length cs) blank.contexts

  blank_right : AreRight g Contexts (found_of g w)
  blank_right = record {
    taken = λ i c p q is lt. absurd (no_cell g Contexts blank.contexts i c p q is);
    lost = λ i c p q is lt. absurd (no_cell g Contexts blank.contexts i c p q is);
    linked = λ i c p k call is tied. absurd (no_cell g Contexts blank.contexts i c p k is.cell);
    later = λ i c p q call is es tied none. absurd (no_cell g Contexts blank.contexts i c p q is);
    past = λ i c p k call is tied n le. absurd (no_cell g Contexts blank.contexts i c p k is.cell);
    due = λ i c p k call is lt. absurd (no_cell g Contexts blank.contexts i c p k is.cell);
  }

  pub blank_open : IsOpen g w
  blank_open = record {
    laid = record {
      begins = λ i lt. absurd (omega (arith, lt, no_context));
      bases = ap (λ (ys : List ℕ). length ys) blank.bases ∙ sym no_context;
      cells = ap (λ (ys : List ℕ). length ys) blank.store.heights ∙ sym (ap (λ (cs : List Context). cells_of g cs) blank.contexts);
      counted = (
          let written = blank.written in
          let none = ap (λ (ys : List ℕ). count_by is_none ys) blank.store.heights in
          let length_is = ap (λ (ys : List ℕ). length ys) blank.store.heights in
          omega (arith, written, none, length_is));
    };
    long = record {
      flags = ap (λ (ms : List Bool). length ms) blank.store.flags ∙ sym (ap (λ (ys : List ℕ). length ys) blank.store.heights);
      asked = long_as w.store.asked blank.store.asked;
      due = long_as w.store.due blank.store.due;
      to = long_as w.store.to blank.store.to;
      waves = long_as w.store.waves blank.store.waves;
    };
    flagged = λ k l. absurd (no_cell g Contexts blank.contexts l.0 l.1 l.2 l.3 l.5.cell);
    high = record {
      heights = up_to_none w.store.heights w.written blank.store.heights;
      asked = up_to_none w.store.asked (2 * w.written + 2) blank.store.asked;
      due = up_to_none w.store.due (2 * w.written + 1) blank.store.due;
      waves = up_to_none w.store.waves w.written blank.store.waves;
    };
    callers = record {
      more = omega (arith, no_context, blank.store.lists);
      few = λ k lt. absurd (no_index k lt);
    };
    dues = λ k lt. absurd (no_index k lt);
    right = blank_right;
  }

  pub begun_work : (new : Work) (c : Context) → AddsContext g w new c → IsWork g new
  begun_work new c adds = record {
    known = adds.firm.known;
    long = adds.firm.long;
    flagged = adds.firm.flagged;
    high = adds.firm.high;
    callers = adds.firm.callers;
    dues = adds.firm.dues;
    found = record {
      right = adds.firm.right;
      closed = adds.closed (λ i c p q is. absurd (no_cell g w.blocks.contexts.items blank.contexts i c p q is));
      called = adds.called (λ i c p q is. absurd (no_cell g w.blocks.contexts.items blank.contexts i c p q is));
      standing = adds.standing (λ i c p k call is. absurd (no_cell g w.blocks.contexts.items blank.contexts i c p k is.cell));
    };
  }

-- A step.

module _ (g : Game) (functions : ℕ) (routed : AreRouted g functions) (alike : AreAlike g) where
  pub finished_less : (old mid new : Work) → IsWork g old → (index height : ℕ) → TakesCell old mid index height → Finishes g mid new mid.store.to → work_left g new < work_left g old
  finished_less old mid new work index height takes ends =
      let less = taken_less g functions routed alike old mid work index height takes in
      let same = kept_left g mid new ends.known ends.to in
      omega (arith, less, same)

  pub linked_less : (old mid new : Work) → (index moves : ℕ) → FreesLink old mid index moves → work_left g new < work_left g mid → work_left g new < work_left g old
  linked_less old mid new index moves frees less = let same = kept_left g old mid frees.others.known frees.others.to in omega (arith, less, same)

  pub linked_beyond : (old mid new : Work) → IsWork g old → (index moves : ℕ) → FreesLink old mid index moves → (c : Context) → TakesLink g mid new TooMany c → Ends g (known_of new) (Some c)
  linked_beyond old mid new work index moves frees c takes =
      (subst (λ (w : Work). IsKnown g (known_of w)) (sym takes.0) (freed_known g functions routed alike old mid work index moves frees), takes.1)

  -- The end.
  pub ended : (w : Work) → IsWork g w → AreEmpty w.store.asked w.store.due → IsAllKnown g (known_of w)
  ended w work out =
      let contexts = w.blocks.contexts.items in
      let functions_below = below g functions routed alike w w work.known in
      let above = none_above g w work.known out in
      record {
        heights = λ i c p q is. subst (λ (k : ℕ). HeightIs g p q c.promise (height_by (slice_index w.store.heights k))) (index_is g contexts i c p q is.at)
            (heights_are g functions routed alike contexts functions_below (found_of g w) work.found above i c p q is);
        all = all_tabled g functions routed alike contexts functions_below (found_of g w) work.found above (get_contains contexts 0 _ work.known.blocks.first);
      }

-- The table of what is known.
module _ (g : Game) (k : Known) (t : Table) (blocks : t.blocks ≡ k.blocks) (heights : t.heights.items ≡ k.heights) (written : t.written ≡ k.written) where
  abbrev AreHeights : Blocks → List ℕ → Type 0
  AreHeights b hs =
      (i : ℕ) (c : Context) (p q : ℕ) → IsCell g b.contexts.items i c p q → HeightIs g p q c.promise (height_by (slice_index hs (slot g b.contexts.items i c.function p q)))

  pub is_table : IsKnown g k → IsTable g t
  is_table known = record {
    blocks = subst (AreBlocks g) (sym blocks) known.blocks;
    cells = ap (λ (hs : List ℕ). length hs) heights ∙ known.cells ∙ ap (λ (b : Blocks). cells_of g b.contexts.items) (sym blocks);
    counted = ap (λ (n : ℕ). n + count_by is_none t.heights.items) written ∙ ap (λ (hs : List ℕ). k.written + count_by is_none hs) heights ∙ known.counted
        ∙ ap (λ (hs : List ℕ). length hs) (sym heights);
  }

  pub is_done : IsAllKnown g k → IsDone g t
  is_done all = record {
    heights = subst (λ (b : Blocks). AreHeights b t.heights.items) (sym blocks) (subst (λ (hs : List ℕ). AreHeights k.blocks hs) (sym heights) all.heights);
    all = subst (λ (b : Blocks). (c : Context) → IsNeeded g c → Contains b.contexts.items c) (sym blocks) all.all;
  }

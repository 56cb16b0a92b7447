-- What is found in the store, before and after a key is written.
use Rattle.std.proofs.Common.{◌≡◌, ℕ, ◌+◌, ◌-◌, ◌*◌, ◌<◌, List, false, not, Some, length, refl, sym, ap, ◌∙◌, subst, arith}
use Rattle.std.specs.Prelude.{slice_get, nat_eq}
use Rattle.cw_game.specs.Games.{Game, Holds}
use Rattle.cw_game.specs.Pairs.{has, Called}
use Rattle.cw_links.specs.Keys.{asked_with, lowered}
use Rattle.cw_solve.specs.declared.contexts.Context.{Context}
use Rattle.cw_product.specs.Routed.{AreRouted}
use Rattle.cw_solve.specs.Rounds.{IsCell}
use Rattle.cw_linked.specs.declared.work.Work.{Work}
use Rattle.cw_linked.specs.Founds.{Found, AreAlike, IsLink, IsShrinking, AreRight}
use Rattle.cw_linked.specs.Queues.{found_of, AreSameBut, AsksForCell, AsksForLink, AreLong}
use Rattle.cw_linked.specs.Steps.{with_keys, Lowers, AsksCell, AsksLink}
use Rattle.cw_linked.specs.Works.{Known, known_of, heights_of, value_at, index_at}
use Rattle.cw_linked.proofs.Asking.{asks_for_cell, asks_for_link}
use Rattle.cw_linked.proofs.Lowering.{asks_lowers, asks_right, link_lowers, link_right}

module _ (g : Game) where
  abbrev pub Keys : Work → Work → Found
  Keys old new = with_keys (found_of g old) (value_at g old.blocks.contexts.items new.store.asked) (value_at g old.blocks.contexts.items new.store.due)

  -- where only keys change, so does what is found
  pub found_keys : (old new : Work) → AreSameBut old new → found_of g new ≡ Keys old new
  found_keys old new same =
      ap (λ (t : Known). record {
        height = heights_of g t;
        asked = value_at g t.blocks.contexts.items new.store.asked;
        to = λ i p k. value_at g t.blocks.contexts.items new.store.to i p k - 1;
        wave = value_at g t.blocks.contexts.items new.store.waves;
        due = value_at g t.blocks.contexts.items new.store.due;
        tied = λ i p k. not (nat_eq (value_at g t.blocks.contexts.items new.store.to i p k) 0);
      }) same.known
      ∙ ap (λ (to : List ℕ). record {
        height = heights_of g (known_of old);
        asked = value_at g old.blocks.contexts.items new.store.asked;
        to = λ i p k. value_at g old.blocks.contexts.items to i p k - 1;
        wave = value_at g old.blocks.contexts.items new.store.waves;
        due = value_at g old.blocks.contexts.items new.store.due;
        tied = λ i p k. not (nat_eq (value_at g old.blocks.contexts.items to i p k) 0);
      }) same.to
      ∙ ap (λ (waves : List ℕ). record {
        height = heights_of g (known_of old);
        asked = value_at g old.blocks.contexts.items new.store.asked;
        to = λ i p k. value_at g old.blocks.contexts.items old.store.to i p k - 1;
        wave = value_at g old.blocks.contexts.items waves;
        due = value_at g old.blocks.contexts.items new.store.due;
        tied = λ i p k. not (nat_eq (value_at g old.blocks.contexts.items old.store.to i p k) 0);
      }) same.waves

module _ (g : Game) (functions : ℕ) (routed : AreRouted g functions) (alike : AreAlike g) (old new : Work)
    (below : (i : ℕ) (c : Context) → slice_get old.blocks.contexts.items i ≡ Some c → c.function < functions) (long : AreLong old) where
  -- a cell is asked for
  module _ (j : ℕ) (d : Context) (r x index key : ℕ) (cell : IsCell g old.blocks.contexts.items j d r x) (at : index ≡ index_at g old.blocks.contexts.items j r x)
      (within : index < length old.store.heights) (some : 0 < key) (asks : AsksForCell old new index key) where
    abbrev asked : ℕ → ℕ → ℕ → ℕ
    asked = value_at g old.blocks.contexts.items new.store.asked

    pub is_asked : AsksCell g old.blocks.contexts.items (found_of g old) asked j r x key
    is_asked = subst (λ (y : List ℕ). AsksCell g old.blocks.contexts.items (found_of g old) (value_at g old.blocks.contexts.items y) j r x key)
        (sym (asks.asked ∙ ap (λ (y : ℕ). asked_with old.store.heights old.store.asked y key) at))
        (asks_for_cell g old.blocks.contexts.items (found_of g old) old.store.heights old.store.asked old.store.due j d r x key some cell
        (omega (arith, at, within, long.asked)) refl (λ i p q. refl))

    same_due : (i p k : ℕ) → value_at g old.blocks.contexts.items new.store.due i p k ≡ (found_of g old).due i p k
    same_due i p k = ap (λ (y : List ℕ). value_at g old.blocks.contexts.items y i p k) asks.due

    abbrev Due : List ℕ → Found
    Due due = with_keys (found_of g old) asked (value_at g old.blocks.contexts.items due)

    pub cell_lowers : Lowers g old.blocks.contexts.items (found_of g old) asked (value_at g old.blocks.contexts.items new.store.due)
    cell_lowers = subst (λ (y : List ℕ). Lowers g old.blocks.contexts.items (found_of g old) asked (value_at g old.blocks.contexts.items y)) (sym asks.due)
        (asks_lowers g functions routed alike old.blocks.contexts.items below (found_of g old) j d r x cell asked key is_asked)

    pub cell_right : AreRight g old.blocks.contexts.items (found_of g old) → (n : ℕ) → key ≡ 2 * n → Holds g n r x (has d.promise) ≡ false → AreRight g old.blocks.contexts.items (Keys g old new)
    cell_right right n e lost = subst (λ (y : List ℕ). AreRight g old.blocks.contexts.items (Due y)) (sym asks.due)
        (asks_right g functions routed alike old.blocks.contexts.items below (found_of g old) j d r x cell asked key is_asked right n e lost)

  -- a link is asked for
  module _ (j : ℕ) (d : Context) (r x index key : ℕ) (call : Called) (link : IsLink g old.blocks.contexts.items j d r x call) (at : index ≡ index_at g old.blocks.contexts.items j r x)
      (within : index < length old.store.heights) (some : 0 < key) (asks : AsksForLink old new index key) where
    abbrev due : ℕ → ℕ → ℕ → ℕ
    due = value_at g old.blocks.contexts.items new.store.due

    pub is_due : AsksLink g old.blocks.contexts.items (found_of g old) due j r x key
    is_due = subst (λ (y : List ℕ). AsksLink g old.blocks.contexts.items (found_of g old) (value_at g old.blocks.contexts.items y) j r x key)
        (sym (asks.due ∙ ap (λ (y : ℕ). lowered old.store.due y key) at))
        (asks_for_link g old.blocks.contexts.items (found_of g old) old.store.heights old.store.asked old.store.due j d r x key some call link
        (omega (arith, at, within, long.due)) (λ i p q. refl))

    abbrev Asked : List ℕ → Found
    Asked asked = with_keys (found_of g old) (value_at g old.blocks.contexts.items asked) due

    pub links_lower : Lowers g old.blocks.contexts.items (found_of g old) (value_at g old.blocks.contexts.items new.store.asked) due
    links_lower = subst (λ (y : List ℕ). Lowers g old.blocks.contexts.items (found_of g old) (value_at g old.blocks.contexts.items y) due) (sym asks.asked)
        (link_lowers g functions routed alike old.blocks.contexts.items below (found_of g old) j d r x call link due key is_due)

    pub links_right : AreRight g old.blocks.contexts.items (found_of g old) → (n : ℕ) → key ≡ 2 * n + 1 → 0 < n → IsShrinking g old.blocks.contexts.items (found_of g old) j r x call n
        → AreRight g old.blocks.contexts.items (Keys g old new)
    links_right right n e more shrinks = subst (λ (y : List ℕ). AreRight g old.blocks.contexts.items (Asked y)) (sym asks.asked)
        (link_right g functions routed alike old.blocks.contexts.items below (found_of g old) j d r x call link due key is_due right n e more shrinks)

-- What a round leaves in a table, cell by cell.
use Rattle.std.proofs.Common.{◌≡◌, ℕ, suc, ◌+◌, ◌<◌, List, true, false, Some, length, get_or, set, sym, ap, ap₂, ◌∙◌, subst, arith, inl, inr}
use Rattle.std.specs.Prelude.{slice_get}
use Rattle.std.proofs.lemmas.Bool.{cases_eq}
use Rattle.cw_game.specs.Games.{Game, Holds}
use Rattle.std.proofs.lemmas.Option.{slice_get_within, get_or_from_slice_get}
use Rattle.cw_game.specs.Pairs.{has, all_states}
use Rattle.cw_solve.specs.declared.contexts.Context.{Context}
use Rattle.cw_solve.specs.declared.table.Blocks.{Blocks}
use Rattle.cw_solve.specs.declared.table.Table.{Table}
use Rattle.cw_solve.specs.Tabled.{Tabled}
use Rattle.cw_solve.specs.Contexts.{context, cells_of}
use Rattle.cw_product.specs.Routed.{AreRouted}
use Rattle.cw_solve.specs.Rounds.{slot, AreWritten, AreLooked, IsAsked, WereAsked}
use Rattle.cw_solve.specs.Tables.{IsTable, HasCell, IsAtRound, IsInRound, IsLater, IsDone, Writes}
use Rattle.cw_solve.proofs.Tabling.{there_at}
use Rattle.cw_solve.proofs.Written.{reads, widens}
use Rattle.cw_solve.proofs.Looking.{nothing_looked, looked_more, looked_written, written_more, round_written, round_asked, heights_are, all_tabled}

module _ (g : Game) (functions : ℕ) (routed : AreRouted g functions) where
  abbrev slot_of : Blocks → Tabled → ℕ → ℕ → ℕ
  slot_of b at p q = slot g b.contexts.items at.number at.context.function p q

  -- a cell that holds for one move more
  pub look_true : (t : Table) (at : Tabled) (n p q : ℕ) → HasCell g t.blocks at p q → IsInRound g t n (slot_of t.blocks at p q)
      → IsAsked g t.blocks.contexts.items n p q at.context.promise → Holds g (suc n) p q (has at.context.promise) ≡ true
      → IsInRound g t n (slot_of t.blocks at p q + 1)
  look_true t at n p q is round asked h = record {
    written = round.written;
    looked = looked_more g functions routed t.blocks.contexts.items t.heights.items n at.number at.context p q is round.looked (record { asked = asked; holds = λ z. h });
    low = round.low;
  }

  -- and one that doesn't
  pub look_false : (t new : Table) (at : Tabled) (n p q cell : ℕ) → IsTable g t → HasCell g t.blocks at p q → cell ≡ slot_of t.blocks at p q
      → cell < cells_of g t.blocks.contexts.items
      → IsInRound g t n (slot_of t.blocks at p q) → IsAsked g t.blocks.contexts.items n p q at.context.promise → Holds g (suc n) p q (has at.context.promise) ≡ false
      → Writes t new cell (n + 1) → IsInRound g new n (slot_of t.blocks at p q + 1)
  look_false t new at n p q cell table is index lt round asked h w =
      elim (cases_eq (get_or t.heights.items (slot_of t.blocks at p q) 0) 0) [
        | inl none ↦ written none (w.none (ap (λ y. get_or t.heights.items y 0) index ∙ none))
        | inr some ↦ kept some (w.some (λ z. some (ap (λ y. get_or t.heights.items y 0) (sym index) ∙ z)))
      ]
    where
      held : get_or t.heights.items (slot_of t.blocks at p q) 0 ≡ 0 → Holds g n p q (has at.context.promise) ≡ true
      held none =
          let r = reads g functions routed n (suc n) p q at.context.promise (get_or t.heights.items (slot_of t.blocks at p q) 0) is.state
          (round.written.each at.number at.context p q is) in
          sym (rw none at r)

      within : slot_of t.blocks at p q < length t.heights.items
      within = omega (arith, lt, index, table.cells)

      written : get_or t.heights.items (slot_of t.blocks at p q) 0 ≡ 0 → (new.heights.items ≡ set t.heights.items cell (n + 1)) × (new.written ≡ t.written + 1)
          → IsInRound g new n (slot_of t.blocks at p q + 1)
      written none e =
          let one : n + 1 ≡ suc n = omega arith in
          let heights : set t.heights.items (slot_of t.blocks at p q) (suc n) ≡ new.heights.items = ap₂ (λ (k v : ℕ). set t.heights.items k v)
          (sym index) (sym one) ∙ sym e.0 in
          let a = written_more g functions routed t.blocks.contexts.items t.heights.items n at.number at.context p q is within round.written (held none) h in
          let b = looked_written g functions routed t.blocks.contexts.items t.heights.items n at.number at.context p q is within round.looked asked in
          record {
            written = subst (λ (b : Blocks). AreWritten g b.contexts.items new.heights.items n (suc n)) (sym w.blocks)
                (subst (λ (hs : List ℕ). AreWritten g t.blocks.contexts.items hs n (suc n)) heights a);
            looked = subst (λ (b : Blocks). AreLooked g b.contexts.items new.heights.items n (slot_of t.blocks at p q + 1)) (sym w.blocks)
                (subst (λ (hs : List ℕ). AreLooked g t.blocks.contexts.items hs n (slot_of t.blocks at p q + 1)) heights b);
            low = omega (arith, e.1, round.low);
          }

      kept : (get_or t.heights.items (slot_of t.blocks at p q) 0 ≡ 0 → ⊥) → (new.heights.items ≡ t.heights.items) × (new.written ≡ t.written)
          → IsInRound g new n (slot_of t.blocks at p q + 1)
      kept some e =
          let b = looked_more g functions routed t.blocks.contexts.items t.heights.items n at.number at.context p q is round.looked (record { asked = asked; holds = λ z. absurd (some z) }) in
          record {
            written = subst (λ (b : Blocks). AreWritten g b.contexts.items new.heights.items n (suc n)) (sym w.blocks)
                (subst (λ (hs : List ℕ). AreWritten g t.blocks.contexts.items hs n (suc n)) (sym e.0) round.written);
            looked = subst (λ (b : Blocks). AreLooked g b.contexts.items new.heights.items n (slot_of t.blocks at p q + 1)) (sym w.blocks)
                (subst (λ (hs : List ℕ). AreLooked g t.blocks.contexts.items hs n (slot_of t.blocks at p q + 1)) (sym e.0) b);
            low = omega (arith, e.1, round.low);
          }

  -- before the first cell of a round
  pub round_begins : (t : Table) (n : ℕ) → IsAtRound g t n → IsInRound g t n 0
  round_begins t n at = record {
    written = record {
      each = λ i c p q is. widens g functions routed n n (suc n) p q c.promise (get_or t.heights.items (slot g t.blocks.contexts.items i c.function p q) 0) (omega arith)
          (at.written.each i c p q is);
    };
    looked = nothing_looked g t.blocks.contexts.items t.heights.items n;
    low = at.low;
  }

  -- after a round that wrote something
  pub round_ends : (t new : Table) (n : ℕ) → IsAtRound g t n → IsLater t new → IsInRound g new n (cells_of g new.blocks.contexts.items) → (new.written ≡ t.written → ⊥) → IsAtRound g new (n + 1)
  round_ends t new n at later round more =
      let one : n + 1 ≡ suc n = omega arith in
      rw one (record {
        written = round_written g functions routed new.blocks.contexts.items new.heights.items n (suc n) round.written round.looked;
        asked = round_asked g functions routed new.blocks.contexts.items new.heights.items n (subst (λ (b : Blocks). WereAsked g b.contexts.items n) (sym later.blocks) at.asked) round.looked;
        low = omega (arith, later.more, more, at.low);
      })

  -- after a round that wrote nothing
  pub round_rests : (t new : Table) (n : ℕ) → IsTable g new → IsAtRound g t n → IsLater t new → IsInRound g new n (cells_of g new.blocks.contexts.items) → new.written ≡ t.written → IsDone g new
  round_rests t new n table at later round same =
      let w : AreWritten g new.blocks.contexts.items new.heights.items n n
      = subst (λ (b : Blocks). AreWritten g b.contexts.items new.heights.items n n) (sym later.blocks)
      (subst (λ (hs : List ℕ). AreWritten g t.blocks.contexts.items hs n n) (sym (later.same (sym same))) at.written) in
      let below : (i : ℕ) (c : Context) → slice_get new.blocks.contexts.items i ≡ Some c → c.function < functions = λ i c at. (there_at g functions routed new.blocks table.blocks i c at).below in
      let were : WereAsked g new.blocks.contexts.items n = subst (λ (b : Blocks). WereAsked g b.contexts.items n) (sym later.blocks) at.asked in
      let contexts = new.blocks.contexts.items in
      let main = context g.main (all_states g) in
      record {
        heights = λ i c p q is. heights_are g functions routed contexts new.heights.items n w round.looked were below i c p q is;
        all = λ c need. all_tabled g functions routed contexts new.heights.items n w round.looked were below
            (0, slice_get_within contexts 0 main table.blocks.first, get_or_from_slice_get contexts 0 main main table.blocks.first) c need;
      }

-- What a table keeps tells of its contexts and cells.
use Rattle.std.proofs.Common.{◌≡◌, ℕ, suc, ◌<◌, Some, length, get_or, take, sym, ap, ap₂, ◌∙◌, arith}
use Rattle.std.specs.Prelude.{slice_get, slice_index, nat_lt, ◌||◌}
use Rattle.std.proofs.lemmas.Bool.{ne_eqb}
use Rattle.std.proofs.lemmas.List.{get_or_default}
use Rattle.std.proofs.lemmas.Option.{slice_get_within, get_or_from_slice_get, same_Some}
use Rattle.cw_game.specs.Games.{Game, Holds}
use Rattle.cw_game.specs.Pairs.{has}
use Rattle.cw_solve.specs.declared.contexts.Context.{Context}
use Rattle.cw_solve.specs.declared.table.Blocks.{Blocks}
use Rattle.cw_solve.specs.declared.table.Table.{Table}
use Rattle.cw_solve.specs.Tabled.{Tabled}
use Rattle.cw_solve.specs.Contexts.{cells_of, IsNeeded, of_main, of_call}
use Rattle.cw_product.specs.Routed.{IsThere, AreRouted}
use Rattle.cw_solve.specs.Rounds.{slot, holds_by, AreWritten}
use Rattle.cw_solve.specs.Tables.{AreBlocks, IsTabled, HasCell}
use Rattle.cw_solve.proofs.Written.{reads}

-- a context that is tabled under a number is the one that stands there
pub same_context : (b : Blocks) (at : Tabled) (i : ℕ) (c : Context) → at.number ≡ i → IsTabled b at → slice_get b.contexts.items i ≡ Some c → at.context ≡ c
same_context b at i c number there is = same_Some at.context c (sym there ∙ ap (slice_get b.contexts.items) number ∙ is)

abbrev numbered : ℕ → Context → Tabled
numbered i c = record { number = i; context = c }

pub same_tabled : (b : Blocks) (at : Tabled) (i : ℕ) (c : Context) → at.number ≡ i → IsTabled b at → slice_get b.contexts.items i ≡ Some c → at ≡ record { number = i; context = c }
same_tabled b at i c number there is = ap₂ numbered number (same_context b at i c number there is)

-- .. and the one that is read there
pub read_context : (b : Blocks) (at : Tabled) (n : ℕ) (c : Context) → n ≡ at.number → IsTabled b at → c ≡ get_or b.contexts.items n c → c ≡ at.context
read_context b at n c number there read = read ∙ ap (λ (y : ℕ). get_or b.contexts.items y c) number ∙ get_or_from_slice_get b.contexts.items at.number at.context c there

module _ (g : Game) (functions : ℕ) (routed : AreRouted g functions) where
  pub there : (c : Context) → IsNeeded g c → IsThere g functions c.function
  there _ of_main = routed.main
  there _ (of_call c n p q set call need of s es is) = routed.called p call es

  pub there_at : (b : Blocks) → AreBlocks g b → (i : ℕ) (c : Context) → slice_get b.contexts.items i ≡ Some c → IsThere g functions c.function
  there_at b are i c at = there c (are.needed.needed c (i, slice_get_within b.contexts.items i c at, get_or_from_slice_get b.contexts.items i c c at))

  -- what is written tells whether a pair holds
  pub read : (t : Table) (n : ℕ) → AreWritten g t.blocks.contexts.items t.heights.items n (suc n) → (at : Tabled) (p q k : ℕ) → HasCell g t.blocks at p q
      → k ≡ slice_index t.heights.items (slot g t.blocks.contexts.items at.number at.context.function p q) → holds_by n k ≡ Holds g n p q (has at.context.promise)
  read t n w at p q k is e = ap (holds_by n) e ∙ reads g functions routed n (suc n) p q at.context.promise
      (slice_index t.heights.items (slot g t.blocks.contexts.items at.number at.context.function p q)) is.state (w.each at.number at.context p q is)

  pub read_some : (t : Table) (n : ℕ) → AreWritten g t.blocks.contexts.items t.heights.items n (suc n) → (at : Tabled) (p q k : ℕ) → HasCell g t.blocks at p q
      → k ≡ slice_index t.heights.items (slot g t.blocks.contexts.items at.number at.context.function p q) → (k ≡ 0 → ⊥) → nat_lt n k ≡ Holds g n p q (has at.context.promise)
  read_some t n w at p q k is e some = sym (ap (λ b. b || nat_lt n k) (ne_eqb k 0 some)) ∙ read t n w at p q k is e

  -- where the cells of a context begin
  pub base_at : (b : Blocks) → AreBlocks g b → (i : ℕ) (c : Context) → slice_get b.contexts.items i ≡ Some c → (k : ℕ) → k ≡ get_or b.bases.items i k → k ≡ cells_of g (take i b.contexts.items)
  base_at b are i c at k e =
      let lt : i < length b.contexts.items = slice_get_within b.contexts.items i c at in
      e ∙ get_or_default b.bases.items i k 0 (omega (arith, lt, are.bases)) ∙ are.begins i lt

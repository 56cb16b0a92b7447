-- The context that is near, and its cell at an index.
use Rattle.std.proofs.Common.{◌≡◌, ℕ, ◌+◌, ◌-◌, ◌*◌, ◌/◌, ◌<◌, ◌≤◌, get_or, refl, sym, ap, ◌∙◌, subst, arith}
use Rattle.std.proofs.lemmas.Option.{slice_get_within}
use Rattle.cw_core.specs.declared.ids.PosId.{PosId}
use Rattle.cw_core.specs.declared.ids.StateId.{StateId}
use Rattle.cw_game.specs.Games.{Game}
use Rattle.cw_solve.specs.declared.table.Blocks.{Blocks}
use Rattle.cw_solve.specs.Tabled.{Tabled}
use Rattle.cw_product.specs.Routed.{AreRouted}
use Rattle.cw_solve.specs.Rounds.{base, positions}
use Rattle.cw_solve.specs.Tables.{AreBlocks, IsTabled}
use Rattle.cw_solve.proofs.Slots.{base_more, base_within}
use Rattle.cw_linked.specs.declared.block.Block.{Block}
use Rattle.cw_linked.specs.declared.home.Home.{Home}
use Rattle.cw_linked.specs.declared.work.Work.{Work}
use Rattle.cw_linked.specs.Blocks.{IsBlock}
use Rattle.cw_linked.specs.Homes.{IsHomeOf}
use Rattle.cw_linked.specs.Queues.{IsOwner, IsCellAt}
use Rattle.cw_linked.specs.Works.{known_of, IsKnown, cell_of}
use Rattle.cw_linked.proofs.Placing.{base_is, function_there, state_below, cell_is}

-- Where the block of a context ends.
module _ (g : Game) (b : Blocks) (blocks : AreBlocks g b) (at : Tabled) (there : IsTabled b at) (block : Block) (is : IsBlock g b at block) (count : ℕ) (states : count ≡ g.states.count) where
  long : block.many * count ≡ positions g at.context.function * g.states.count
  long = ap (λ (n : ℕ). n * count) is.runs ∙ ap (λ (n : ℕ). positions g at.context.function * n) states

  pub block_ends : block.base + block.many * count ≡ base g b.contexts.items (at.number + 1)
  block_ends = let more = base_more g b.contexts.items at.number at.context there in omega (arith, is.begins, more, long)

  pub block_low : block.base + block.many * count ≤ 4194304
  block_low = let within = base_within g b.contexts.items at.number at.context there in omega (arith, is.begins, within, long, blocks.few)

  -- with any cell of the context that was looked at last
  pub home_made : (pos : PosId) (state : StateId) (run : ℕ) (earlier : ℕ) → run ≡ positions g at.context.function
      → IsHomeOf g b.contexts.items (record { cell = cell_of at pos state; block = block; past = block.base + block.many * count; run = run; earlier = earlier })
  home_made pos state run earlier is_run = record { there = there; begins = is.begins; ends = block_ends; enters = is.enters; runs = is.runs; run = is_run ∙ sym is.runs }

  -- and it has each index of which the context is the owner
  pub block_has : (i index : ℕ) → at.number ≡ i → IsOwner g b.contexts.items i index → (block.base ≤ index) × (index < block.base + block.many * count)
  block_has i index number owner =
      let own : IsOwner g b.contexts.items at.number index = subst (λ (y : ℕ). IsOwner g b.contexts.items y index) (sym number) owner in
      (omega (arith, is.begins, own.1), omega (arith, block_ends, own.2))

-- The cell at an index of the context that is near.
module _ (g : Game) (functions : ℕ) (routed : AreRouted g functions) (w : Work) (known : IsKnown g (known_of w)) (h : Home) (home : IsHomeOf g w.blocks.contexts.items h) where
  pub is_block : IsBlock g w.blocks h.cell.at h.block
  is_block = record { begins = home.begins; enters = home.enters; runs = home.runs }

  module _ (k : ℕ) (from : h.block.base ≤ k) (before : k < h.past) (s q : ℕ) (run : s ≡ h.run) (quotient : q ≡ (k - h.block.base) / h.run) where
    owner : IsOwner g w.blocks.contexts.items h.cell.at.number k
    owner = (
      slice_get_within w.blocks.contexts.items h.cell.at.number h.cell.at.context home.there,
      omega (arith, home.begins, from),
      omega (arith, home.ends, before),
    )

    read : h.block.base ≡ get_or w.blocks.bases.items h.cell.at.number h.block.base
    read = home.begins ∙ sym (base_is g w.blocks known.blocks h.cell.at.number h.block.base owner.0)

    by_is : s ≡ positions g h.cell.at.context.function
    by_is = run ∙ home.run ∙ home.runs

    times : q ≡ (k - h.block.base) / s
    times = quotient ∙ ap (λ (y : ℕ). (k - h.block.base) / y) (sym run)

    pub state_here : q < g.states.count
    state_here = let lt = state_below g functions routed w known k h.cell.at.number h.cell.at owner refl home.there h.block.base s read by_is in omega (arith, lt, times)

    pub cell_here : IsCellAt g w k (record { at = h.cell.at; pos = record { 0 = h.block.first + (k - h.block.base - q * s) }; state = record { 0 = q } })
    cell_here = cell_is g functions routed w known k h.cell.at.number h.cell.at owner refl home.there h.block.base s h.block.first q read by_is home.enters times

    pub pos_low : h.block.first + (k - h.block.base - q * s) < 1048576
    pos_low = let f = function_there g functions routed w known k h.cell.at.number h.cell.at owner refl home.there in omega (arith, cell_here.is.of.1, f.ends, routed.short)

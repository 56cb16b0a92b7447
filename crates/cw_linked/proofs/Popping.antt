-- What the least key tells.
use Rattle.std.proofs.Common.{ℕ, arith}
use Rattle.cw_game.specs.Games.{Game}
use Rattle.cw_links.specs.Keys.{AreFrom, AreEmpty}
use Rattle.cw_linked.specs.declared.work.Work.{Work}
use Rattle.cw_linked.specs.Founds.{AreAbove}
use Rattle.cw_linked.specs.Queues.{found_of}
use Rattle.cw_linked.specs.Works.{known_of, IsKnown, index_at}

module _ (g : Game) (w : Work) (known : IsKnown g (known_of w)) where
  -- where the key is the least, no key of a cell or a link is below
  pub least_above : (key : ℕ) → AreFrom w.store.asked w.store.due key → AreAbove g w.blocks.contexts.items (found_of g w) key
  least_above key from = record {
    cells = λ i c p q is some. from.cells (index_at g w.blocks.contexts.items i p q) some;
    links = λ i c p k call is some. from.links (index_at g w.blocks.contexts.items i p k) some;
  }

  -- and where none is in, none is there
  pub none_above : AreEmpty w.store.asked w.store.due → (key : ℕ) → AreAbove g w.blocks.contexts.items (found_of g w) key
  none_above empty key = record {
    cells = λ i c p q is some. absurd (let e = empty.cells (index_at g w.blocks.contexts.items i p q) in omega (arith, e, some));
    links = λ i c p k call is some. absurd (let e = empty.links (index_at g w.blocks.contexts.items i p k) in omega (arith, e, some));
  }
